-- The block that chooses one bit of four. It serves the data bits and the acknowledgements.
use Rattle.std.specs.Prelude.{Bool, false, List, [], ◌∷◌, ◌++◌, ℕ, get_or}
use Rattle.routing.specs.Four.{four, bit_at}
use Rattle.gates.specs.Evaluation.{value_of}
use Rattle.blocks.specs.Lines.{lines}
use Rattle.blocks.specs.Kinds.{or2, ao}

-- nets 0 to 3 the bits; 4 to 7: the bit is let through
abbrev pub choose_words : List ℕ
choose_words = ao 0 4 1 5 ∷ ao 2 6 3 7 ∷ or2 8 9 ∷ []

abbrev pub choose_nets : List Bool → List Bool → ℕ
choose_nets bits lets = value_of choose_words 8 (lines (four (λ i. get_or bits i false) ++ four (λ i. get_or lets i false)))

-- net 10: the bit that is let through
unfoldable pub chosen : List Bool → List Bool → Bool
chosen bits lets = bit_at 10 (choose_nets bits lets)
