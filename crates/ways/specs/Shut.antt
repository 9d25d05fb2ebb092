-- The block of the shut flag.
use Rattle.std.specs.Prelude.{Bool, false, List, [], ◌∷◌, ℕ, get_or}
use Rattle.routing.specs.Four.{four, bit_at}
use Rattle.gates.specs.Evaluation.{value_of}
use Rattle.blocks.specs.Lines.{lines}
use Rattle.blocks.specs.Kinds.{inv, and2, or2, or4}

-- nets 0 shut, 1 frame start, 2 a routing happens, 3 to 6: the input remains
abbrev pub shut_words : List ℕ
shut_words = or4 3 4 5 6 ∷ and2 7 2 ∷ inv 8 ∷ and2 0 9 ∷ or2 10 1 ∷ []

abbrev pub shut_nets : Bool → Bool → Bool → List Bool → ℕ
shut_nets shut start routing remain = value_of shut_words 7 (lines (shut ∷ start ∷ routing ∷ four (λ i. get_or remain i false)))

-- net 11: shut in the next cycle
unfoldable pub shut_next : Bool → Bool → Bool → List Bool → Bool
shut_next shut start routing remain = bit_at 11 (shut_nets shut start routing remain)
