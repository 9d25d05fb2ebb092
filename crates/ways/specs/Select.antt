-- The block that selects the input that an output lets through.
use Rattle.std.specs.Prelude.{Bool, List, [], ◌∷◌, ℕ}
use Rattle.gates.specs.Evaluation.{value_of}
use Rattle.blocks.specs.Lines.{lines, four_nets}
use Rattle.blocks.specs.Kinds.{inv, nor3}

-- nets 0 and 1 the holder's low and high bit, 2 shut
abbrev pub select_words : List ℕ
select_words = inv 0 ∷ inv 1 ∷ nor3 1 0 2 ∷ nor3 1 3 2 ∷ nor3 4 0 2 ∷ nor3 4 3 2 ∷ []

abbrev pub select_nets : Bool → Bool → Bool → ℕ
select_nets low high shut = value_of select_words 3 (lines (low ∷ high ∷ shut ∷ []))

-- nets 5 to 8: the output lets input 0, 1, 2 or 3 through
unfoldable pub selected : Bool → Bool → Bool → List Bool
selected low high shut = four_nets (select_nets low high shut) 5 6 7 8
