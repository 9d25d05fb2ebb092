-- The block that filters an output's askers: who remains.
use Rattle.std.specs.Prelude.{Bool, false, List, [], ◌∷◌, ◌++◌, ℕ, get_or}
use Rattle.routing.specs.Four.{four}
use Rattle.gates.specs.Evaluation.{value_of}
use Rattle.blocks.specs.Lines.{lines, four_nets}
use Rattle.blocks.specs.Kinds.{and2, or2, nor3}

-- nets 0 to 3: the input asks in the high class; 4 to 7: it asks
abbrev pub filter_words : List ℕ
filter_words =
    nor3 1 2 3 ∷ and2 8 4 ∷ or2 9 0
    ∷ nor3 0 2 3 ∷ and2 11 5 ∷ or2 12 1
    ∷ nor3 0 1 3 ∷ and2 14 6 ∷ or2 15 2
    ∷ nor3 0 1 2 ∷ and2 17 7 ∷ or2 18 3
    ∷ []

abbrev pub filter_nets : List Bool → List Bool → ℕ
filter_nets high asks = value_of filter_words 8 (lines (four (λ i. get_or high i false) ++ four (λ i. get_or asks i false)))

-- nets 10, 13, 16 and 19: the input remains
unfoldable pub filtered : List Bool → List Bool → List Bool
filtered high asks = four_nets (filter_nets high asks) 10 13 16 19
