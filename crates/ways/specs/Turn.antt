-- The block of the turn: an output's next holder.
use Rattle.std.specs.Prelude.{Bool, false, List, [], ◌∷◌, ◌++◌, ℕ, get_or}
use Rattle.routing.specs.Four.{four, bit_at}
use Rattle.gates.specs.Evaluation.{value_of}
use Rattle.ways.specs.declared.turn.Holder.{Holder}
use Rattle.blocks.specs.Lines.{lines}
use Rattle.blocks.specs.Kinds.{inv, and2, or2, ao}

-- nets 0 to 3: the input remains; 4 and 5 the holder's low and high bit, 6 a routing happens
abbrev pub turn_words : List ℕ
turn_words =
    inv 0 ∷ inv 1 ∷ inv 2 ∷ inv 3 ∷ inv 5 ∷ inv 4 ∷ inv 6
    ∷ or2 4 8 ∷ or2 3 2 ∷ and2 14 15
    ∷ or2 4 10 ∷ or2 0 1 ∷ and2 17 18
    ∷ or2 5 9 ∷ or2 11 7 ∷ ao 20 3 21 1
    ∷ or2 11 8 ∷ or2 5 10 ∷ ao 23 2 24 0
    ∷ inv 19 ∷ inv 25
    ∷ ao 16 11 26 5 ∷ ao 22 12 27 4
    ∷ ao 6 28 13 5 ∷ ao 6 29 13 4
    ∷ []

abbrev pub turn_nets : List Bool → Bool → Bool → Bool → ℕ
turn_nets remain low high routing = value_of turn_words 7 (lines (four (λ i. get_or remain i false) ++ low ∷ high ∷ routing ∷ []))

-- nets 31 and 30: the next holder's low and high bit
abbrev holder : ℕ → Holder
holder v = record { low = bit_at 31 v; high = bit_at 30 v }

-- the number that two bits make
abbrev pub number_of : Holder → ℕ
number_of h = lines (h.low ∷ h.high ∷ [])

unfoldable pub turned : List Bool → Bool → Bool → Bool → Holder
turned remain low high routing = holder (turn_nets remain low high routing)
