-- Document 01's worked values as one table: four headers, three gate words, five turn edges. One test for a row, and all rows pass.
use Rattle.std.specs.Prelude.{Bool, true, false, not, ◌&&◌, List, [], ◌∷◌, ℕ, ◌+◌, ◌*◌, T, eqb, get_or}
use Rattle.std.specs.Bool.{beq}
use Rattle.routing.specs.Four.{four}
use Rattle.routing.specs.Header.{asks, asks_high}
use Rattle.routing.specs.Port.{input}
use Rattle.fabric.specs.Cycle.{holder_after}
use Rattle.words.specs.Word.{kind_of, used, word, every, wrong}

-- in which class an input asks for an output, if it asks
pub data Class : Type 0 where
  nobody : Class
  low : Class
  high : Class

-- Three kinds of rows: a header, the output that it asks for and the class; a gate word, its kind and the nets that it reads; the old holder, what
-- inputs 0..3 ask, and the holder after the routing.
pub data Row : Type 0 where
  header : ℕ → ℕ → Class → Row
  gate : ℕ → ℕ → List ℕ → Row
  turn : ℕ → List Class → ℕ → Row

abbrev pub table : List Row
table =
    header 0x05 1 low
    ∷ header 0x07 1 high
    ∷ header 0x0D 3 low
    ∷ header 0x02 0 nobody
    ∷ gate 0x20420002 2 (1 ∷ 2 ∷ [])
    ∷ gate 0x11400001 1 (5 ∷ [])
    ∷ gate 0x80010834 8 (0 ∷ 1 ∷ 2 ∷ 3 ∷ [])
    ∷ turn 3 (nobody ∷ nobody ∷ nobody ∷ low ∷ []) 3
    ∷ turn 0 (low ∷ low ∷ nobody ∷ nobody ∷ []) 1
    ∷ turn 3 (low ∷ nobody ∷ nobody ∷ low ∷ []) 0
    ∷ turn 1 (nobody ∷ high ∷ low ∷ nobody ∷ []) 1
    ∷ turn 2 (nobody ∷ nobody ∷ nobody ∷ nobody ∷ []) 2
    ∷ []

abbrev pub is_nobody : Class → Bool
is_nobody nobody = true
is_nobody low = false
is_nobody high = false

abbrev pub is_high : Class → Bool
is_high nobody = false
is_high low = false
is_high high = true

-- a header that asks for output o in a class
abbrev pub asking : ℕ → Class → ℕ
asking o nobody = 0
asking o low = 4 * o + 1
asking o high = 4 * o + 3

-- two lists of numbers are the same
abbrev pub same : List ℕ → List ℕ → Bool
same [] [] = true
same [] (y ∷ ys) = false
same (x ∷ xs) [] = false
same (x ∷ xs) (y ∷ ys) = eqb x y && same xs ys

-- a header asks for that output in that class, and for no other output
abbrev pub header_passes : ℕ → ℕ → Class → Bool
header_passes byte output class =
    every (four (λ o. beq (asks o byte) (eqb o output && not (is_nobody class)) && beq (asks_high o byte) (eqb o output && is_high class)))

-- a gate word is made of its kind and nets, gives them back, and is not wrong
abbrev pub gate_passes : ℕ → ℕ → List ℕ → Bool
gate_passes w kind nets = eqb (word kind nets) w && eqb (kind_of w) kind && same (used (λ n. n) w) nets && not (wrong w)

-- the holder after the routing comes out as the row says, for each output
abbrev pub turn_passes : ℕ → List Class → ℕ → Bool
turn_passes holder classes after =
    every (four (λ o. eqb (holder_after true (four (λ i. asking o (get_or classes i nobody))) o (input holder)).0 after))

abbrev pub row_passes : Row → Bool
row_passes (header byte output class) = header_passes byte output class
row_passes (gate w kind nets) = gate_passes w kind nets
row_passes (turn holder classes after) = turn_passes holder classes after

abbrev pub all_pass : List Row → Bool
all_pass [] = true
all_pass (row ∷ rows) = row_passes row && all_pass rows

abbrev pub WorkedTable : Type 0
WorkedTable = T (all_pass table)
