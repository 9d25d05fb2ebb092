-- What a frame is to hold, and so what each of its cycles brings. Its cycles are counted from its own frame start, so ts is 0.
use Rattle.std.specs.Prelude.{Bool, cond, not, List, [], ℕ, ◌+◌, ◌-◌, eqb, ltb, length, get_or, drop}
use Rattle.routing.specs.Four.{four}
use Rattle.fabric.specs.declared.cycle.Inputs.{Inputs}
use Rattle.records.specs.Record.{byte_at, flag_at}

-- the quiet cycles between frame start and header, the frame's length in cycles, the acknowledgements of outputs 0..3, the cells of inputs 0..3
pub record Plan : Type 0 where
  pub gap : ℕ
  pub cycles : ℕ
  pub acks : List Bool
  pub cells : List (List ℕ)

abbrev pub planned : ℕ → ℕ → List Bool → List (List ℕ) → Plan
planned gap cycles acks cells = record { gap = gap; cycles = cycles; acks = acks; cells = cells }

-- A cell is its header with its body behind it. Where there are no bytes there is no cell.
abbrev pub cell_of : Plan → ℕ → List ℕ
cell_of p i = get_or p.cells i []

abbrev pub is_cell : List ℕ → Bool
is_cell cell = not (eqb (length cell) 0)

abbrev pub header_in : List ℕ → ℕ
header_in cell = byte_at cell 0

abbrev pub body_in : List ℕ → List ℕ
body_in cell = drop 1 cell

-- The headers are sent in cycle th. The next frame start falls in cycle te.
abbrev pub th : Plan → ℕ
th p = p.gap + 1

abbrev pub te : Plan → ℕ
te p = p.cycles

-- what is sent in cycle k of a cell whose header is sent in cycle `first`: its bytes one after the other, and zeros before and behind them
abbrev pub sent_of : ℕ → List ℕ → ℕ → ℕ
sent_of first cell k = cond (ltb k first) 0 (byte_at cell (k - first))

-- what input i sends in cycle k; without a cell, zeros
abbrev pub sends : Plan → ℕ → ℕ → ℕ
sends p k i = sent_of (th p) (cell_of p i) k

-- the inputs of cycle k: the frame start in cycle 0 alone, the acknowledgements in every cycle
abbrev pub inputs_of : Plan → ℕ → Inputs
inputs_of p k = record { frame = eqb k 0; bytes = four (sends p k); acks = four (flag_at p.acks) }
