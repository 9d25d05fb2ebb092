-- Four routings in a row.
use Rattle.std.specs.Prelude.{ℕ, ◌+◌, ◌<◌}
use Rattle.runs.specs.Run.{Run}
use Rattle.runs.specs.Routing.{InHighestClass, Wins, KthRouting}

-- routings number k, k+1, .. of the run, n of them, in the cycles given: in a row, with any cycles between
abbrev pub InARow : Run → ℕ → ℕ → (ℕ → ℕ) → Type 0
InARow r n k cycle = (j : ℕ) → j < n → KthRouting r (k + j) (cycle j)

-- input i wins output o at one of n routings
pub record WinsOneOf (r : Run) (n : ℕ) (cycle : ℕ → ℕ) (i o : ℕ) : Type 0 where
  pub which : ℕ
  pub is_one : which < n
  pub wins : Wins r (cycle which) i o

-- An input that asks for one output at four routings in a row, each time in the highest class asking for it, wins at least one of them.
abbrev pub FourRoutings : Run → Type 0
FourRoutings r =
    (i o k : ℕ) (cycle : ℕ → ℕ) → i < 4 → o < 4 → InARow r 4 k cycle → ((j : ℕ) → j < 4 → InHighestClass r (cycle j) i o)
    → WinsOneOf r 4 cycle i o
