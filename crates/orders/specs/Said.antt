-- What the program's answer to an order says: whether a frame's records are there, and how many bytes it has said.
use Rattle.std.specs.Prelude.{◌≡◌, Bool, true, false, ℕ, Result, Ok, Err}
use Rattle.orders.specs.declared.words.LastLine.{LastLine}

abbrev pub written_by : Result ℕ LastLine → Bool
written_by (Ok n) = true
written_by (Err line) = false

abbrev pub length_by : Result ℕ LastLine → ℕ
length_by (Ok n) = n
length_by (Err line) = line.length

-- The two say all of the answer.
abbrev pub SaidSettles : Type 0
SaidSettles = (a b : Result ℕ LastLine) → written_by a ≡ written_by b → length_by a ≡ length_by b → a ≡ b
