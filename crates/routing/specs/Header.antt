-- The header byte: bits 7..4 spare, bits 3..2 the output asked for, bit 1 priority, bit 0 active.
use Rattle.std.specs.Prelude.{Bool, ◌&&◌, List, ℕ, ◌/◌, ◌%◌, eqb, get_or}
use Rattle.routing.specs.Four.{some}

abbrev pub active : ℕ → Bool
active h = eqb (h % 2) 1

abbrev pub priority : ℕ → Bool
priority h = eqb (h / 2 % 2) 1

abbrev pub output_asked : ℕ → ℕ
output_asked h = h / 4 % 4

-- a header asks for output o; it asks for it in the high class
abbrev pub asks : ℕ → ℕ → Bool
asks o h = active h && eqb (output_asked h) o

abbrev pub asks_high : ℕ → ℕ → Bool
asks_high o h = asks o h && priority h

-- of the four headers, input i's
abbrev pub header_of : List ℕ → ℕ → ℕ
header_of headers i = get_or headers i 0

-- input i asks for output o; it asks for it in the high class
abbrev pub asker : List ℕ → ℕ → ℕ → Bool
asker headers o i = asks o (header_of headers i)

abbrev pub high_asker : List ℕ → ℕ → ℕ → Bool
high_asker headers o i = asks_high o (header_of headers i)

-- some header is active
abbrev pub some_active : List ℕ → Bool
some_active headers = some (λ i. active (header_of headers i))
