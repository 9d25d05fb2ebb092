-- The listing: a heading, then a line for each cycle. Cycles are decimal, bytes upper-case hex; a newline ends each line.
use Rattle.std.specs.Prelude.{List, [], ◌∷◌, ◌++◌, ℕ, zero, suc}
use Rattle.text.specs.Ascii.{ascii}
use Rattle.text.specs.Digits.{decimal, hex}
use Rattle.places.specs.Capture.{records, record_at}

abbrev pub heading : List ℕ
heading = ascii "cycle ack h0 h1 h2 h3\n"

-- bytes in hex, a blank before each
unfoldable pub columns : List ℕ → List ℕ
columns [] = []
columns (b ∷ bytes) = (ascii " " ++ hex b) ++ columns bytes

-- cycle k: its number, the acknowledgements, the four heads
abbrev pub line : ℕ → List ℕ → List ℕ
line k answer = decimal k ++ columns answer ++ ascii "\n"

-- the lines of n cycles from cycle k on
unfoldable pub lines_from : List ℕ → ℕ → ℕ → List ℕ
lines_from answers k zero = []
lines_from answers k (suc n) = line k (record_at answers k) ++ lines_from answers (suc k) n

abbrev pub listing : List ℕ → List ℕ
listing answers = heading ++ lines_from answers 0 (records answers)
