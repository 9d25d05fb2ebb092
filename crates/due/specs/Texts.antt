-- The input of a read-back: the texts due at heads 0..3, each a length byte and its bytes; then a capture.
use Rattle.std.specs.Prelude.{Bool, List, ℕ, zero, suc, ◌+◌, leb, length, take, drop}
use Rattle.routing.specs.Four.{some}
use Rattle.records.specs.Record.{byte_at}

-- the text at the start of bytes; of bytes that are missing there are none in it
abbrev pub first_text : List ℕ → List ℕ
first_text bytes = take (byte_at bytes 0) (drop 1 bytes)

abbrev pub behind_text : List ℕ → List ℕ
behind_text bytes = drop (byte_at bytes 0 + 1) bytes

-- what stands behind the first h texts
unfoldable pub behind : List ℕ → ℕ → List ℕ
behind bytes zero = bytes
behind bytes (suc h) = behind (behind_text bytes) h

abbrev pub text_due : List ℕ → ℕ → List ℕ
text_due input h = first_text (behind input h)

abbrev pub capture_in : List ℕ → List ℕ
capture_in input = behind input 4

-- head h's text is cut: its length byte is missing, or a byte of it
abbrev pub cut : List ℕ → ℕ → Bool
cut input h = leb (length (behind input h)) (byte_at (behind input h) 0)

-- refusal 25: the input ends inside the texts
abbrev pub ends_inside : List ℕ → Bool
ends_inside input = some (cut input)
