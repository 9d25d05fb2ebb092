-- What the lines are made of; numbers of several bytes in a payload, high byte first; and the buffer that a call is lent.
use Rattle.std.specs.Prelude.{cond, List, ◌++◌, ℕ, ◌+◌, ◌*◌, min, eqb, length, replicate}
use Rattle.text.specs.Ascii.{ascii}
use Rattle.text.specs.Digits.{decimal, hexes}
use Rattle.fabric.specs.Cycle.{Machine}
use Rattle.records.specs.Record.{byte_at}
use Rattle.image.specs.Image.{image_of}

abbrev pub word_at : List ℕ → ℕ → ℕ
word_at bytes k = 16777216 * byte_at bytes k + 65536 * byte_at bytes (k + 1) + 256 * byte_at bytes (k + 2) + byte_at bytes (k + 3)

abbrev pub long_at : List ℕ → ℕ → ℕ
long_at bytes k = 4294967296 * word_at bytes k + word_at bytes (k + 4)

-- The buffer holds A5 throughout before the call. Its length stands in four bytes; more than 65,536 is answered by `too long` and comes not here.
abbrev pub marked : ℕ → List ℕ
marked n = replicate n 165

abbrev pub room_at : List ℕ → ℕ → ℕ
room_at bytes k = min (word_at bytes k) 65536

abbrev pub malformed : List ℕ
malformed = ascii "malformed\n"

abbrev pub number_text : ℕ → List ℕ
number_text n = decimal n ++ ascii " "

abbrev pub state_text : Machine → List ℕ
state_text m = hexes (image_of m)

-- no bytes are shown as a dash
abbrev pub bytes_text : List ℕ → List ℕ
bytes_text bytes = cond (eqb (length bytes) 0) (ascii "-") (hexes bytes)

-- a number, and the buffer after a call
abbrev pub buffer_text : ℕ → List ℕ → List ℕ
buffer_text n buffer = number_text n ++ bytes_text buffer ++ ascii "\n"
