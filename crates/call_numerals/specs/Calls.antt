-- N: the length of the station's text, that text and the head's; the first place where they differ, and the piece. H: the length of a buffer, a head's
-- number in a byte and answer records; how many bytes the head has shown, the buffer after. Lengths are numbers of four bytes.
use Rattle.std.specs.Prelude.{cond, List, ◌++◌, Option, Some, None, ℕ, ◌+◌, ltb, length, take, drop}
use Rattle.text.specs.Ascii.{ascii}
use Rattle.text.specs.Differ.{first_difference}
use Rattle.text.specs.Page.{Page, page, puts}
use Rattle.records.specs.Record.{byte_at}
use Rattle.parts.specs.Parts.{word_at, marked, room_at, number_text, bytes_text, buffer_text, malformed}
use Rattle.numerals.specs.Piece.{piece_of}
use Rattle.heads.specs.Shown.{head_text}

abbrev pub place_text : Option ℕ → List ℕ
place_text None = ascii "same "
place_text (Some k) = number_text k

abbrev pub piece_text : List ℕ → List ℕ → List ℕ
piece_text station head = place_text (first_difference station head) ++ bytes_text (piece_of station head) ++ ascii "\n"

unfoldable pub piece_line : List ℕ → List ℕ
piece_line payload =
    cond (ltb (length payload) (4 + word_at payload 0)) malformed (piece_text (take (word_at payload 0) (drop 4 payload)) (drop (4 + word_at payload 0) payload))

-- the buffer with the head's bytes at its start, and the place behind them
abbrev pub shown_page : List ℕ → List ℕ → Page
shown_page payload buffer = puts (page buffer 0) (head_text (drop 5 payload) (byte_at payload 4))

abbrev pub shown_text : List ℕ → List ℕ → List ℕ
shown_text payload buffer = buffer_text (shown_page payload buffer).place (shown_page payload buffer).bytes

unfoldable pub shown_line : List ℕ → List ℕ
shown_line payload = cond (ltb (length payload) 5) malformed (shown_text payload (marked (room_at payload 0)))
