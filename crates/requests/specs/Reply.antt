-- A request as far as it could be read, and its reply.
use Rattle.std.specs.Prelude.{Bool, true, false, cond, ◌&&◌, List, [], ℕ, eqb, ltb, leb, length}
use Rattle.text.specs.Ascii.{ascii}
use Rattle.records.specs.Record.{byte_at}
use Rattle.parts.specs.Parts.{word_at}
use Rattle.requests.specs.Letter.{too_long, line_of}

-- how many bytes of payload there are to read
abbrev pub payload_length : List ℕ → ℕ
payload_length header = cond (eqb (length header) 5 && leb (word_at header 1) 65536) (word_at header 1) 0

-- a line, and whether it is the last
pub record Said : Type 0 where
  pub text : List ℕ
  pub last : Bool

abbrev pub lastly : List ℕ → Said
lastly text = record { text = text; last = true }

abbrev pub answered : ℕ → List ℕ → Said
answered letter payload = cond (too_long letter payload) (lastly (ascii "too long\n")) (record { text = line_of letter payload; last = false })

unfoldable pub reply_of : List ℕ → List ℕ → Said
reply_of header payload =
    cond (eqb (length header) 0) (lastly [])
    (cond (ltb (length header) 5) (lastly (ascii "cut short\n"))
    (cond (ltb 65536 (word_at header 1)) (lastly (ascii "too long\n"))
    (cond (ltb (length payload) (word_at header 1)) (lastly (ascii "cut short\n")) (answered (byte_at header 0) payload))))
