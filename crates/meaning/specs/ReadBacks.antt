-- What the lines of a read-back mean, and that all of them are printed.
use Rattle.std.specs.Prelude.{false, ◌≡◌, List, ◌++◌, ℕ, ◌<◌, ◌≤◌, length, take}
use Rattle.text.specs.Page.{page, Wrote}
use Rattle.fabric.specs.Run.{reset_machine}
use Rattle.records.specs.Record.{Bytes}
use Rattle.capture.specs.Replay.{replay_of, replay_writes}
use Rattle.comparison.specs.Both.{zeros}
use Rattle.numerals.specs.Line.{same_line}
use Rattle.heads.specs.Shown.{head_text}
use Rattle.due.specs.Texts.{text_due, capture_in, ends_inside}
use Rattle.readings.specs.ReadBack.{read_with, read_back, read_kept}

-- the four lines of a dose that has come through
abbrev pub four_same : List ℕ
four_same = same_line 0 ++ same_line 1 ++ same_line 2 ++ same_line 3

-- the answers to a capture from reset
abbrev pub answers_to : List ℕ → List ℕ
answers_to capture = replay_writes reset_machine capture (zeros (length capture))

-- nothing is refused, and every head has shown what is due there
pub record CameThrough (input : List ℕ) : Type 0 where
  pub texts : ends_inside input ≡ false
  pub done : (replay_of reset_machine (capture_in input) (length (capture_in input))).number ≡ 0
  pub shown : (h : ℕ) → h < 4 → text_due input h ≡ head_text (answers_to (capture_in input)) h

-- Four times `same` is printed exactly if all has come through.
abbrev pub FourSame : Type 0
FourSame = (input : List ℕ) → (read_back input ≡ four_same → CameThrough input) × (CameThrough input → read_back input ≡ four_same)

-- Where the start of an input, up to 65,536 bytes of it, stands in a buffer, what is printed is what would be printed of the whole input.
abbrev pub WholeReadBack : Type 0
WholeReadBack =
    (whole buffer : List ℕ) → Bytes whole → take (length whole) buffer ≡ take 65536 whole → read_kept (take (length whole) buffer) (length whole) ≡ read_back whole

-- What is printed fits onto the program's page of 131,072 bytes, so all of it stands there.
abbrev pub ReadBackFits : Type 0
ReadBackFits = (input capture : List ℕ) → Bytes input → length (read_with input capture) ≤ 131072

abbrev pub AllReadBack : Type 0
AllReadBack =
    (input capture bytes after : List ℕ) (n : ℕ) → Bytes input → 131072 ≤ length bytes → Wrote (page bytes 0) (read_with input capture) (page after n)
    → (n ≡ length (read_with input capture)) × (take n after ≡ read_with input capture)
