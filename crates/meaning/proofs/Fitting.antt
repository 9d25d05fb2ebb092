-- What is printed of a read-back has room on its page, so that all of it stands there. Assumes nothing.
use mathlib.Core.Bool.{Bool, true, false}
use mathlib.Core.Path.{◌≡◌, refl, ap}
use mathlib.Core.List.{List, ◌++◌}
use Prim.Native.Nat.{ℕ, ◌<◌, ◌≤◌}
use native.Mathlib.Omega.{arith}
use lib.ListN.{length, length-append}
use Rattle.text.specs.Digits.{decimal_in}
use Rattle.text.proofs.Room.{all_there}
use Rattle.places.specs.Capture.{records}
use Rattle.capture.specs.Refusal.{limit}
use Rattle.records.specs.Record.{Bytes}
use Rattle.verdict.specs.Printed.{printed_by}
use Rattle.verdict.proofs.Fits.{fits}
use Rattle.meaning.proofs.Lengths.{line_length}
use Rattle.heads.specs.Shown.{head_text}
use Rattle.heads.proofs.Shows.{at_most}
use Rattle.due.specs.Texts.{text_due, ends_inside}
use Rattle.meaning.proofs.Sizes.{short_text}
use Rattle.readings.specs.Lines.{line_of, four_lines}
use Rattle.readings.specs.ReadBack.{read_with}
use Rattle.meaning.specs.ReadBacks.{ReadBackFits, AllReadBack}
use Rattle.readings.proofs.Saids.{cut_short, not_cut_short}

module _ (input : List ℕ) (b : Bytes input) where
  module _ (answers : List ℕ) (few : records answers ≤ limit) where
    one_line : (h : ℕ) → h < 10 → length (line_of input answers h) ≤ 24585
    one_line h one = omega (arith, line_length (text_due input h) (head_text answers h) 12288 (omega (arith, short_text h input b)) (omega (arith, few, at_most answers h)) (omega arith) h one)

    lines_fit : length (four_lines input answers) ≤ 131072
    unfolding four_lines
    lines_fit =
        let l = line_of input answers in
        omega (arith, one_line 0 (omega arith), one_line 1 (omega arith), one_line 2 (omega arith), one_line 3 (omega arith), length-append (l 0) (l 1), length-append (l 0 ++ l 1) (l 2), length-append (l 0 ++ l 1 ++ l 2) (l 3))

  module _ (capture : List ℕ) where
    fits_by : (t : Bool) → ends_inside input ≡ t → length (read_with input capture) ≤ 131072
    unfolding decimal_in
    fits_by true e =
        let l : 11 ≡ length (read_with input capture) = ap length (cut_short input capture e) in omega (arith, l)
    fits_by false e =
        let l : length (printed_by (four_lines input) capture) ≡ length (read_with input capture) = ap length (not_cut_short input capture e) in
        omega (arith, l, fits (four_lines input) 131072 (omega arith) lines_fit capture)

pub read_back_fits : ReadBackFits
read_back_fits input capture b = fits_by input b capture (ends_inside input) refl

pub all_read_back : AllReadBack
all_read_back input capture bytes after n b room w = all_there w (omega (arith, room, read_back_fits input capture b))
