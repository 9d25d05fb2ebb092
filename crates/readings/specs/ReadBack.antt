-- What the program readback prints: `refused 25` alone, the refusal line of the capture alone, or a line for each head. The start of the input is
-- kept and all of it is counted.
use Rattle.std.specs.Prelude.{cond, List, None, ℕ, ◌-◌, length}
use Rattle.listing.specs.Refusal.{refusal_line}
use Rattle.comparison.specs.Both.{kept}
use Rattle.verdict.specs.Printed.{printed_by}
use Rattle.due.specs.Texts.{capture_in, ends_inside}
use Rattle.readings.specs.declared.refusal.Refusal.{Refusal}
use Rattle.readings.specs.declared.refusal.Refusal.TheVariants.{CutShort}
use Rattle.readings.specs.Lines.{four_lines}

-- the number with which an input that ends inside its texts is refused
abbrev pub number_of : Refusal → ℕ
number_of CutShort = 25

-- of texts and a capture
unfoldable pub read_with : List ℕ → List ℕ → List ℕ
read_with input capture = cond (ends_inside input) (refusal_line 25 None) (printed_by (four_lines input) capture)

-- of a whole input
abbrev pub read_back : List ℕ → List ℕ
read_back input = read_with input (capture_in input)

-- of the first bytes of an input of n bytes: how many the texts take, and what stands for the capture
abbrev pub texts_size : List ℕ → ℕ
texts_size bytes = length bytes - length (capture_in bytes)

abbrev pub capture_kept : List ℕ → ℕ → List ℕ
capture_kept bytes n = kept (capture_in bytes) (n - texts_size bytes)

abbrev pub read_kept : List ℕ → ℕ → List ℕ
read_kept bytes n = read_with bytes (capture_kept bytes n)
