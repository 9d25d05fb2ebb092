-- What is printed of the start of an input is what would be printed of the whole. Assumes nothing.
use mathlib.Core.Bool.{Bool, true, false, cond}
use mathlib.Core.Path.{◌≡◌, refl, sym, ap, ◌∙◌}
use mathlib.Core.List.{List}
use Rattle.std.proofs.Common.{None}
use Prim.Native.Nat.{ℕ, ◌-◌, ◌<◌, ◌≤◌}
use native.Mathlib.Omega.{arith}
use lib.Dec.{ltb}
use lib.ListN.{length, take}
use lib.Seq.{take_all, length-take-le}
use borrow.Author.Tests.{ltb-true, ltb-false}
use Rattle.listing.specs.Refusal.{refusal_line}
use Rattle.records.specs.Record.{Bytes}
use Rattle.comparison.specs.Both.{kept}
use Rattle.verdict.specs.Printed.{printed_by}
use Rattle.verdict.proofs.Whole.{kept_over, kept_all}
use Rattle.due.specs.Texts.{capture_in, ends_inside}
use Rattle.meaning.proofs.Sizes.{sizes, few_bytes, texts_whole, capture_length, same_sizes, bytes_start}
use Rattle.readings.specs.Lines.{four_lines}
use Rattle.readings.specs.ReadBack.{read_with, read_back, texts_size, read_kept}
use Rattle.meaning.specs.ReadBacks.{WholeReadBack}
use Rattle.readings.proofs.Saids.{not_cut_short}

-- captures of which the same is printed are the same to the read-back
with_same : (input a b : List ℕ) → printed_by (four_lines input) a ≡ printed_by (four_lines input) b → read_with input a ≡ read_with input b
unfolding read_with
with_same input a b e = ap (cond (ends_inside input) (refusal_line 25 None)) e

module _ (whole : List ℕ) where
  -- an input of which all is there
  all_by : (t : Bool) → ltb 61449 (length (capture_in whole)) ≡ t → printed_by (four_lines whole) (kept (capture_in whole) (length (capture_in whole))) ≡ printed_by (four_lines whole) (capture_in whole)
  all_by true e =
      let more : 61449 < length (capture_in whole) = ltb-true _ _ e in kept_over (four_lines whole) (four_lines whole) (capture_in whole) (capture_in whole) more (omega (arith, more))
  all_by false e = ap (printed_by (four_lines whole)) (kept_all (capture_in whole) (ltb-false _ _ e))

  all_there : read_kept whole (length whole) ≡ read_back whole
  all_there =
      let n : length whole - texts_size whole ≡ length (capture_in whole) = omega (arith, capture_length whole) in
      ap (λ (k : ℕ). read_with whole (kept (capture_in whole) k)) n
      ∙ with_same whole (kept (capture_in whole) (length (capture_in whole))) (capture_in whole) (all_by (ltb 61449 (length (capture_in whole))) refl)

  -- an input that is longer than what is kept of it
  module _ (b : Bytes whole) (more : 65536 < length whole) where
    abbrev start : List ℕ
    start = take 65536 whole

    long : length start ≡ 65536
    long = length-take-le 65536 whole (omega (arith, more))

    only_start : read_kept start (length whole) ≡ read_back whole
    only_start =
        let same = same_sizes 4 65536 whole b (omega arith) in
        let few : sizes whole 4 ≤ 1024 = few_bytes 4 whole b in
        let here = capture_length start in
        let there = capture_length whole in
        let n : length whole - texts_size start ≡ length (capture_in whole) = omega (arith, long, same, few, here, there, more) in
        ap (λ (k : ℕ). read_with start (kept (capture_in start) k)) n
        ∙ sym (not_cut_short start (kept (capture_in start) (length (capture_in whole))) (texts_whole start (bytes_start 65536 whole b) (omega (arith, long))))
        ∙ kept_over (four_lines start) (four_lines whole) (capture_in start) (capture_in whole) (omega (arith, there, few, more)) (omega (arith, here, same, few, long))
        ∙ not_cut_short whole (capture_in whole) (texts_whole whole b (omega (arith, more)))

  by_size : (t : Bool) → ltb 65536 (length whole) ≡ t → Bytes whole → read_kept (take 65536 whole) (length whole) ≡ read_back whole
  by_size true e b = only_start b (ltb-true _ _ e)
  by_size false e b = ap (λ (l : List ℕ). read_kept l (length whole)) (take_all 65536 whole (ltb-false _ _ e)) ∙ all_there

pub whole_read_back : WholeReadBack
whole_read_back whole buffer b e = ap (λ (l : List ℕ). read_kept l (length whole)) e ∙ by_size whole (ltb 65536 (length whole)) refl b
