use Rattle.std.proofs.Common.{◌≡◌, ◌≤◌, ℕ, Bool, true, false, List, length, take, ltb, Option, None, Some, IfSome, refl, sym, ap, ◌∙◌, arith, rules}
use lib.Seq.{take-take}
use borrow.Author.Tests.{ltb-true, ltb-false}
use Rattle.text.specs.declared.page.Page.{Page}
use Rattle.text.specs.Page.{page, Wrote, Put}
use Rattle.text.proofs.Pages.{spelt}
use Rattle.comparison.specs.Both.{kept_length, kept}
use Rattle.comparison.proofs.Inputs.{kept_long, kept_whole}
use Rattle.verdict.specs.Printed.{printed}
use Rattle.verdict.proofs.Whole.{whole_input}
use Rattle.verdict.proofs.Fits.{all_printed}
use Rattle.replay.proofs.put_printed.Goals as goal

-- no more stands for a capture than it has
few_kept : (n : ℕ) (b : Bool) → ltb 61449 n ≡ b → kept_length n ≤ n
few_kept n true e = let more = ltb-true _ _ e in omega (arith, more, kept_long n more)
few_kept n false e = omega (arith, kept_whole n (ltb-false _ _ e))

module _ (buffer whole : List ℕ) (n : ℕ) where
  kept_start : take n buffer ≡ take (length buffer) whole → kept buffer n ≡ kept (take (length buffer) whole) n
  kept_start e = sym (take-take (kept_length n) n buffer (few_kept n (ltb 61449 n) refl)) ∙ ap (take (kept_length n)) e

  printed_whole : 65536 ≡ length buffer → n ≡ length whole → take n buffer ≡ take (length buffer) whole → printed (kept buffer n) ≡ printed whole
  printed_whole room long start =
      ap printed (kept_start start ∙ ap (λ k. kept (take k whole) n) (sym room) ∙ ap (kept (take 65536 whole)) long) ∙ whole_input whole

-- of a buffer with the start of what a reader had, and of how much that was, the same is printed as of the whole
of_reader : (known : Option (List ℕ)) (buffer : List ℕ) (n : ℕ) {before after : Page} → 65536 ≡ length buffer
    → IfSome known (λ whole. n ≡ length whole) → IfSome known (λ whole. take n buffer ≡ take (length buffer) whole)
    → Put before (printed (kept buffer n)) after → IfSome known (λ whole. Put before (printed whole) after)
of_reader None buffer n room long start w = tt
of_reader (Some whole) buffer n room long start w = spelt w (printed_whole buffer whole n room long start)

pub returns-clause-writes : goal.returns-clause-writes
returns-clause-writes g c =
    let taken = c.in_ok-total.ensures in of_reader _ c.take_in.new.buf _ (search rules) taken.total taken.kept c.replay_by_both.ensures.writes

-- what was put onto an empty page that has room for it stands there whole
stands_whole : (known : Option (List ℕ)) (before after : Page) → before.place ≡ 0 → 262144 ≤ length before.bytes.now
    → IfSome known (λ capture. Put before (printed capture) after) → IfSome known (λ capture. take after.place after.bytes.now ≡ printed capture)
stands_whole None before after empty room w = tt
stands_whole (Some capture) before after empty room w =
    let wrote : Wrote (page before.bytes.now 0) (printed capture) (page after.bytes.now after.place) = rw empty at w.wrote in
    (all_printed capture before.bytes.now after.bytes.now after.place room wrote).1

pub returns-clause-whole : goal.returns-clause-whole
returns-clause-whole g c = stands_whole _ _ _ c.requires.0 c.requires.1 (returns-clause-writes g c)
