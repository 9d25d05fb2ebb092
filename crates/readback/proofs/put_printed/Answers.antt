use Rattle.std.proofs.Common.{◌≡◌, ℕ, List, length, take, Option, None, Some, IfSome, sym, ap, ◌∙◌, rules}
use Rattle.text.specs.declared.page.Page.{Page}
use Rattle.text.specs.Page.{Put}
use Rattle.text.proofs.Pages.{spelt}
use Rattle.readings.specs.ReadBack.{read_kept}
use Rattle.readback.proofs.put_printed.Goals as goal

-- of a buffer with the start of what a reader had, and of how much that was
of_reader : (known : Option (List ℕ)) (buffer : List ℕ) (n : ℕ) {before after : Page} → 65536 ≡ length buffer
    → IfSome known (λ whole. n ≡ length whole) → IfSome known (λ whole. take n buffer ≡ take (length buffer) whole)
    → Put before (read_kept (take n buffer) n) after → IfSome known (λ whole. Put before (read_kept (take 65536 whole) (length whole)) after)
of_reader None buffer n room long start w = tt
of_reader (Some whole) buffer n room long start w =
    spelt w (ap (λ (l : List ℕ). read_kept l n) (start ∙ ap (λ k. take k whole) (sym room)) ∙ ap (read_kept (take 65536 whole)) long)

pub returns-clause-writes : goal.returns-clause-writes
returns-clause-writes g c =
    let taken = c.in_ok-total.ensures in of_reader _ c.take_in.new.buf _ (search rules) taken.total taken.kept c.read_back.ensures.writes
