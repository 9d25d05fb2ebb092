use Rattle.std.proofs.Common.{◌≡◌, ◌∙◌, refl, ap, sym, rules}
use mathlib.Core.Bool.{Bool}
use borrow.Author.Tests.{lt-ltb, le-ltb}
use Rattle.states.specs.State.{◌when◌otherwise◌}
use Rattle.states.specs.Refusal.{number_of, number_in}
use Rattle.saved.specs.Saved.{save_refusal}
use Rattle.states.proofs.Calls.{by_first, by_later}
use Rattle.states.proofs.Refusals.{never_0}
use Rattle.saved.proofs.saving.check.Goals as goal

pub returns-in_err-check : goal.returns-in_err-check
unfolding save_refusal
returns-in_err-check c =
    let e : number_in c.from_residual.result ≡ number_of c.in_err-check.field-0.0 = search rules in
    e ∙ by_first c.in_err-check.ensures _ (never_0 _)

pub returns-then-room-lt-SAVED_LEN : goal.returns-then-room-lt-SAVED_LEN
unfolding save_refusal
returns-then-room-lt-SAVED_LEN c =
    sym (ap (λ (b : Bool). 9 when b otherwise 0) (lt-ltb _ _ c.if-room-lt-SAVED_LEN.true)) ∙ by_later c.in_ok-check.ensures _ refl

pub returns : goal.returns
unfolding save_refusal
returns c =
    sym (ap (λ (b : Bool). 9 when b otherwise 0) (le-ltb _ _ c.if-room-lt-SAVED_LEN.false)) ∙ by_later c.in_ok-check.ensures _ refl
