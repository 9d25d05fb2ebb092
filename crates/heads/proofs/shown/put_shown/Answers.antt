use mathlib.Core.Path.{ap, ◌∙◌}
use mathlib.Core.List.{[], ◌∷◌}
use Prim.Native.Nat.{ℕ}
use Rattle.text.proofs.Pages.{spelt, went_on, ended}
use Rattle.heads.specs.Shown.{without_zeros}
use Rattle.heads.proofs.Shows.{next_cycle, at_last}
use Rattle.heads.proofs.shown.put_shown.Goals as goal

pub loop-k-preserved : goal.loop-k-preserved
loop-k-preserved c =
    let a = c.args in
    went_on c.loop-k.invariant (next_cycle a.answers.now a.head.0 _ _ c.loop-k-test.true) (spelt c.put_unless_zero.ensures (ap (λ (byte : ℕ). without_zeros (byte ∷ [])) c.shown_at.ensures))

pub returns : goal.returns
returns c =
    let a = c.args in ended c.loop-k.invariant (at_last a.answers.now a.head.0 _ _ c.loop-k-test.false)
