use mathlib.Core.Path.{refl, ap, sym, ◌∙◌}
use Prim.Native.Nat.{ℕ}
use lib.ListN.{length}
use lib.Seq.{sets}
use Rattle.fabric.specs.Cycle.{machine}
use Rattle.states.specs.Refusal.{number_of}
use Rattle.saved.specs.Saved.{saved_bytes, save_refusal}
use Rattle.states.proofs.States.{held}
use Rattle.states.proofs.Refusals.{never_0}
use Rattle.saved.proofs.Keeps.{not_written, written, save_done}
use Rattle.saved.proofs.saving.save.Goals as goal

pub returns-in_err-check-clause-writes : goal.returns-in_err-check-clause-writes
returns-in_err-check-clause-writes c =
    let a = c.args in
    not_written (machine a.s a.rows) a.out.now (λ z. never_0 _ (c.in_err-check.ensures ∙ z))

pub word-requires : goal.word-requires
word-requires c = held _ (save_done _ _ (sym c.in_ok-check.ensures)).0

pub put_saved-requires : goal.put_saved-requires
put_saved-requires c = (save_done _ _ (sym c.in_ok-check.ensures)).1

pub returns-clause-writes : goal.returns-clause-writes
returns-clause-writes c =
    let a = c.args in
    let z = sym c.in_ok-check.ensures in
    c.put_saved.ensures ∙ ap (λ (w : ℕ). sets a.out.now 0 (saved_bytes w a.rows)) c.word.ensures
    ∙ written (machine a.s a.rows) a.out.now z (save_done a.s (length a.out.now) z).1
