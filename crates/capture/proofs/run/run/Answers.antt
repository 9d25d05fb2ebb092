use mathlib.Core.Path.{◌≡◌, sym, ap, subst, ◌∙◌}
use Prim.Native.Nat.{ℕ}
use native.Mathlib.Omega.{arith}
use Rattle.fabric.specs.declared.cycle.Inputs.{Inputs}
use Rattle.fabric.specs.declared.cycle.Moved.{Moved}
use Rattle.states.specs.State.{Held}
use Rattle.fabric.specs.Cycle.{Machine, moved_of}
use Rattle.fabric.proofs.Steps.{held_after}
use Rattle.records.specs.Record.{inputs_from}
use Rattle.places.specs.Capture.{inputs_in, with_answer}
use Rattle.capture.proofs.Loops.{start, turn, finished}
use Rattle.capture.proofs.run.run.Goals as goal

pub loop-k-init : goal.loop-k-init
loop-k-init g c = (start _ _ _, c.requires.0)

pub loop-k-preserved : goal.loop-k-preserved
loop-k-preserved g c =
    let l = c.loop-k in
    let t : c.step-t.result ≡ moved_of l.m (inputs_in c.args.capture.now l.k) =
    c.step-t.ensures l.invariant.1 ∙ ap (moved_of l.m) (c.inputs_from-i.ensures ∙ ap inputs_from c.record_at.ensures) in (
      turn l.invariant.0 c.loop-k-test.true c.requires.1 (ap (λ (x : Moved). x.acks) t) (ap (λ (x : Moved). x.shown) t)
          (c.put_answer.ensures ∙ ap (with_answer l.buffer l.k) c.answer_bytes.ensures)
          (ap (λ (x : Moved). x.machine) t),
      subst Held (sym (ap (λ (x : Moved). x.machine.state) t)) (held_after l.m.state _ _ l.invariant.1),
    )
