use native.Mathlib.Nat.{add-zero, add_assoc}
use Rattle.gates.proofs.Loops.{nets_start, nets_again, nets_end}
use Rattle.gates.proofs.evaluator.run.Goals as goal

pub loop-i-preserved : goal.loop-i-preserved
loop-i-preserved c =
    let l = c.loop-i in (
      rw (← add_assoc) c.with_net-v.ensures.1,
      nets_again _ _ _ l.i l.v l.invariant.1 c.loop-i-test.true c.gate.ensures c.with_net-v.ensures.0,
    )

pub returns : goal.returns
returns c = nets_end _ _ _ c.loop-i.i _ c.loop-i.invariant.1 c.loop-i-test.false
