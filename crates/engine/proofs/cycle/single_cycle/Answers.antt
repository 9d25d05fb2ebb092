use mathlib.Core.Path.{refl, sym, ap, ◌∙◌}
use Rattle.fabric.specs.Cycle.{machine, step_of, done_cycle, refused_cycle}
use Rattle.states.proofs.States.{held}
use Rattle.states.proofs.Calls.{answered, refused}
use Rattle.states.proofs.Refusals.{when_ok, when_err, never_0}
use Rattle.engine.specs.Cycle.{without_report}
use Rattle.engine.proofs.Cycles.{answer_is}
use Rattle.engine.proofs.cycle.single_cycle.Goals as goal

pub returns-in-Ok : goal.returns-in-Ok
returns-in-Ok c =
    let a = c.args in
    let m = machine a.s a.rows in
    let ok = when_ok c.check.ensures c.in-Ok.is in
    answer_is m a.i (c.step.ensures.rules (held a.s (sym ok))) ∙ ap without_report (answered ok (done_cycle (step_of m a.i)) _ refl)
