use Rattle.fabric.specs.Cycle.{machine}
use Rattle.fabric.proofs.Cycles.{step_made}
use Rattle.fabric.proofs.cycle.step.Goals as goal

pub returns : goal.returns
returns c =
    let a = c.args in
    step_made (machine a.s a.rows) a.i c.reported.ensures c.acks_to.ensures c.state_after-state.ensures c.switch_row.ensures
