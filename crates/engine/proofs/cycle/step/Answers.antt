use mathlib.Core.Path.{◌∙◌}
use Rattle.states.specs.State.{second_row}
use Rattle.fabric.specs.Cycle.{machine, rows_after}
use Rattle.engine.proofs.Control.{next_state}
use Rattle.engine.proofs.Cycles.{parts_of}
use Rattle.engine.proofs.cycle.step.Goals as goal

pub returns : goal.returns
unfolding rows_after
returns c =
    let a = c.args in
    let m = machine a.s a.rows in record { words = parts_of m a.i c.pass_on.ensures.words.0 c.next_state-state.ensures c.pass_on.ensures.words.1; rules = λ held. parts_of m a.i (c.pass_on.ensures.rules held).0 (c.next_state-state.ensures ∙ next_state a.s (second_row a.rows) a.i.frame held) (c.pass_on.ensures.rules held).1 }
