use mathlib.Core.Path.{◌∙◌}
use Rattle.fabric.specs.Cycle.{machine}
use Rattle.settled.proofs.Cycles.{cycle_first, cycle_next, seen_ahead}
use Rattle.settled.proofs.ahead.on_its_way.Goals as goal

pub returns : goal.returns
returns c =
    let a = c.args in
    let m = machine a.s a.rows in
    let t0 = cycle_first m c.next-t0.ensures in
    let t1 = cycle_next m 0 t0 c.next-t1.ensures in
    let t2 = cycle_next m 1 t1 c.next-t2.ensures in
    let t3 = cycle_next m 2 t2 c.next-t3.ensures in
    c.some_shown.ensures ∙ seen_ahead m t0 t1 t2 t3
