use Rattle.routing.proofs.Decisions.{all_remain, high_remain}
use Rattle.routing.proofs.route.remaining.Goals as goal

pub returns-then-high-eq0 : goal.returns-then-high-eq0
returns-then-high-eq0 c =
    let a = c.args in
    (all_remain a.headers a.o.0 c.high_askers-high.ensures.0 c.if-high-eq0.true c.askers.ensures.0, c.askers.ensures.1)

pub returns-else-high-eq0 : goal.returns-else-high-eq0
returns-else-high-eq0 c =
    let a = c.args in
    (high_remain a.headers a.o.0 c.high_askers-high.ensures.0 c.if-high-eq0.false, c.high_askers-high.ensures.1)
