use native.Mathlib.Omega.{arith}
use lib.Count.{ones-le}
use Rattle.routing.proofs.Decisions.{quiet, won, ones_pos}
use Rattle.routing.proofs.route.decided.Goals as goal

pub returns-then-all-eq0 : goal.returns-then-all-eq0
returns-then-all-eq0 c =
    let a = c.args in
    quiet a.headers a.o.0 a.holder.0 c.askers-all.ensures.0 c.if-all-eq0.true

pub overflow_sub-result : goal.overflow_sub-result
overflow_sub-result c = ones_pos _ c.askers-all.ensures.1 c.if-all-eq0.false

pub returns : goal.returns
returns c =
    let a = c.args in
    won a.headers a.o.0 a.holder.0 c.askers-all.ensures.0 c.if-all-eq0.false c.winner.ensures
