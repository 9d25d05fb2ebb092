use Rattle.routing.proofs.Decisions.{wins}
use Rattle.routing.proofs.route.winner.Goals as goal

pub returns : goal.returns
returns c =
    let a = c.args in
    wins a.headers a.o.0 a.holder.0 c.remaining.ensures.0 c.in_turn.ensures
