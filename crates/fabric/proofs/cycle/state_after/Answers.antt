use Rattle.fabric.proofs.Cycles.{state_made}
use Rattle.fabric.proofs.cycle.state_after.Goals as goal

pub returns : goal.returns
returns c =
    state_made _ _ _ c.routes-routing.ensures c.waiting_after.ensures c.shut_flags_after-shut.ensures c.holders_after-holders.ensures
