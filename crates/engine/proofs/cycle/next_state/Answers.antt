use Rattle.engine.proofs.Control.{state_wired}
use Rattle.engine.proofs.cycle.next_state.Goals as goal

pub returns : goal.returns
returns c =
    let a = c.args in
    state_wired a.s a.headers a.start c.decode_all-requests.ensures c.phase-now.ensures c.filter_all-remain.ensures c.shut_all.ensures c.turn_all.ensures
