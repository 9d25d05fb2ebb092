use Rattle.call_replay.proofs.Replays.{replayed_by}
use Rattle.call_replay.proofs.replay.put_replay_into.Goals as goal

pub returns : goal.returns
returns g c =
    let a = c.args in
    replayed_by a.payload.now a.buffer.now c.state_from-s.ensures c.rows_from-rows.ensures (c.replay-t.ensures.answer, c.replay-t.ensures.writes) c.put_replayed.ensures
