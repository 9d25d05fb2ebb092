use mathlib.Core.Path.{ap, ◌∙◌}
use borrow.Author.Tests.{le-ltb}
use Rattle.text.proofs.Lists.{part_length}
use Rattle.text.proofs.Pages.{spelt}
use Rattle.call_replay.specs.Replay.{replay_text, replay_line}
use Rattle.parts.proofs.Lent.{marks_cut}
use Rattle.call_replay.proofs.replay.put_replay.Goals as goal

pub slice_bounds-put_replay_into-end : goal.slice_bounds-put_replay_into-end
slice_bounds-put_replay_into-end g c = part_length 165 _ 65536 c.marks-space.ensures c.room_at-room.ensures.1

pub returns : goal.returns
unfolding replay_line
returns g c =
    let payload = c.args.payload.now in
    spelt c.put_replay_into.ensures (ap (replay_text payload) (marks_cut payload 25 c.marks-space.ensures c.room_at-room.ensures) ∙ rw (le-ltb _ _ c.if-payload-lt29.false))
