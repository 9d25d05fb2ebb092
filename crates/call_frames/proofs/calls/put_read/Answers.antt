use mathlib.Core.Path.{ap, ◌∙◌}
use borrow.Author.Tests.{lt-ltb, le-ltb}
use Rattle.text.proofs.Lists.{part_length}
use Rattle.text.proofs.Pages.{spelt}
use Rattle.parts.proofs.Lent.{marks_cut}
use Rattle.call_frames.specs.Calls.{read_text, read_line}
use Rattle.call_frames.proofs.calls.put_read.Goals as goal

pub returns-then-payload-lt8 : goal.returns-then-payload-lt8
unfolding read_line
returns-then-payload-lt8 c = spelt c.put_text.ensures rw (lt-ltb _ _ c.if-payload-lt8.true)

pub slice_bounds-put_read_into-end : goal.slice_bounds-put_read_into-end
slice_bounds-put_read_into-end c = part_length 165 _ 65536 c.marks-space.ensures c.room_at-room.ensures.1

pub returns : goal.returns
unfolding read_line
returns c =
    let payload = c.args.payload.now in
    spelt c.put_read_into.ensures (ap (read_text payload) (marks_cut payload 0 c.marks-space.ensures c.room_at-room.ensures) ∙ rw (le-ltb _ _ c.if-payload-lt8.false))
