use mathlib.Core.Path.{sym, ap, ◌∙◌}
use Rattle.text.proofs.Lists.{part_length}
use Rattle.text.proofs.Pages.{spelt}
use Rattle.parts.proofs.Lent.{marks_cut}
use Rattle.call_frames.specs.Calls.{write_text, write_line}
use Rattle.call_frames.proofs.Payloads.{has_room_bytes}
use Rattle.call_frames.proofs.calls.put_write.Goals as goal

pub returns-then-not-asks_frame : goal.returns-then-not-asks_frame
unfolding write_line
returns-then-not-asks_frame c = spelt c.put_text.ensures rw (sym c.asks_frame.ensures ∙ c.if-not-asks_frame.true)

pub slice_bounds-put_write_into-end : goal.slice_bounds-put_write_into-end
slice_bounds-put_write_into-end c = part_length 165 _ 65536 c.marks-space.ensures c.room_at-room.ensures.1

pub put_write_into-requires : goal.put_write_into-requires
put_write_into-requires c =
    has_room_bytes c.args.payload.now (sym c.asks_frame.ensures ∙ c.if-not-asks_frame.false)

pub returns : goal.returns
unfolding write_line
returns c =
    let payload = c.args.payload.now in
    let asks = sym c.asks_frame.ensures ∙ c.if-not-asks_frame.false in
    spelt c.put_write_into.ensures (ap (write_text payload) (marks_cut payload 0 c.marks-space.ensures c.room_at-room.ensures) ∙ rw asks)
