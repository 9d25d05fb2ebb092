use mathlib.Core.Path.{ap, ◌∙◌}
use borrow.Author.Tests.{eq-eqb}
use Rattle.text.proofs.Lists.{part_length}
use Rattle.text.proofs.Pages.{spelt}
use Rattle.call_replay.specs.State.{save_text, save_line}
use Rattle.parts.proofs.Lent.{marks_cut}
use Rattle.call_replay.proofs.state.put_save.Goals as goal

pub slice_bounds-put_save_into-end : goal.slice_bounds-put_save_into-end
slice_bounds-put_save_into-end c = part_length 165 _ 65536 c.marks-space.ensures c.room_at-room.ensures.1

pub returns : goal.returns
unfolding save_line
returns c =
    let payload = c.args.payload.now in
    spelt c.put_save_into.ensures (ap (save_text payload) (marks_cut payload 25 c.marks-space.ensures c.room_at-room.ensures) ∙ rw (eq-eqb _ _ c.if-payload-ne29.false))
