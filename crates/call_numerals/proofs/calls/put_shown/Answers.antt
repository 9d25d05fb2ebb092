use mathlib.Core.Path.{ap, ◌∙◌}
use borrow.Author.Tests.{lt-ltb, le-ltb}
use Rattle.text.proofs.Pages.{spelt}
use Rattle.parts.proofs.Lent.{marks_cut}
use Rattle.call_numerals.specs.Calls.{shown_text, shown_line}
use Rattle.call_numerals.proofs.calls.put_shown.Goals as goal

pub returns-then-payload-lt5 : goal.returns-then-payload-lt5
unfolding shown_line
returns-then-payload-lt5 c = spelt c.put_text.ensures rw (lt-ltb _ _ c.if-payload-lt5.true)

pub returns : goal.returns
unfolding shown_line
returns c =
    let payload = c.args.payload.now in
    spelt c.put_shown_into.ensures (ap (shown_text payload) (marks_cut payload 0 c.marks-space.ensures c.room_at-room.ensures) ∙ rw (le-ltb _ _ c.if-payload-lt5.false))
