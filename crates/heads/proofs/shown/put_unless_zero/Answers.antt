use Rattle.text.proofs.Pages.{nothing, spelt}
use Rattle.heads.proofs.Shows.{dropped, kept}
use Rattle.heads.proofs.shown.put_unless_zero.Goals as goal

pub returns-then-b-ne0 : goal.returns-then-b-ne0
returns-then-b-ne0 c = spelt c.put_byte.ensures (kept _ c.if-b-ne0.true)

pub returns-else-b-ne0 : goal.returns-else-b-ne0
returns-else-b-ne0 c = spelt (nothing _) (dropped _ c.if-b-ne0.false)
