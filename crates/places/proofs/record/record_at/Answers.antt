use mathlib.Core.Path.{sym, ◌∙◌}
use Rattle.places.proofs.Records.{record_there, record_past}
use Rattle.places.proofs.record.record_at.Goals as goal

pub returns-then-k-capture : goal.returns-then-k-capture
returns-then-k-capture c = c.five_at.ensures ∙ sym (record_there _ _ c.if-k-capture.true)

pub returns-else-k-capture : goal.returns-else-k-capture
returns-else-k-capture c = sym (record_past _ _ c.if-k-capture.false)
