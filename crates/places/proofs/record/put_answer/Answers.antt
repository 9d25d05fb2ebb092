use mathlib.Core.Path.{sym, ◌∙◌}
use Rattle.places.proofs.Records.{answer_there, answer_past}
use Rattle.places.proofs.record.put_answer.Goals as goal

pub returns-then-k-buffer : goal.returns-then-k-buffer
returns-then-k-buffer c = c.put_five.ensures ∙ sym (answer_there _ _ _ c.if-k-buffer.true)

pub returns-else-k-buffer : goal.returns-else-k-buffer
returns-else-k-buffer c = sym (answer_past _ _ _ c.if-k-buffer.false)
