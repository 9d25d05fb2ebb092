use mathlib.Core.Path.{sym, ap, ◌∙◌}
use mathlib.Core.Bool.{false}
use Rattle.text.proofs.Pages.{spelt}
use Rattle.call_cycle.specs.Cycle.{plain_text}
use Rattle.call_cycle.proofs.Cycles.{asked_line, malformed_line}
use Rattle.call_cycle.proofs.cycle.put_cycle.Goals as goal

pub returns-in-Some : goal.returns-in-Some
returns-in-Some c = spelt c.put_plain.ensures (ap plain_text c.single_cycle.ensures ∙ asked_line c.args.payload.now false (sym c.asked_in.ensures ∙ c.in-Some.is))

pub returns-in-None : goal.returns-in-None
returns-in-None c = spelt c.put_text.ensures (malformed_line c.args.payload.now false (sym c.asked_in.ensures ∙ c.in-None.is))
