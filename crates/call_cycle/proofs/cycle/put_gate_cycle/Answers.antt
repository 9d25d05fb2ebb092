use mathlib.Core.Path.{sym, ap, ◌∙◌}
use mathlib.Core.Bool.{true}
use Rattle.text.proofs.Pages.{spelt}
use Rattle.call_cycle.specs.Cycle.{gates_text}
use Rattle.call_cycle.proofs.Cycles.{asked_line, malformed_line}
use Rattle.call_cycle.proofs.cycle.put_gate_cycle.Goals as goal

pub returns-in-Some : goal.returns-in-Some
returns-in-Some c = spelt c.put_gates.ensures (ap gates_text c.single_cycle.ensures ∙ asked_line c.args.payload.now true (sym c.asked_in.ensures ∙ c.in-Some.is))

pub returns-in-None : goal.returns-in-None
returns-in-None c = spelt c.put_text.ensures (malformed_line c.args.payload.now true (sym c.asked_in.ensures ∙ c.in-None.is))
