use mathlib.Core.Path.{sym, ap}
use Rattle.text.specs.Digits.{decimal}
use Rattle.call_cycle.specs.Cycle.{outcome_text}
use Rattle.text.proofs.Pages.{◌then◌, spelt}
use Rattle.call_cycle.proofs.cycle.put_outcome.Goals as goal

pub returns-in-Won : goal.returns-in-Won
returns-in-Won c =
    spelt (spelt c.put_decimal.ensures (ap decimal c.from.ensures) then c.put_byte-in-Won.ensures then spelt c.put_decimal-in-Won.ensures (ap decimal c.from-in-Won.ensures))
    (ap outcome_text (sym c.in-Won.is))
