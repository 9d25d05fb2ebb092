use Rattle.std.proofs.Common.{ap, ◌∙◌}
use Rattle.text.specs.Digits.{decimal}
use Rattle.text.proofs.Pages.{◌then◌, spelt}
use Rattle.orders.proofs.words.put_refused.Goals as goal

pub returns : goal.returns
returns c =
    c.put_text.ensures then spelt c.put_decimal.ensures (ap decimal (c.from.ensures ∙ c.number.ensures)) then c.put_at.ensures
