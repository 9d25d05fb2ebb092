use Rattle.std.proofs.Common.{ap, rules}
use Rattle.text.specs.Digits.{decimal}
use Rattle.text.proofs.Pages.{◌then◌, spelt}
use Rattle.listing.specs.Refusal.{index_text}
use Rattle.listing.proofs.refusal.put_refusal_any_index.Goals as goal

pub returns : goal.returns
returns c =
    c.put_text.ensures then spelt c.put_decimal.ensures (ap decimal c.from.ensures) then spelt c.put_index.ensures (ap index_text (search rules)) then c.put_byte.ensures
