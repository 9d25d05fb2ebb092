use Rattle.text.proofs.Pages.{◌then◌}
use Rattle.parts.proofs.parts.put_number.Goals as goal

pub returns : goal.returns
returns c = c.put_decimal.ensures then c.put_byte.ensures
