use Rattle.text.proofs.Pages.{◌then◌}
use Rattle.orders.proofs.words.put_at.Goals as goal

pub returns : goal.returns
returns c = c.put_text.ensures then c.put_decimal.ensures then c.put_byte.ensures
