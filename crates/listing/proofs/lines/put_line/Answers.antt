use Rattle.text.proofs.Pages.{◌then◌}
use Rattle.listing.proofs.lines.put_line.Goals as goal

pub returns : goal.returns
returns c = c.put_decimal.ensures then c.put_columns.ensures then c.put_byte.ensures
