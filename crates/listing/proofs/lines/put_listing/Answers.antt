use Rattle.text.proofs.Pages.{◌then◌}
use Rattle.listing.proofs.lines.put_listing.Goals as goal

pub returns : goal.returns
returns c = c.put_heading.ensures then c.put_lines.ensures
