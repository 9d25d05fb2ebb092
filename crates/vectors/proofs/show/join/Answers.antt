use Rattle.text.proofs.Pages.{◌then◌}
use Rattle.vectors.proofs.show.join.Goals as goal

pub returns : goal.returns
returns c = c.put_text.ensures then c.put_text-2.ensures then c.put_text-3.ensures
