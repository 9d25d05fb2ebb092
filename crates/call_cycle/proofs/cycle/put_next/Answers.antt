use Rattle.text.proofs.Pages.{◌then◌}
use Rattle.call_cycle.proofs.cycle.put_next.Goals as goal

pub returns : goal.returns
returns c = c.put_byte.ensures then c.put_outcome.ensures
