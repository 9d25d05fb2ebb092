use Rattle.text.proofs.Pages.{◌then◌}
use Rattle.call_cycle.proofs.cycle.put_gates.Goals as goal

pub returns : goal.returns
returns c = c.put_moved.ensures then c.put_byte.ensures
