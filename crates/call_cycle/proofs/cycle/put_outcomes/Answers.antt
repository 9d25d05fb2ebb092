use Rattle.text.proofs.Pages.{◌then◌}
use Rattle.call_cycle.proofs.cycle.put_outcomes.Goals as goal

pub returns : goal.returns
returns c = c.put_outcome.ensures then c.put_next.ensures then c.put_next-2.ensures then c.put_next-3.ensures
