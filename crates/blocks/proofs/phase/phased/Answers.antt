use Rattle.blocks.specs.Phase.{phased}
use Rattle.blocks.proofs.Reading.{two_nets}
use Rattle.blocks.proofs.phase.phased.Goals as goal

pub returns : goal.returns
unfolding phased
returns c = two_nets c.nets-v.ensures (λ r w. record { routing = r; waiting = w }) 7 10 c.net.ensures c.net-2.ensures
