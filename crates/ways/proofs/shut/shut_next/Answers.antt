use Rattle.ways.specs.Shut.{shut_next}
use Rattle.blocks.proofs.Reading.{net_of}
use Rattle.ways.proofs.shut.shut_next.Goals as goal

pub returns : goal.returns
unfolding shut_next
returns c = net_of c.nets-v.ensures 11 c.net.ensures
