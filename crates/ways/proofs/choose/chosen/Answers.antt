use Rattle.ways.specs.Choose.{chosen}
use Rattle.blocks.proofs.Reading.{net_of}
use Rattle.ways.proofs.choose.chosen.Goals as goal

pub returns : goal.returns
unfolding chosen
returns c = net_of c.nets-v.ensures 10 c.net.ensures
