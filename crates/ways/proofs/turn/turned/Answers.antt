use Rattle.ways.specs.Turn.{turned}
use Rattle.blocks.proofs.Reading.{two_nets}
use Rattle.ways.proofs.turn.turned.Goals as goal

pub returns : goal.returns
unfolding turned
returns c = two_nets c.nets-v.ensures (λ l h. record { low = l; high = h }) 31 30 c.net.ensures c.net-2.ensures
