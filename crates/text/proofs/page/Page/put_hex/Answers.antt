use mathlib.Core.Path.{ap}
use lib.ListN.{drop_of_length-le}
use Rattle.text.specs.Digits.{hexes}
use Rattle.text.proofs.Pages.{went_on, ended, next_pair}
use Rattle.text.proofs.page.Page.put_hex.Goals as goal

pub loop-b-preserved : goal.loop-b-preserved
loop-b-preserved c = went_on c.loop-b.invariant (next_pair _ _ c.loop-b-test.true) c.put_pair.ensures

pub returns : goal.returns
unfolding hexes
returns c = ended c.loop-b.invariant (ap hexes (drop_of_length-le _ c.loop-b-test.false))
