use lib.ListN.{drop_of_length-le}
use Rattle.text.proofs.Pages.{went_on, ended, next_byte}
use Rattle.text.proofs.page.Page.put_text.Goals as goal

pub loop-b-preserved : goal.loop-b-preserved
loop-b-preserved c = went_on c.loop-b.invariant (next_byte _ _ c.loop-b-test.true) c.put_byte.ensures

pub returns : goal.returns
returns c = ended c.loop-b.invariant (drop_of_length-le _ c.loop-b-test.false)
