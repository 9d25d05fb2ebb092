use Rattle.text.proofs.Pages.{◌then◌, went_on, ended}
use Rattle.listing.proofs.Turns.{next_column, no_column}
use Rattle.listing.proofs.lines.put_columns.Goals as goal

pub loop-b-preserved : goal.loop-b-preserved
loop-b-preserved c = went_on c.loop-b.invariant (next_column _ _ c.loop-b-test.true) (c.put_byte.ensures then c.put_pair.ensures)

pub returns : goal.returns
returns c = ended c.loop-b.invariant (no_column _ _ c.loop-b-test.false)
