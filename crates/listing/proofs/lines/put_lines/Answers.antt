use mathlib.Core.Path.{ap}
use Rattle.text.proofs.Pages.{spelt, went_on, ended}
use Rattle.listing.specs.Listing.{line}
use Rattle.listing.proofs.Turns.{next_line, no_line}
use Rattle.listing.proofs.lines.put_lines.Goals as goal

pub loop-k-preserved : goal.loop-k-preserved
loop-k-preserved c =
    let l = c.loop-k in
    went_on l.invariant (next_line _ _ _ c.loop-k-test.true) (spelt c.put_line.ensures (ap (line l.k) c.record_at.ensures))

pub returns : goal.returns
returns c = ended c.loop-k.invariant (no_line _ _ _ c.loop-k-test.false)
