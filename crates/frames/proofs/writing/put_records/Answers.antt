use Rattle.frames.proofs.Writes.{none_yet, one_more}
use Rattle.frames.proofs.writing.put_records.Goals as goal

pub loop-k-init : goal.loop-k-init
loop-k-init c = none_yet _ _

pub loop-k-preserved : goal.loop-k-preserved
loop-k-preserved c =
    let l = c.loop-k in one_more _ l.k l.invariant c.record_in.ensures c.put_text.ensures
