use Rattle.std.proofs.Common.{sym}
use lib.Seq.{length-take-le}
use Rattle.text.proofs.Room.{within}
use Rattle.write_frame.proofs.answer_one.Goals as goal

pub slice_bounds-write_all-end : goal.slice_bounds-write_all-end
slice_bounds-write_all-end g c = sym (length-take-le _ c.answer.new.out (within c.in-Ok-answer.ensures.text))

pub slice_bounds-result-end-in-Err : goal.slice_bounds-result-end-in-Err
slice_bounds-result-end-in-Err g c = sym (length-take-le _ c.answer.new.out (within c.in-Err.ensures.text))
