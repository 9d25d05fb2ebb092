use mathlib.Core.Path.{sym}
use lib.Seq.{length-take-le}
use Rattle.vectors.proofs.taking_up.bytes.Goals as goal

pub slice_bounds-taken_up-end : goal.slice_bounds-taken_up-end
slice_bounds-taken_up-end c = sym (length-take-le _ _ c.requires)
