use mathlib.Core.Path.{sym}
use lib.Seq.{length-take-le}
use Rattle.vectors.proofs.replays.short.Goals as goal

pub slice_bounds-replayed-end : goal.slice_bounds-replayed-end
slice_bounds-replayed-end c = sym (length-take-le _ _ c.requires)
