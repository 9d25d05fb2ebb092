use Rattle.std.proofs.Common.{◌≡◌, length}
use Rattle.write_frame.proofs.main.Given as goal

abbrev pub invariant-loop-k : goal.invariant-loop-k
invariant-loop-k l = (1032 ≡ length l.order) × (20480 ≡ length l.out)
