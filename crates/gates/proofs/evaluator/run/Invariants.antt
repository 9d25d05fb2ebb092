use mathlib.Core.Path.{◌≡◌}
use Prim.Native.Nat.{◌+◌, ◌^◌, ◌<◌}
use lib.ListN.{drop}
use Rattle.gates.specs.Evaluation.{nets_after}
use Rattle.gates.proofs.evaluator.run.Given as goal

abbrev pub invariant-loop-i : goal.invariant-loop-i
invariant-loop-i l =
    (l.v < 2 ^ (l.inputs + l.i)) × (nets_after l.words l.inputs l.input ≡ nets_after (drop l.i l.words) (l.inputs + l.i) l.v)
