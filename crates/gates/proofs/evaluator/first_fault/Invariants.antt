use mathlib.Core.Path.{◌≡◌}
use Prim.Native.Nat.{◌+◌}
use lib.ListN.{drop}
use Rattle.gates.specs.Evaluation.{first_fault}
use Rattle.gates.proofs.evaluator.first_fault.Given as goal

abbrev pub invariant-loop-i : goal.invariant-loop-i
invariant-loop-i l = first_fault l.words l.inputs 0 ≡ first_fault (drop l.i l.words) (l.inputs + l.i) l.i
