use mathlib.Core.Path.{◌≡◌}
use Prim.Native.Nat.{◌-◌}
use Rattle.places.specs.Capture.{records}
use Rattle.capture.specs.Refusal.{first_bad}
use Rattle.capture.proofs.refusal.judge.Given as goal

abbrev pub invariant-loop-at : goal.invariant-loop-at
invariant-loop-at l = first_bad l.capture 0 (records l.capture) ≡ first_bad l.capture l.at (records l.capture - l.at)
