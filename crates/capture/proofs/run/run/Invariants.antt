use Rattle.states.specs.State.{Held}
use Rattle.capture.proofs.Loops.{After}
use Rattle.capture.proofs.run.run.Given as goal

abbrev pub invariant-loop-k : goal.invariant-loop-k
invariant-loop-k g l = After l.initial.m l.capture l.initial.buffer l.buffer l.m l.k × Held l.m.state
