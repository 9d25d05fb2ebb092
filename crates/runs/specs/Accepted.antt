-- Accepted states stay accepted.
use Rattle.std.specs.Prelude.{ℕ}
use Rattle.fabric.specs.declared.cycle.Inputs.{Inputs}
use Rattle.states.specs.State.{reset_state}
use Rattle.fabric.specs.Cycle.{Machine, stepped}
use Rattle.runs.specs.Run.{Run, Accepted, FromAccepted}

-- Reset is accepted.
abbrev pub ResetAccepted : Type 0
ResetAccepted = Accepted reset_state

-- A cycle takes an accepted state to an accepted state, whatever its inputs and whatever bytes the rows hold.
abbrev pub CycleAccepted : Type 0
CycleAccepted = (m : Machine) (i : Inputs) → Accepted m.state → Accepted (stepped m i).state

-- So does every run.
abbrev pub RunAccepted : Type 0
RunAccepted = (r : Run) → FromAccepted r → (t : ℕ) → Accepted (r.at t).state
