-- A cycle by gates is a cycle by the rules, and so is a run, so whatever is said of runs is said of the gate engine.
use Rattle.std.specs.Prelude.{◌≡◌, ℕ, suc}
use Rattle.states.specs.State.{Held, first_row, second_row}
use Rattle.fabric.specs.declared.cycle.Inputs.{Inputs}
use Rattle.fabric.specs.Cycle.{Machine, step_of}
use Rattle.fabric.specs.Run.{reset_machine}
use Rattle.records.specs.Record.{Bytes}
use Rattle.fabric.specs.declared.cycle.Moved.{Moved}
use Rattle.engine.specs.Cycle.{gate_step_of, unreported}
use Rattle.runs.specs.Run.{Run, Accepted}
use Rattle.runs.specs.Demand.{Demand}

-- A cycle by gates, over the meaning of the gate words, is rules 1 to 7: it answers what the plain cycle does, without a report, for every
-- state whose holders are inputs' numbers.
abbrev pub GatesAreRules : Type 0
GatesAreRules = (m : Machine) (i : Inputs) → Bytes (second_row m.rows) → Held m.state → gate_step_of m i ≡ unreported (step_of m i)

-- the machine that a cycle by gates leaves
abbrev pub machine_left : Moved → Machine
machine_left c = c.machine

-- A run by gates: each machine is what the cycle before it leaves.
pub record GateRun : Type 0 where
  pub at : ℕ → Machine
  pub ins : ℕ → Inputs
  pub steps : (t : ℕ) → at (suc t) ≡ machine_left (gate_step_of (at t) (ins t))

-- every input sends bytes
abbrev pub SendsBytes : GateRun → Type 0
SendsBytes g = (t : ℕ) → Bytes (g.ins t).bytes

-- the state is accepted, and the latches hold bytes
pub record Fit (m : Machine) : Type 0 where
  pub accepted : Accepted m.state
  pub first : Bytes (first_row m.rows)
  pub second : Bytes (second_row m.rows)

-- the run by the rules that has the same machines and the same inputs, and answers the same in every cycle
pub record ByRules (g : GateRun) : Type 0 where
  pub run : Run
  pub same_machines : (t : ℕ) → run.at t ≡ g.at t
  pub same_inputs : (t : ℕ) → run.ins t ≡ g.ins t
  pub same_answers : (t : ℕ) → gate_step_of (g.at t) (g.ins t) ≡ unreported (step_of (run.at t) (run.ins t))

abbrev pub GatesByRules : Type 0
GatesByRules = (g : GateRun) → SendsBytes g → Fit (g.at 0) → ByRules g

-- Demand 3, of the gate engine from reset.
pub record GateDemand (g : GateRun) : Type 0 where
  pub by_rules : ByRules g
  pub demand : Demand by_rules.run

abbrev pub GatesDemandThree : Type 0
GatesDemandThree = (g : GateRun) → SendsBytes g → g.at 0 ≡ reset_machine → GateDemand g
