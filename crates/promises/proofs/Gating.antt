-- A run by gates is a run by the rules. Assumes nothing.
use mathlib.Core.Path.{◌≡◌, refl, sym, ap, subst, ◌∙◌}
use Prim.Native.Nat.{ℕ, zero, suc, ◌<◌}
use lib.Dec.{lit<}
use Rattle.states.specs.State.{zero_row}
use Rattle.states.proofs.States.{held}
use Rattle.fabric.specs.declared.cycle.Inputs.{Inputs}
use Rattle.fabric.specs.Cycle.{Machine, rows_after, stepped, step_of}
use Rattle.fabric.specs.Run.{reset_machine}
use Rattle.records.specs.Record.{Bytes}
use Rattle.engine.specs.Cycle.{gate_step_of, unreported}
use Rattle.engine.proofs.Cycles.{by_the_rules}
use Rattle.runs.specs.Run.{Run}
use Rattle.runs.proofs.Accepting.{reset_accepted, cycle_accepted}
use Rattle.runs.proofs.Showing.{zero_row_lem}
use Rattle.runs.proofs.Demand.{demand_3}
use Rattle.promises.specs.Gates.{GatesAreRules, machine_left, GateRun, SendsBytes, Fit, GatesByRules, GatesDemandThree}

pub gates_are_rules : GatesAreRules
gates_are_rules = by_the_rules

module _ (m : Machine) (i : Inputs) (f : Fit m) where
  same_answer : gate_step_of m i ≡ unreported (step_of m i)
  same_answer = gates_are_rules m i f.second (held m.state f.accepted)

  same_step : machine_left (gate_step_of m i) ≡ stepped m i
  unfolding rows_after
  same_step = ap machine_left same_answer

  next_fit : Bytes i.bytes → Fit (stepped m i)
  unfolding rows_after
  next_fit b = record { accepted = cycle_accepted m i f.accepted; first = b; second = f.first }

module _ (g : GateRun) (bytes : SendsBytes g) (start : Fit (g.at 0)) where
  fit : (t : ℕ) → Fit (g.at t)
  fit zero = start
  fit (suc t) = subst Fit (sym (g.steps t ∙ same_step (g.at t) (g.ins t) (fit t))) (next_fit (g.at t) (g.ins t) (fit t) (bytes t))

  by_rules : Run
  by_rules = record { at = g.at; ins = g.ins; steps = λ t. g.steps t ∙ same_step (g.at t) (g.ins t) (fit t) }

pub gates_by_rules : GatesByRules
unfolding by_rules
gates_by_rules g bytes start = record {
  run = by_rules g bytes start;
  same_machines = λ t. refl;
  same_inputs = λ t. refl;
  same_answers = λ t. same_answer (g.at t) (g.ins t) (fit g bytes start t);
}

reset_fit : Fit reset_machine
reset_fit = record { accepted = reset_accepted; first = zeros; second = zeros }
  where
    zeros : Bytes zero_row
    zeros k = subst (λ (n : ℕ). n < 256) (sym (zero_row_lem k)) (lit< tt)

pub gates_demand_3 : GatesDemandThree
gates_demand_3 g bytes start =
    let same = gates_by_rules g bytes (subst Fit (sym start) reset_fit) in
    record { by_rules = same; demand = demand_3 same.run (same.same_machines 0 ∙ start) }
