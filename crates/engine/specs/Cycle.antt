-- A cycle of the gate engine. It answers what the plain cycle does, and reports nothing.
use Rattle.std.specs.Prelude.{◌≡◌, Bool, false, List, [], ◌∷◌, ℕ, Result, Ok, Err}
use Rattle.routing.specs.Four.{four}
use Rattle.states.specs.declared.state.Refused.{Refused}
use Rattle.states.specs.Refusal.{number_of}
use Rattle.fabric.specs.declared.cycle.Inputs.{Inputs}
use Rattle.fabric.specs.declared.cycle.Moved.{Moved}
use Rattle.fabric.specs.declared.cycle.Cycled.{Cycled}
use Rattle.states.specs.State.{first_row, second_row, switch_row, zero_row}
use Rattle.fabric.specs.Cycle.{Machine, machine, shown, CycleAnswer, cycle_of}
use Rattle.wiring.specs.Wiring.{gate_state, gate_acks, gate_switch}

-- over the meaning of the gate words: the state, the acknowledgements and the switch bytes are nets; the other bytes move on
abbrev pub gate_step_of : Machine → Inputs → Moved
gate_step_of m i = record {
  acks = gate_acks m.state i.acks;
  shown = shown m;
  machine =
      machine (gate_state m.state (second_row m.rows) i.frame)
      (i.bytes ∷ first_row m.rows ∷ gate_switch m.state (second_row m.rows) ∷ switch_row m.rows ∷ []);
}

-- the plain cycle's answer without its report
abbrev pub unreported : Cycled → Moved
unreported c = c.moved

-- What document 01 says that a single cycle by gates answers: a number, 0 where it is done, the acknowledgements, the shown head bytes, the machine.
pub record GateAnswer : Type 0 where
  pub number : ℕ
  pub acks : List Bool
  pub shown : List ℕ
  pub machine : Machine

abbrev pub without_report : CycleAnswer → GateAnswer
without_report c = record { number = c.number; acks = c.acks; shown = c.shown; machine = c.machine }

-- the code's answer in document 01's words
abbrev pub gate_answer : Result Moved Refused → GateAnswer
gate_answer (Ok c) = record { number = 0; acks = c.acks; shown = c.shown; machine = c.machine }
gate_answer (Err r) = record { number = number_of r.why; acks = four (λ i. false); shown = zero_row; machine = r.machine }

-- What is told settles what was answered: two results that tell one cycle are the same.
abbrev pub GateCycleSettles : Type 0
GateCycleSettles = (m : Machine) (i : Inputs) (a b : Result Moved Refused) → gate_answer a ≡ without_report (cycle_of m i)
    → gate_answer b ≡ without_report (cycle_of m i) → a ≡ b
