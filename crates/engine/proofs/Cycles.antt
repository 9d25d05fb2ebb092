-- The gate engine's cycle is rules 1 to 7, and leaves holders that are inputs' numbers. Assumes nothing.
use mathlib.Core.Bool.{Bool}
use mathlib.Core.Path.{◌≡◌, ap}
use Rattle.std.proofs.Common.{Ok}
use mathlib.Core.List.{List, [], ◌∷◌}
use Prim.Native.Nat.{ℕ}
use Rattle.states.specs.declared.state.State.{State}
use Rattle.fabric.specs.declared.cycle.Inputs.{Inputs}
use Rattle.states.specs.State.{Held, first_row, second_row, switch_row}
use Rattle.fabric.specs.Cycle.{Machine, machine, shown, rows_after, moved_of, step_of, done_cycle}
use Rattle.records.specs.Record.{Bytes}
use Rattle.fabric.specs.declared.cycle.Moved.{Moved}
use Rattle.engine.specs.Cycle.{gate_step_of, unreported, gate_answer, without_report}
use Rattle.engine.proofs.Control.{next_state}
use Rattle.engine.proofs.Choices.{acks_made, switch_made}

abbrev pub parts : Machine → Inputs → List Bool → State → List ℕ → Moved
parts m i acks state switched = record {
  acks = acks;
  shown = shown m;
  machine = machine state (i.bytes ∷ first_row m.rows ∷ switched ∷ switch_row m.rows ∷ []);
}

pub parts_of : (m : Machine) (i : Inputs) {a a' : List Bool} {s s' : State} {w w' : List ℕ} → a ≡ a' → s ≡ s' → w ≡ w' → parts m i a s w ≡ parts m i a' s' w'
parts_of m i p q r = cc

pub by_the_rules : (m : Machine) (i : Inputs) → Bytes (second_row m.rows) → Held m.state → gate_step_of m i ≡ unreported (step_of m i)
unfolding rows_after
by_the_rules m i bytes held =
    parts_of m i (acks_made m.state held i.acks) (next_state m.state (second_row m.rows) i.frame held)
    (switch_made m.state held (second_row m.rows) (λ h _. bytes h))

-- what a cycle leaves is its answer without the report
pub answer_is : (m : Machine) (i : Inputs) {t : Moved} → t ≡ moved_of m i → gate_answer (Ok t) ≡ without_report (done_cycle (step_of m i))
answer_is m i e = ap (λ (x : Moved). gate_answer (Ok x)) e
