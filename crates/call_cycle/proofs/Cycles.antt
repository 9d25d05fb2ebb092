-- A cycle asked for by a payload, and the line about it. Assumes nothing.
use mathlib.Core.Bool.{Bool, true, false, cond}
use mathlib.Core.Path.{◌≡◌, refl, sym, ap, ◌∙◌}
use mathlib.Core.List.{List}
use Prim.Native.Nat.{ℕ}
use native.Mathlib.Omega.{arith}
use lib.Dec.{eqb}
use lib.ListN.{length}
use Rattle.std.specs.Prelude.{Option, Some, None, unwrap_or}
use Rattle.routing.proofs.Equal.{two}
use Rattle.states.specs.declared.state.State.{State}
use Rattle.fabric.specs.declared.cycle.Inputs.{Inputs}
use Rattle.fabric.specs.Cycle.{machine, cycle_of}
use Rattle.engine.specs.Cycle.{without_report}
use Rattle.records.specs.Record.{inputs_from}
use Rattle.places.specs.Capture.{record_at, inputs_in}
use Rattle.image.specs.Image.{state_from, rows_from, machine_from}
use Rattle.parts.specs.Parts.{malformed}
use Rattle.call_cycle.specs.declared.cycle.Asked.{Asked}
use Rattle.call_cycle.specs.Cycle.{gates_text, plain_text, asked, asked_in, cycle_line}

pub asked_by : (payload : List ℕ) {s : State} {rows : List (List ℕ)} {r : List ℕ} {i : Inputs}
    → s ≡ state_from payload → rows ≡ rows_from payload → r ≡ record_at payload 5 → i ≡ inputs_from r → cycle_of (machine s rows) i ≡ asked payload
asked_by payload es er e i = two cycle_of (two machine es er) (i ∙ ap inputs_from e)

abbrev answers : Option Asked → ℕ
answers (Some a) = 1
answers None = 0

-- by the gates, or by the rules
abbrev line : Bool → Asked → List ℕ
line byGates a = cond byGates (gates_text (without_report (cycle_of a.machine a.inputs))) (plain_text (cycle_of a.machine a.inputs))

module _ (payload : List ℕ) (byGates : Bool) where
  abbrev there : Asked
  there = record { machine = machine_from payload; inputs = inputs_in payload 5 }

  pub asked_line : {a : Asked} → asked_in payload ≡ Some a → line byGates a ≡ cycle_line payload byGates
  unfolding cycle_line
  asked_line {a = a} = go (eqb (length payload) 30)
    where
      go : (b : Bool) → cond b (Some there) None ≡ Some a → line byGates a ≡ cond b (line byGates there) malformed
      go true e = ap (λ (o : Option Asked). line byGates (unwrap_or o a)) (sym e)
      go false e = absurd (omega (arith, ap answers e))

  pub malformed_line : asked_in payload ≡ None → malformed ≡ cycle_line payload byGates
  unfolding cycle_line
  malformed_line = go (eqb (length payload) 30)
    where
      go : (b : Bool) → cond b (Some there) None ≡ None → malformed ≡ cond b (line byGates there) malformed
      go true e = absurd (omega (arith, ap answers e))
      go false e = refl
