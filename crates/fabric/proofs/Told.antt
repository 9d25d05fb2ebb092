-- A single cycle's answer can be told from what document 01 says of it. Assumes nothing.
use mathlib.Core.Bool.{Bool, true, false, cond}
use mathlib.Core.Path.{◌≡◌, refl, sym, ap, ◌∙◌}
use Prim.Native.Nat.{ℕ}
use lib.Dec.{eqb}
use borrow.Author.Tests.{eqb-true}
use Rattle.std.specs.Prelude.{Result, Ok, Err}
use Rattle.routing.proofs.Equal.{two}
use Rattle.states.specs.declared.state.Machine.{Machine}
use Rattle.states.specs.declared.state.Refused.{Refused}
use Rattle.states.specs.declared.refusal.Refusal.{Refusal}
use Rattle.states.specs.State.{state_refusal}
use Rattle.states.specs.Refusal.{number_of}
use Rattle.states.proofs.States.{not_3}
use Rattle.states.proofs.Refusals.{never_0, same_refusal}
use Rattle.fabric.specs.declared.cycle.Inputs.{Inputs}
use Rattle.fabric.specs.declared.cycle.Cycled.{Cycled}
use Rattle.fabric.specs.Cycle.{CycleAnswer, done_cycle, refused_cycle, step_of, cycle_of, cycle_answer, CycleSettles}

-- the number of a single cycle is that of its state, so it is never 3
pub number_is : (m : Machine) (i : Inputs) → (cycle_of m i).number ≡ state_refusal m.state
number_is m i = go (eqb (state_refusal m.state) 0) refl
  where
    go : (b : Bool) → eqb (state_refusal m.state) 0 ≡ b → (cond b (done_cycle (step_of m i)) (refused_cycle (state_refusal m.state) m)).number ≡ state_refusal m.state
    go true z = sym (eqb-true (state_refusal m.state) 0 z)
    go false z = refl

abbrev refused : Refusal → Machine → Refused
refused why m = record { why = why; machine = m }

pub same_refused : (r q : Refused) {n : ℕ} → number_of r.why ≡ n → number_of q.why ≡ n → (3 ≡ n → ⊥) → r.machine ≡ q.machine → r ≡ q
same_refused r q e f h k = two refused (same_refusal r.why q.why e f h) k

abbrev cycled : CycleAnswer → Cycled
cycled c = record { report = c.report; moved = record { acks = c.acks; shown = c.shown; machine = c.machine } }

-- of two that tell one answer, and no 3
same_told : {n : ℕ} (c : CycleAnswer) → c.number ≡ n → (3 ≡ n → ⊥) → (a b : Result Cycled Refused) → cycle_answer a ≡ c → cycle_answer b ≡ c → a ≡ b
same_told c is h (Ok a) (Ok b) e f = ap (λ (x : CycleAnswer). Ok (cycled x)) (e ∙ sym f)
same_told c is h (Ok a) (Err q) e f = absurd (never_0 q.why (ap (λ (x : CycleAnswer). x.number) (f ∙ sym e)))
same_told c is h (Err r) (Ok b) e f = absurd (never_0 r.why (ap (λ (x : CycleAnswer). x.number) (e ∙ sym f)))
same_told c is h (Err r) (Err q) e f =
    ap Err
    (same_refused r q (ap (λ (x : CycleAnswer). x.number) e ∙ is) (ap (λ (x : CycleAnswer). x.number) f ∙ is) h (ap (λ (x : CycleAnswer). x.machine) (e ∙ sym f)))

pub cycle_settles : CycleSettles
cycle_settles m i a b e f = same_told (cycle_of m i) (number_is m i) (not_3 m.state) a b e f
