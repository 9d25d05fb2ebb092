-- The answer of a single cycle by gates can be told from what document 01 says of it. Assumes nothing.
use mathlib.Core.Path.{◌≡◌, sym, ap, ◌∙◌}
use Prim.Native.Nat.{ℕ}
use Rattle.std.specs.Prelude.{Result, Ok, Err}
use Rattle.states.specs.declared.state.Refused.{Refused}
use Rattle.states.proofs.States.{not_3}
use Rattle.states.proofs.Refusals.{never_0}
use Rattle.fabric.specs.declared.cycle.Moved.{Moved}
use Rattle.fabric.specs.Cycle.{cycle_of}
use Rattle.fabric.proofs.Told.{number_is, same_refused}
use Rattle.engine.specs.Cycle.{GateAnswer, without_report, gate_answer, GateCycleSettles}

abbrev moved : GateAnswer → Moved
moved c = record { acks = c.acks; shown = c.shown; machine = c.machine }

-- of two that tell one answer, and no 3
same_told : {n : ℕ} (c : GateAnswer) → c.number ≡ n → (3 ≡ n → ⊥) → (a b : Result Moved Refused) → gate_answer a ≡ c → gate_answer b ≡ c → a ≡ b
same_told c is h (Ok a) (Ok b) e f = ap (λ (x : GateAnswer). Ok (moved x)) (e ∙ sym f)
same_told c is h (Ok a) (Err q) e f = absurd (never_0 q.why (ap (λ (x : GateAnswer). x.number) (f ∙ sym e)))
same_told c is h (Err r) (Ok b) e f = absurd (never_0 r.why (ap (λ (x : GateAnswer). x.number) (e ∙ sym f)))
same_told c is h (Err r) (Err q) e f =
    ap Err
    (same_refused r q (ap (λ (x : GateAnswer). x.number) e ∙ is) (ap (λ (x : GateAnswer). x.number) f ∙ is) h (ap (λ (x : GateAnswer). x.machine) (e ∙ sym f)))

pub gate_cycle_settles : GateCycleSettles
gate_cycle_settles m i a b e f = same_told (without_report (cycle_of m i)) (number_is m i) (not_3 m.state) a b e f
