-- What saving and taking up answer can be told from what document 01 says of it. Assumes nothing.
use mathlib.Core.Bool.{Bool, true, false, cond, not}
use mathlib.Core.Path.{◌≡◌, refl, sym, ap, ◌∙◌}
use mathlib.Core.List.{List}
use Prim.Native.Nat.{ℕ, ◌%◌}
use native.Mathlib.Omega.{arith}
use lib.Dec.{eqb, ltb}
use lib.ListN.{length}
use borrow.Author.Tests.{eqb-true}
use Rattle.std.specs.Prelude.{Result, Ok, Err}
use Rattle.states.specs.declared.state.State.{State}
use Rattle.states.specs.declared.state.Machine.{Machine}
use Rattle.states.specs.declared.state.Refused.{Refused}
use Rattle.states.specs.State.{◌when◌otherwise◌, state_refusal}
use Rattle.states.proofs.States.{not_3}
use Rattle.states.proofs.Refusals.{never_0, same_number}
use Rattle.fabric.proofs.Told.{same_refused}
use Rattle.saved.specs.Saved.{TakenUp, word_in, state_in, save_refusal, take_up_refusal, taken_up, not_taken_up, take_up_of, taken_as, SaveSettles, TakeUpSettles}

-- neither is refused by 3
save_not_3 : (s : State) (room : ℕ) → 3 ≡ save_refusal s room → ⊥
unfolding save_refusal
save_not_3 s room e = go (eqb (state_refusal s) 0) (ltb room 18) e
  where
    go : (a b : Bool) → 3 ≡ (state_refusal s when not a otherwise 9 when b otherwise 0) → ⊥
    go false b e = not_3 s e
    go true true e = omega arith
    go true false e = omega arith

take_up_not_3 : (saved : List ℕ) → 3 ≡ take_up_refusal saved → ⊥
unfolding take_up_refusal
take_up_not_3 saved e = go (eqb (length saved) 18) (eqb (word_in saved % 8) 0) e
  where
    go : (a b : Bool) → 3 ≡ (5 when not a otherwise 6 when not b otherwise state_refusal (state_in (word_in saved))) → ⊥
    go false b e = omega arith
    go true false e = omega arith
    go true true e = not_3 (state_in (word_in saved)) e

pub save_settles : SaveSettles
save_settles s room a b e f = same_number a b e f (save_not_3 s room)

number_is : (saved : List ℕ) → (take_up_of saved).number ≡ take_up_refusal saved
number_is saved = go (eqb (take_up_refusal saved) 0) refl
  where
    go : (b : Bool) → eqb (take_up_refusal saved) 0 ≡ b → (cond b (taken_up saved) (not_taken_up (take_up_refusal saved))).number ≡ take_up_refusal saved
    go true z = sym (eqb-true (take_up_refusal saved) 0 z)
    go false z = refl

-- of two that tell one answer, and no 3
same_told : {n : ℕ} (c : TakenUp) → c.number ≡ n → (3 ≡ n → ⊥) → (a b : Result Machine Refused) → taken_as a ≡ c → taken_as b ≡ c → a ≡ b
same_told c is h (Ok a) (Ok b) e f = ap (λ (x : TakenUp). Ok x.machine) (e ∙ sym f)
same_told c is h (Ok a) (Err q) e f = absurd (never_0 q.why (ap (λ (x : TakenUp). x.number) (f ∙ sym e)))
same_told c is h (Err r) (Ok b) e f = absurd (never_0 r.why (ap (λ (x : TakenUp). x.number) (e ∙ sym f)))
same_told c is h (Err r) (Err q) e f =
    ap Err
    (same_refused r q (ap (λ (x : TakenUp). x.number) e ∙ is) (ap (λ (x : TakenUp). x.number) f ∙ is) h (ap (λ (x : TakenUp). x.machine) (e ∙ sym f)))

pub take_up_settles : TakeUpSettles
take_up_settles saved a b e f = same_told (take_up_of saved) (number_is saved) (take_up_not_3 saved) a b e f
