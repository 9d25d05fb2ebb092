-- Saving and taking up: the bytes that are written, and each refusal. Assumes nothing.
use mathlib.Core.Bool.{Bool, true, false, not}
use mathlib.Core.Path.{◌≡◌, refl, sym, ap, ◌∙◌}
use mathlib.Core.List.{List, [], ◌∷◌, ◌++◌}
use Prim.Native.Nat.{ℕ, ◌+◌, ◌-◌, ◌/◌, ◌%◌, ◌<◌, ◌≤◌}
use native.Mathlib.Omega.{arith}
use lib.Dec.{eqb, ltb}
use lib.ListN.{length, take, drop}
use lib.Seq.{sets, sets-eq}
use borrow.Author.Tests.{eq-eqb, ne_eqb, eqb-true, le-ltb, ltb-false}
use Rattle.states.specs.declared.state.State.{State}
use Rattle.states.specs.State.{◌when◌otherwise◌, first_row, second_row, switch_row, head_row, state_refusal}
use Rattle.fabric.specs.Cycle.{Machine}
use Rattle.saved.specs.Saved.{row_bytes, saved_bytes, saved_of, save_refusal, save_writes, word_in, state_in, take_up_refusal}
use Rattle.states.proofs.Calls.{both_zero}

-- the word and the four rows, put one after the other, are the saved bytes
pub in_order : (w : ℕ) (rows : List (List ℕ)) (l : List ℕ) {a b c d e : List ℕ} → a ≡ sets l 0 (w / 256 ∷ w % 256 ∷ []) → b ≡ sets a 2 (row_bytes (first_row rows))
    → c ≡ sets b 6 (row_bytes (second_row rows)) → d ≡ sets c 10 (row_bytes (switch_row rows)) → e ≡ sets d 14 (row_bytes (head_row rows))
    → e ≡ sets l 0 (saved_bytes w rows)
in_order w rows l pa pb pc pd pe = rw (pe, pd, pc, pb, pa)

module _ (m : Machine) (l : List ℕ) where
  pub not_written : (save_refusal m.state (length l) ≡ 0 → ⊥) → l ≡ save_writes m l
  unfolding save_writes
  not_written h = rw (ne_eqb _ _ h)

  pub written_as_lem : save_refusal m.state (length l) ≡ 0 → save_writes m l ≡ saved_of m ++ drop 18 l
  unfolding save_writes
  written_as_lem h = rw (eq-eqb _ _ h)

  pub written : save_refusal m.state (length l) ≡ 0 → 17 < length l → sets l 0 (saved_of m) ≡ save_writes m l
  written h room = sets-eq (saved_of m) l 0 (omega arith) ∙ sym (written_as_lem h)

-- what saving without a refusal has
pub save_done : (s : State) (room : ℕ) → save_refusal s room ≡ 0 → (state_refusal s ≡ 0) × (18 ≤ room)
unfolding save_refusal
save_done s room e =
    let z = both_zero (state_refusal s) (9 when ltb room 18 otherwise 0) e in (z.0, ltb-false room 18 (no_9 (ltb room 18) z.1))
  where
    no_9 : (b : Bool) → (9 when b otherwise 0) ≡ 0 → b ≡ false
    no_9 true e = absurd (omega arith)
    no_9 false e = refl

pub save_refusal_of : (s : State) (room : ℕ) → state_refusal s ≡ 0 → 18 ≤ room → save_refusal s room ≡ 0
unfolding save_refusal
save_refusal_of s room ok long = rw (eq-eqb _ _ ok, le-ltb _ _ long)

-- taking up
module _ (saved : List ℕ) where
  pub number_5 : (length saved ≡ 18 → ⊥) → 5 ≡ take_up_refusal saved
  unfolding take_up_refusal
  number_5 h = rw (ne_eqb _ _ h)

  module _ (long : length saved ≡ 18) where
    pub number_6 : {w : ℕ} → w ≡ word_in saved → (w % 8 ≡ 0 → ⊥) → 6 ≡ take_up_refusal saved
    unfolding take_up_refusal
    number_6 e h = rw (eq-eqb _ _ long, ne_eqb _ _ (λ z. h (ap (λ (x : ℕ). x % 8) e ∙ z)))

    pub number_7_8 : {w : ℕ} → w ≡ word_in saved → w % 8 ≡ 0 → state_refusal (state_in w) ≡ take_up_refusal saved
    unfolding take_up_refusal
    number_7_8 e z = ap (λ (x : ℕ). state_refusal (state_in x)) e ∙ rw (eq-eqb _ _ long, eq-eqb _ _ (sym (ap (λ (x : ℕ). x % 8) e) ∙ z))

  -- what taking up without a refusal has
  pub take_up_done : take_up_refusal saved ≡ 0 → (length saved ≡ 18) × (word_in saved % 8 ≡ 0) × (state_refusal (state_in (word_in saved)) ≡ 0)
  unfolding take_up_refusal
  take_up_done e = go (eqb (length saved) 18) (eqb (word_in saved % 8) 0) refl refl e
    where
      go : (a b : Bool) → eqb (length saved) 18 ≡ a → eqb (word_in saved % 8) 0 ≡ b
          → (5 when not a otherwise 6 when not b otherwise state_refusal (state_in (word_in saved))) ≡ 0
          → (length saved ≡ 18) × (word_in saved % 8 ≡ 0) × (state_refusal (state_in (word_in saved)) ≡ 0)
      go false b p q e = absurd (omega arith)
      go true false p q e = absurd (omega arith)
      go true true p q e = (eqb-true _ _ p, eqb-true _ _ q, e)
