-- What the number of a call's result tells: 0 of an answer, and never 0 of a refusal. Assumes nothing.
use mathlib.Core.Path.{◌≡◌, refl, sym, ap, ◌∙◌}
use Prim.Native.Nat.{ℕ}
use native.Mathlib.Omega.{arith}
use lib.Dec.{eqb}
use Rattle.std.proofs.Common.{cond, Option, Some, None, Result, Ok, Err}
use Rattle.states.specs.declared.refusal.Refusal.{Refusal}
use Rattle.states.specs.declared.refusal.Refusal.TheVariants.{CaptureCut, AnswersTooShort, SpareBitSet, TooManyRecords, SavedLength, SavedZerosSet, OpenWhileWaiting, HeldTwice, SavingTooShort, HolderAbove}
use Rattle.states.specs.Refusal.{number_of, index_of, number_in, NumbersTell, CheckSettles}
use Rattle.states.proofs.States.{not_3}

pub never_0 : (r : Refusal) → number_of r ≡ 0 → ⊥
never_0 CaptureCut e = omega arith
never_0 AnswersTooShort e = omega arith
never_0 (SpareBitSet k) e = omega arith
never_0 TooManyRecords e = omega arith
never_0 SavedLength e = omega arith
never_0 SavedZerosSet e = omega arith
never_0 OpenWhileWaiting e = omega arith
never_0 HeldTwice e = omega arith
never_0 SavingTooShort e = omega arith
never_0 HolderAbove e = omega arith

module _ {A : Type 0} {n : ℕ} {r : Result A Refusal} (is : number_in r ≡ n) where
  pub when_ok : {a : A} → r ≡ Ok a → 0 ≡ n
  when_ok e = sym (ap number_in e) ∙ is

  pub when_err : {why : Refusal} → r ≡ Err why → number_of why ≡ n
  when_err e = sym (ap number_in e) ∙ is

-- the refusal that a number and a place tell
abbrev place : Option ℕ → ℕ
place (Some k) = k
place None = 0

abbrev refusal_of : ℕ → Option ℕ → Refusal
refusal_of n i =
    cond (eqb n 1) CaptureCut
    (cond (eqb n 2) AnswersTooShort
    (cond (eqb n 3) (SpareBitSet (place i))
    (cond (eqb n 4) TooManyRecords
    (cond (eqb n 5) SavedLength
    (cond (eqb n 6) SavedZerosSet
    (cond (eqb n 7) OpenWhileWaiting
    (cond (eqb n 8) HeldTwice
    (cond (eqb n 9) SavingTooShort HolderAbove))))))))

back : (r : Refusal) → refusal_of (number_of r) (index_of r) ≡ r
back CaptureCut = refl
back AnswersTooShort = refl
back (SpareBitSet k) = refl
back TooManyRecords = refl
back SavedLength = refl
back SavedZerosSet = refl
back OpenWhileWaiting = refl
back HeldTwice = refl
back SavingTooShort = refl
back HolderAbove = refl

pub numbers_tell : NumbersTell
numbers_tell r q e f = sym (back r) ∙ ap (λ (n : ℕ). refusal_of n (index_of r)) e ∙ ap (refusal_of (number_of q)) f ∙ back q

-- any number but 3 gives the index, which is none
no_index : (r : Refusal) → (3 ≡ number_of r → ⊥) → index_of r ≡ None
no_index CaptureCut h = refl
no_index AnswersTooShort h = refl
no_index (SpareBitSet k) h = absurd (h refl)
no_index TooManyRecords h = refl
no_index SavedLength h = refl
no_index SavedZerosSet h = refl
no_index OpenWhileWaiting h = refl
no_index HeldTwice h = refl
no_index SavingTooShort h = refl
no_index HolderAbove h = refl

-- two refusals that tell one number, which is not 3
pub same_refusal : (r q : Refusal) {n : ℕ} → number_of r ≡ n → number_of q ≡ n → (3 ≡ n → ⊥) → r ≡ q
same_refusal r q e f h = numbers_tell r q (e ∙ sym f) (no_index r (λ t. h (t ∙ e)) ∙ sym (no_index q (λ t. h (t ∙ f))))

pub same_number : {n : ℕ} (a b : Result (Unit {0}) Refusal) → number_in a ≡ n → number_in b ≡ n → (3 ≡ n → ⊥) → a ≡ b
same_number (Ok a) (Ok b) e f h = refl
same_number (Ok a) (Err q) e f h = absurd (never_0 q (f ∙ sym e))
same_number (Err r) (Ok b) e f h = absurd (never_0 r (e ∙ sym f))
same_number (Err r) (Err q) e f h = ap Err (same_refusal r q e f h)

pub check_settles : CheckSettles
check_settles s a b e f = same_number a b e f (not_3 s)
