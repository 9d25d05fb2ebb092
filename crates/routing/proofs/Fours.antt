-- What is said of each of four, and what is said of one of them. Assumes nothing.
use mathlib.Core.Bool.{Bool, true, false, ◌&&◌, ◌||◌, true≢false}
use mathlib.Core.Path.{◌≡◌, refl, sym, ◌∙◌}
use mathlib.Core.List.{[], ◌∷◌}
use Prim.Native.Nat.{ℕ, zero, suc, ◌<◌}
use native.Mathlib.Omega.{arith}
use lib.ListN.{get_or}
use Rattle.routing.specs.Four.{four, some}

-- four answers as a function that gives them
abbrev pub row : Bool → Bool → Bool → Bool → ℕ → Bool
row a b c d i = get_or (a ∷ b ∷ c ∷ d ∷ []) i false

-- an element of a row of four
pub at_four : {A : Type 0} (f : ℕ → A) (d : A) (i : ℕ) → i < 4 → get_or (four f) i d ≡ f i
at_four f d zero h = refl
at_four f d (suc zero) h = refl
at_four f d (suc (suc zero)) h = refl
at_four f d (suc (suc (suc zero))) h = refl
at_four f d (suc (suc (suc (suc i)))) h = absurd (omega arith)

-- an answer is yes or no, and what is not the one is the other
pub not_both : {b : Bool} → b ≡ true → b ≡ false → ⊥
not_both p q = true≢false (sym p ∙ q)

pub yes_unless : {b : Bool} → (b ≡ false → ⊥) → b ≡ true
yes_unless {b = true} h = refl
yes_unless {b = false} h = absurd (h refl)

pub no_unless : {b : Bool} → (b ≡ true → ⊥) → b ≡ false
no_unless {b = true} h = absurd (h refl)
no_unless {b = false} h = refl

pub and_left : (a b : Bool) → (a && b) ≡ true → a ≡ true
and_left true b e = refl
and_left false b e = e

pub and_right : (a b : Bool) → (a && b) ≡ true → b ≡ true
and_right true b e = e
and_right false b e = cc

pub and_no_left : (a b : Bool) → a ≡ false → (a && b) ≡ false
and_no_left a b e = rw e

pub and_no_right : (a b : Bool) → b ≡ false → (a && b) ≡ false
and_no_right true b e = e
and_no_right false b e = refl

pub or_left : (a b : Bool) → (a || b) ≡ false → a ≡ false
or_left true b e = e
or_left false b e = refl

pub or_right : (a b : Bool) → (a || b) ≡ false → b ≡ false
or_right true b e = cc
or_right false b e = e

-- where f says yes at none of the four it says no at each, and the other way round
module _ (f : ℕ → Bool) where
  pub no_at : some f ≡ false → (i : ℕ) → i < 4 → f i ≡ false
  no_at e zero h = or_left (f 0) (f 1) (or_left (f 0 || f 1) (f 2) (or_left (f 0 || f 1 || f 2) (f 3) e))
  no_at e (suc zero) h = or_right (f 0) (f 1) (or_left (f 0 || f 1) (f 2) (or_left (f 0 || f 1 || f 2) (f 3) e))
  no_at e (suc (suc zero)) h = or_right (f 0 || f 1) (f 2) (or_left (f 0 || f 1 || f 2) (f 3) e)
  no_at e (suc (suc (suc zero))) h = or_right (f 0 || f 1 || f 2) (f 3) e
  no_at e (suc (suc (suc (suc i)))) h = absurd (omega arith)

  pub none_of : ((i : ℕ) → i < 4 → f i ≡ false) → some f ≡ false
  none_of h = rw (h 0 (omega arith), h 1 (omega arith), h 2 (omega arith), h 3 (omega arith))

  -- a yes at one of the four is a yes of some
  pub some_of : (i : ℕ) → i < 4 → f i ≡ true → some f ≡ true
  some_of i h named = yes_unless (λ e. not_both named (no_at e i h))
