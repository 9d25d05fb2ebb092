-- A call is answered where its refusal is 0 and refused by the number otherwise: one law for each side, for every call. Assumes nothing.
use mathlib.Core.Bool.{Bool, true, false, cond, not}
use mathlib.Core.Path.{◌≡◌, refl, sym, ap, ◌∙◌}
use Prim.Native.Nat.{ℕ}
use native.Mathlib.Omega.{arith}
use lib.Dec.{eqb}
use borrow.Author.Tests.{eq-eqb, ne_eqb, eqb-true}
use Rattle.states.specs.State.{◌when◌otherwise◌, ◌or_else◌}

module _ {A : Type 0} {number n : ℕ} (is : n ≡ number) (x : A) where
  pub answered : (y : A) → n ≡ 0 → x ≡ cond (eqb number 0) x y
  answered y z = rw (eq-eqb _ _ (sym is ∙ z))

  pub refused : (f : ℕ → A) → (n ≡ 0 → ⊥) → f n ≡ cond (eqb number 0) x (f number)
  refused f h = ap f is ∙ rw (ne_eqb _ _ (λ z. h (is ∙ z)))

-- an order of refusals that begins with those of another order
module _ {first n : ℕ} (is : n ≡ first) (later : ℕ) where
  pub by_first : (n ≡ 0 → ⊥) → n ≡ (first or_else later)
  by_first h = is ∙ rw (ne_eqb _ _ (λ z. h (is ∙ z)))

  pub by_later : n ≡ 0 → later ≡ (first or_else later)
  by_later z = rw (eq-eqb _ _ (sym is ∙ z))

-- where such an order comes to 0, both parts do
pub both_zero : (first later : ℕ) → (first or_else later) ≡ 0 → (first ≡ 0) × (later ≡ 0)
both_zero first later e = go (eqb first 0) refl e
  where
    go : (b : Bool) → eqb first 0 ≡ b → (first when not b otherwise later) ≡ 0 → (first ≡ 0) × (later ≡ 0)
    go true z e = (eqb-true first 0 z, e)
    go false z e = (e, absurd (clash (sym z ∙ eq-eqb first 0 e)))
      where
        clash : false ≡ true → ⊥
        clash e = let z : ◌≡◌ {A = ℕ} 0 1 = cc in omega arith
