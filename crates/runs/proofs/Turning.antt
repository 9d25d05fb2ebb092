-- The turn, counted in steps from the holder: who is first in turn, and how far others are from their turn after it. Assumes nothing.
use mathlib.Core.Bool.{Bool, true, false, cond}
use mathlib.Core.Path.{◌≡◌, refl, sym, ap, subst, ◌∙◌}
use mathlib.Core.Logic.{◌⊎◌, inl, inr}
use Prim.Native.Nat.{ℕ, zero, suc, ◌+◌, ◌-◌, ◌%◌, ◌<◌, ◌≤◌}
use native.Mathlib.Omega.{arith}
use lib.Dec.{ltb}
use borrow.Author.Tests.{ltb-true, ltb-false}
use Rattle.routing.specs.Turn.{in_turn}
use Rattle.routing.proofs.Fours.{not_both}

-- w comes first of those whom f names, some steps after h
pub record FirstAfter (f : ℕ → Bool) (h w : ℕ) : Type 0 where
  pub steps : ℕ
  pub from_one : 1 ≤ steps
  pub to_four : steps ≤ 4
  pub reached : w ≡ (h + steps) % 4
  pub passed_over : (k : ℕ) → 1 ≤ k → k < steps → f ((h + k) % 4) ≡ false

module _ (f : ℕ → Bool) (h : ℕ) where
  -- n steps on, where those before are not named
  counted : (n : ℕ) → 1 ≤ n → n ≤ 4 → (1 < n → f ((h + 1) % 4) ≡ false) → (2 < n → f ((h + 2) % 4) ≡ false) → (3 < n → f ((h + 3) % 4) ≡ false)
      → FirstAfter f h ((h + n) % 4)
  counted n from to p q s = record { steps = n; from_one = from; to_four = to; reached = refl; passed_over = over }
    where
      over : (k : ℕ) → 1 ≤ k → k < n → f ((h + k) % 4) ≡ false
      over zero lo hi = absurd (omega arith)
      over (suc zero) lo hi = p hi
      over (suc (suc zero)) lo hi = q hi
      over (suc (suc (suc zero))) lo hi = s hi
      over (suc (suc (suc (suc k)))) lo hi = absurd (omega arith)

  pub first_after : FirstAfter f h (in_turn f h)
  unfolding in_turn
  first_after = go (f ((h + 1) % 4)) (f ((h + 2) % 4)) (f ((h + 3) % 4)) refl refl refl
    where
      go : (a b c : Bool) → f ((h + 1) % 4) ≡ a → f ((h + 2) % 4) ≡ b → f ((h + 3) % 4) ≡ c
          → FirstAfter f h (cond a ((h + 1) % 4) (cond b ((h + 2) % 4) (cond c ((h + 3) % 4) (h % 4))))
      go true b c p q s = counted 1 (omega arith) (omega arith) (λ l. absurd (omega arith)) (λ l. absurd (omega arith)) (λ l. absurd (omega arith))
      go false true c p q s = counted 2 (omega arith) (omega arith) (λ l. p) (λ l. absurd (omega arith)) (λ l. absurd (omega arith))
      go false false true p q s = counted 3 (omega arith) (omega arith) (λ l. p) (λ l. q) (λ l. absurd (omega arith))
      go false false false p q s =
          let round : (h + 4) % 4 ≡ h % 4 = omega arith in subst (FirstAfter f h) round (counted 4 (omega arith) (omega arith) (λ l. p) (λ l. q) (λ l. s))

-- input i comes d steps after h
pub record Ahead (h i d : ℕ) : Type 0 where
  pub from_one : 1 ≤ d
  pub to_four : d ≤ 4
  pub there : i ≡ (h + d) % 4

pub somewhere_ahead : (h i : ℕ) → i < 4 → Ahead h i (suc ((i + 3 - h % 4) % 4))
somewhere_ahead h i l = record { from_one = omega arith; to_four = omega arith; there = omega arith }

-- one who is named is first, or comes nearer to the next turn
pub record Nearer (w i d : ℕ) : Type 0 where
  pub left : ℕ
  pub fewer : left < d
  pub ahead : Ahead w i left

module _ (f : ℕ → Bool) (h w i d : ℕ) (first : FirstAfter f h w) (a : Ahead h i d) (named : f i ≡ true) where
  not_passed : first.steps ≤ d
  not_passed = go (ltb d first.steps) refl
    where
      go : (b : Bool) → ltb d first.steps ≡ b → first.steps ≤ d
      go true e = absurd (not_both named (ap f a.there ∙ first.passed_over d a.from_one (ltb-true _ _ e)))
      go false e = ltb-false _ _ e

  pub wins_or_nearer : (w ≡ i) ⊎ Nearer w i d
  wins_or_nearer = go (ltb first.steps d) refl
    where
      go : (b : Bool) → ltb first.steps d ≡ b → (w ≡ i) ⊎ Nearer w i d
      go true e =
          let less = ltb-true first.steps d e in
          inr (record {
            left = d - first.steps;
            fewer = omega (arith, first.from_one);
            ahead = record { from_one = omega arith; to_four = omega (arith, a.to_four); there = a.there ∙ moved less };
          })
        where
          moved : first.steps < d → (h + d) % 4 ≡ (w + (d - first.steps)) % 4
          moved less = omega (arith, first.reached)
      go false e =
          let same : first.steps ≡ d = omega (arith, not_passed, ltb-false first.steps d e) in
          inl (first.reached ∙ ap (λ (k : ℕ). (h + k) % 4) same ∙ sym a.there)
