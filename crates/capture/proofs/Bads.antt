-- The search for the first bad record. Assumes nothing.
use mathlib.Core.Bool.{Bool, true, false, cond}
use mathlib.Core.Path.{◌≡◌, refl, sym, ap, ◌∙◌}
use mathlib.Core.List.{List}
use mathlib.Core.Logic.{⊎_elim}
use Prim.Native.Nat.{ℕ, zero, suc, ◌+◌, ◌-◌, ◌<◌, ◌≤◌}
use native.Mathlib.Nat.{add-zero, eq-or-lt_of_le}
use native.Mathlib.Numerals.{add-one}
use native.Mathlib.Omega.{arith}
use Rattle.capture.specs.Refusal.{bad, first_bad}

-- the loop: what is found from the start is what is found from here
module _ (capture : List ℕ) (n k : ℕ) (inv : first_bad capture 0 n ≡ first_bad capture k (n - k)) where
  split : k < n → first_bad capture 0 n ≡ cond (bad capture k) k (first_bad capture (k + 1) (n - (k + 1)))
  unfolding first_bad
  split more =
      let e : n - k ≡ suc (n - (k + 1)) = omega arith in
      inv ∙ ap (first_bad capture k) e ∙ ap (λ (j : ℕ). cond (bad capture k) k (first_bad capture j (n - (k + 1)))) (sym (add-one k))

  pub found : k < n → bad capture k ≡ true → k ≡ first_bad capture 0 n
  found more b = sym (split more ∙ ap (λ (t : Bool). cond t k (first_bad capture (k + 1) (n - (k + 1)))) b)

  pub passed : k < n → bad capture k ≡ false → first_bad capture 0 n ≡ first_bad capture (k + 1) (n - (k + 1))
  passed more b = split more ∙ ap (λ (t : Bool). cond t k (first_bad capture (k + 1) (n - (k + 1)))) b

  pub none : n ≤ k → k ≡ first_bad capture 0 n
  unfolding first_bad
  none h = let e : n - k ≡ 0 = omega arith in sym (inv ∙ ap (first_bad capture k) e)

-- the search passes every record exactly where each is good
module _ (capture : List ℕ) where
  pub all_good : (k n : ℕ) → ((j : ℕ) → k ≤ j → j < k + n → bad capture j ≡ false) → first_bad capture k n ≡ k + n
  unfolding first_bad
  all_good k zero h = sym (add-zero k)
  all_good k (suc n) h =
      ap (λ (t : Bool). cond t k (first_bad capture (suc k) n)) (h k (omega arith) (omega arith))
      ∙ all_good (suc k) n (λ j lo hi. h j (omega arith) (omega arith)) ∙ omega arith

  pub good_at : (k n : ℕ) → k + n ≤ first_bad capture k n → (j : ℕ) → k ≤ j → j < k + n → bad capture j ≡ false
  unfolding first_bad
  good_at k zero h j lo hi = absurd (omega arith)
  good_at k (suc n) h j lo hi = go (bad capture k) refl h (λ l more. good_at (suc k) n l j more (omega arith))
    where
      go : (b : Bool) → bad capture k ≡ b → k + suc n ≤ cond b k (first_bad capture (suc k) n)
          → (suc k + n ≤ first_bad capture (suc k) n → suc k ≤ j → bad capture j ≡ false) → bad capture j ≡ false
      go true e l on = absurd (omega arith)
      go false e l on = ⊎_elim (λ same. ap (bad capture) (sym same) ∙ e) (λ more. on (omega arith) more) (eq-or-lt_of_le lo)
