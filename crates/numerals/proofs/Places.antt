-- The first place where two texts differ, and that nothing differs where they are equal. Assumes nothing.
use mathlib.Core.Bool.{Bool, true, false}
use mathlib.Core.Path.{◌≡◌, refl, sym, ap, ◌∙◌}
use mathlib.Core.List.{List, [], ◌∷◌}
use Rattle.std.proofs.Common.{Some, None}
use Prim.Native.Nat.{ℕ, zero, suc, ◌+◌}
use native.Mathlib.Omega.{arith}
use lib.Dec.{eqb}
use lib.ListN.{take, drop}
use borrow.Author.Tests.{eq-eqb, ne_eqb, eqb-true, eqb-false}
use Rattle.text.specs.Differ.{difference_from}

module _ (i x y : ℕ) (xs ys : List ℕ) where
  go_on : x ≡ y → difference_from i (x ∷ xs) (y ∷ ys) ≡ difference_from (suc i) xs ys
  unfolding difference_from
  go_on e = rw (eq-eqb x y e)

  stop : (x ≡ y → ⊥) → difference_from i (x ∷ xs) (y ∷ ys) ≡ Some i
  unfolding difference_from
  stop e = rw (ne_eqb x y e)

-- what a difference at place k says of two texts from place i on
pub record Found (i : ℕ) (a b : List ℕ) (k : ℕ) : Type 0 where
  pub far : ℕ
  pub there : k ≡ i + far
  pub agree : take far a ≡ take far b
  pub differ : take 1 (drop far a) ≡ take 1 (drop far b) → ⊥

at_once : (i : ℕ) (a b : List ℕ) (k : ℕ) → Some i ≡ Some k → (take 1 (drop 0 a) ≡ take 1 (drop 0 b) → ⊥) → Found i a b k
at_once i a b k e h =
    let t : i ≡ k = cc in record { far = 0; there = omega (arith, t); agree = refl; differ = h }

module _ (i x y : ℕ) (xs ys : List ℕ) (k : ℕ) (told : difference_from i (x ∷ xs) (y ∷ ys) ≡ Some k) where
  found_by : (t : Bool) → eqb x y ≡ t → (difference_from (suc i) xs ys ≡ Some k → Found (suc i) xs ys k) → Found i (x ∷ xs) (y ∷ ys) k
  found_by true e next =
      let same : x ≡ y = eqb-true x y e in
      let f = next (sym (go_on i x y xs ys same) ∙ told) in
      record { far = suc f.far; there = omega (arith, f.there); agree = cc; differ = f.differ }
  found_by false e next =
      let not_same : x ≡ y → ⊥ = eqb-false x y e in
      at_once i (x ∷ xs) (y ∷ ys) k (sym (stop i x y xs ys not_same) ∙ told) (λ h. not_same (cc))

pub found : (i : ℕ) (a b : List ℕ) (k : ℕ) → difference_from i a b ≡ Some k → Found i a b k
unfolding difference_from
found i [] [] k e = absurd (cc)
found i [] (y ∷ ys) k e = at_once i [] (y ∷ ys) k e (λ h. cc)
found i (x ∷ xs) [] k e = at_once i (x ∷ xs) [] k e (λ h. cc)
found i (x ∷ xs) (y ∷ ys) k e = found_by i x y xs ys k e (eqb x y) refl (found (suc i) xs ys k)

here : (i : ℕ) → Some i ≡ Some (i + 0)
here i =
    let n : i ≡ i + 0 = omega arith in ap Some n

-- the only place that is such
pub only : (i j : ℕ) (a b : List ℕ) → take j a ≡ take j b → (take 1 (drop j a) ≡ take 1 (drop j b) → ⊥) → difference_from i a b ≡ Some (i + j)
unfolding difference_from
only i zero [] [] e h = absurd (h refl)
only i zero [] (y ∷ ys) e h = here i
only i zero (x ∷ xs) [] e h = here i
only i zero (x ∷ xs) (y ∷ ys) e h = stop i x y xs ys (λ same. h (cc)) ∙ here i
only i (suc j) [] [] e h = absurd (h refl)
only i (suc j) [] (y ∷ ys) e h = absurd (cc)
only i (suc j) (x ∷ xs) [] e h = absurd (cc)
only i (suc j) (x ∷ xs) (y ∷ ys) e h =
    let n : suc i + j ≡ i + suc j = omega arith in
    go_on i x y xs ys (cc) ∙ only (suc i) j xs ys (cc) h ∙ ap Some n

alike_by : (t : Bool) (i x y : ℕ) (xs ys : List ℕ) → eqb x y ≡ t → (difference_from (suc i) xs ys ≡ None → xs ≡ ys) → difference_from i (x ∷ xs) (y ∷ ys) ≡ None → (x ∷ xs) ≡ (y ∷ ys)
alike_by true i x y xs ys e next told =
    let same : x ≡ y = eqb-true x y e in
    let rest = next (sym (go_on i x y xs ys same) ∙ told) in cc
alike_by false i x y xs ys e next told =
    let t = stop i x y xs ys (eqb-false x y e) in absurd (cc)

pub alike : (i : ℕ) (a b : List ℕ) → difference_from i a b ≡ None → a ≡ b
unfolding difference_from
alike i [] [] e = refl
alike i [] (y ∷ ys) e = absurd (cc)
alike i (x ∷ xs) [] e = absurd (cc)
alike i (x ∷ xs) (y ∷ ys) e = alike_by (eqb x y) i x y xs ys refl (alike (suc i) xs ys) e
