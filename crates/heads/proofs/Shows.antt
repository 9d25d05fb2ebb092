-- A head's bytes, a cycle at a time, and how many there can be. Assumes nothing.
use mathlib.Core.Bool.{Bool, true, false}
use mathlib.Core.Path.{◌≡◌, refl, sym, ap, ◌∙◌}
use mathlib.Core.List.{List, [], ◌∷◌, ◌++◌}
use Prim.Native.Nat.{ℕ, zero, suc, ◌+◌, ◌-◌, ◌<◌, ◌≤◌}
use native.Mathlib.Omega.{arith}
use native.Mathlib.Numerals.{add-one}
use lib.Dec.{eqb}
use lib.ListN.{length}
use borrow.Author.Tests.{eq-eqb, ne_eqb}
use Rattle.places.specs.Capture.{records}
use Rattle.heads.specs.Shown.{shown_at, shown_from, without_zeros, head_text}

pub dropped : (b : ℕ) → b ≡ 0 → [] ≡ without_zeros (b ∷ [])
unfolding without_zeros
dropped b h = rw (eq-eqb b 0 h)

pub kept : (b : ℕ) → (b ≡ 0 → ⊥) → (b ∷ []) ≡ without_zeros (b ∷ [])
unfolding without_zeros
kept b h = rw (ne_eqb b 0 h)

front_by : (t : Bool) (b : ℕ) (bytes : List ℕ) → eqb b 0 ≡ t → without_zeros (b ∷ bytes) ≡ without_zeros (b ∷ []) ++ without_zeros bytes
unfolding without_zeros
front_by true b bytes e = rw e
front_by false b bytes e = rw e

front : (b : ℕ) (bytes : List ℕ) → without_zeros (b ∷ bytes) ≡ without_zeros (b ∷ []) ++ without_zeros bytes
front b bytes = front_by (eqb b 0) b bytes refl

module _ (answers : List ℕ) (h : ℕ) where
  -- what is still to come from cycle k on, of n cycles
  abbrev pub left : ℕ → ℕ → List ℕ
  left n k = without_zeros (shown_from answers h k (n - k))

  pub at_first : (n : ℕ) → without_zeros (shown_from answers h 0 n) ≡ left n 0
  at_first n =
      let all : n ≡ n - 0 = omega arith in ap (λ (m : ℕ). without_zeros (shown_from answers h 0 m)) all

  pub next_cycle : (n k : ℕ) → k < n → left n k ≡ without_zeros (shown_at answers h k ∷ []) ++ left n (k + 1)
  unfolding shown_from
  next_cycle n k less =
      let more : n - k ≡ suc (n - (k + 1)) = omega (arith, less) in
      ap (λ (m : ℕ). without_zeros (shown_from answers h k m)) more
      ∙ front (shown_at answers h k) (shown_from answers h (suc k) (n - (k + 1)))
      ∙ ap (λ (j : ℕ). without_zeros (shown_at answers h k ∷ []) ++ without_zeros (shown_from answers h j (n - (k + 1)))) (sym (add-one k))

  pub at_last : (n k : ℕ) → n ≤ k → left n k ≡ []
  unfolding shown_from without_zeros
  at_last n k over =
      let none : n - k ≡ 0 = omega (arith, over) in ap (λ (m : ℕ). without_zeros (shown_from answers h k m)) none

  one_a_cycle : (k n : ℕ) → length (shown_from answers h k n) ≡ n
  unfolding shown_from
  one_a_cycle k zero = refl
  one_a_cycle k (suc n) = ap suc (one_a_cycle (suc k) n)

no_more_by : (t : Bool) (b : ℕ) (bytes : List ℕ) → eqb b 0 ≡ t → length (without_zeros bytes) ≤ length bytes → length (without_zeros (b ∷ bytes)) ≤ suc (length bytes)
unfolding without_zeros
no_more_by true b bytes e h = rw e (omega (arith, h))
no_more_by false b bytes e h = rw e (omega (arith, h))

no_more : (bytes : List ℕ) → length (without_zeros bytes) ≤ length bytes
unfolding without_zeros
no_more [] = omega arith
no_more (b ∷ bytes) = no_more_by (eqb b 0) b bytes refl (no_more bytes)

-- a head shows at most one byte in a cycle
pub at_most : (answers : List ℕ) (h : ℕ) → length (head_text answers h) ≤ records answers
at_most answers h = omega (arith, no_more (shown_from answers h 0 (records answers)), one_a_cycle answers h 0 (records answers))
