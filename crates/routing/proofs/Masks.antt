-- What the mask of four answers tells: each answer, whether there is a yes, and how many. Assumes nothing.
use mathlib.Core.Bool.{Bool, true, false, not, ◌||◌, beq}
use mathlib.Core.Path.{◌≡◌, refl, sym, ap, ◌∙◌}
use mathlib.Core.List.{[], ◌∷◌}
use Prim.Native.Nat.{ℕ, ◌+◌, ◌*◌, ◌%◌, ◌≤◌, ◌<◌}
use native.Mathlib.Nat.{mod-lt}
use native.Mathlib.Omega.{arith}
use lib.Count.{ones, ones_in}
use lib.Dec.{eqb, eqb→eq, lit<}
use borrow.Author.Tests.{eq-eqb, ne_eqb, not-true, not-false}
use Rattle.routing.specs.Four.{some, bit, bit_at, count, mask}
use Rattle.routing.proofs.Fours.{row, at_four, not_both}
use Rattle.routing.proofs.Tests.{upto, flags, everywhere, beq→eq}

abbrev packed : Bool → Bool → Bool → Bool → ℕ
packed a b c d = bit a + 2 * bit b + 4 * bit c + 8 * bit d

pub packed_of : {a a' b b' c c' d d' : Bool} → a ≡ a' → b ≡ b' → c ≡ c' → d ≡ d' → packed a b c d ≡ packed a' b' c' d'
packed_of p q r s = cc

bit_of : (a b c d : Bool) (i : ℕ) → i < 4 → bit_at i (packed a b c d) ≡ row a b c d i
bit_of a b c d i h =
    beq→eq _ _
    (everywhere (upto 4 ∷ flags []) (λ i a b c d. beq (bit_at i (packed a b c d)) (row a b c d i)) tt i h a b c d)

none : (a b c d : Bool) → eqb (packed a b c d) 0 ≡ not (a || b || c || d)
none a b c d =
    beq→eq _ _ (everywhere (flags []) (λ a b c d. beq (eqb (packed a b c d) 0) (not (a || b || c || d))) tt a b c d)

ones_of : (a b c d : Bool) → ones (packed a b c d) ≡ bit a + bit b + bit c + bit d
unfolding ones ones_in
ones_of a b c d =
    eqb→eq _ _ (everywhere (flags []) (λ a b c d. eqb (ones (packed a b c d)) (bit a + bit b + bit c + bit d)) tt a b c d)

not_not : (b : Bool) → not (not b) ≡ b
not_not true = refl
not_not false = refl

module _ (f : ℕ → Bool) where
  pub in_mask : (i : ℕ) → i < 4 → bit_at i (mask f) ≡ f i
  in_mask i h = bit_of (f 0) (f 1) (f 2) (f 3) i h ∙ at_four f false i h

  pub mask_asked : {m : ℕ} → m ≡ mask f → not (eqb m 0) ≡ some f
  mask_asked e = ap (λ (m : ℕ). not (eqb m 0)) e ∙ ap not (none (f 0) (f 1) (f 2) (f 3)) ∙ not_not (some f)

  pub mask_none : mask f ≡ 0 → some f ≡ false
  mask_none e = not-true (some f) (sym (none (f 0) (f 1) (f 2) (f 3)) ∙ eq-eqb (mask f) 0 e)

  pub mask_some : (mask f ≡ 0 → ⊥) → some f ≡ true
  mask_some h = not-false (some f) (sym (none (f 0) (f 1) (f 2) (f 3)) ∙ ne_eqb (mask f) 0 h)

  -- where somebody says yes, somebody is counted
  pub count_some : some f ≡ true → 1 ≤ count f
  count_some e = go (f 0) (f 1) (f 2) (f 3) e
    where
      go : (a b c d : Bool) → (a || b || c || d) ≡ true → 1 ≤ bit a + bit b + bit c + bit d
      go true b c d e = omega arith
      go false true c d e = omega arith
      go false false true d e = omega arith
      go false false false true e = omega arith
      go false false false false e = absurd (not_both e refl)

  pub ones_mask : ones (mask f) ≡ count f
  ones_mask = ones_of (f 0) (f 1) (f 2) (f 3)

-- a remainder by 2 is its own bit
pub bit_digit : (x : ℕ) → bit (eqb (x % 2) 1) ≡ x % 2
bit_digit x = eqb→eq _ _ (everywhere (upto 2 ∷ []) (λ d. eqb (bit (eqb d 1)) d) tt (x % 2) (mod-lt x (lit< tt)))

pub bit_le : (b : Bool) → bit b ≤ 1
bit_le true = omega arith
bit_le false = omega arith
