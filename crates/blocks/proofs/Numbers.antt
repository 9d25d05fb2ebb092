-- A number made of its bits, one after the other, and why eight are enough for a block. Assumes nothing.
use mathlib.Core.Bool.{Bool, true, false}
use Rattle.std.proofs.Math.Bool.{or-true}
use mathlib.Core.Path.{◌≡◌, refl, sym, ap, subst, ◌∙◌}
use mathlib.Core.List.{List, [], ◌∷◌}
use Prim.Native.Nat.{ℕ, zero, suc, ◌+◌, ◌*◌, ◌%◌, ◌^◌, ◌<◌, ◌≤◌}
use native.Mathlib.Nat.{pow-suc, mul_assoc, lt_of_lt_of_le}
use native.Mathlib.Omega.{arith}
use native.Mathlib.Numerals.{add-one}
use mir.Val.{bool_byte}
use lib.Dec.{ltb, lit<}
use lib.ListN.{length, take, get_or}
use lib.Pow.{pow_mono}
use borrow.Author.Tests.{lt-ltb, ltb-true, ltb-false}
use Rattle.std.proofs.lemmas.List.{take_all, length-take-le}
use Rattle.routing.specs.Four.{bit}
use Rattle.routing.proofs.Equal.{two}
use Rattle.routing.proofs.Masks.{bit_le}
use Rattle.words.proofs.Bits.{shifted}
use Rattle.gates.specs.Evaluation.{value_of}
use Rattle.gates.proofs.Limits.{inputs_outside}
use Rattle.gates.proofs.Values.{value_refused}
use Rattle.blocks.specs.Lines.{lines}

-- block inputs are a number below 2 to the power of their count
pub lines_lt : (l : List Bool) → lines l < 2 ^ length l
lines_lt [] = lit< tt
lines_lt (b ∷ bs) = rw (pow-suc 2 (length bs)) (omega (arith, bit_le b, lines_lt bs))

pub lines_more : (l : List Bool) (i : ℕ) → i < length l → lines (take (suc i) l) ≡ lines (take i l) + bit (get_or l i false) * 2 ^ i
lines_more [] i h = absurd (omega arith)
lines_more (b ∷ bs) zero h = omega arith
lines_more (b ∷ bs) (suc i) h =
    let here : bit (get_or bs i false) * 2 ^ suc i ≡ bit (get_or bs i false) * 2 ^ i * 2 = ap (λ (p : ℕ). bit (get_or bs i false) * p) (pow-suc 2 i) ∙ sym (mul_assoc (bit (get_or bs i false)) (2 ^ i) 2) in
    omega (arith, lines_more bs i (omega arith))

-- the evaluator refuses more than eight inputs
nine_inputs : (words : List ℕ) (m x : ℕ) → 8 < m → 0 ≡ value_of words m x
nine_inputs words m x h =
    value_refused words m x (inputs_outside words m x (rw (lt-ltb 8 m h) (or-true (ltb m 1)))) (λ e. omega arith)

one_of : {P : Type 0} (m n : ℕ) (b : Bool) → ltb m n ≡ b → (m < n → P) → (n ≤ m → P) → P
one_of m n true e above within = above (ltb-true m n e)
one_of m n false e above within = within (ltb-false m n e)

pub eight_enough : (words : List ℕ) (l : List Bool) → value_of words (length l) (lines (take 8 l)) ≡ value_of words (length l) (lines l)
eight_enough words l =
    one_of 8 (length l) (ltb 8 (length l)) refl
    (λ h. sym (nine_inputs words (length l) (lines (take 8 l)) h) ∙ nine_inputs words (length l) (lines l) h)
    (λ h. ap (λ (k : List Bool). value_of words (length l) (lines k)) (take_all 8 l h))

-- one more bit fits a number of eight
module _ (l : List Bool) (i : ℕ) (more : i < length l) (few : length l ≤ 8) where
  pub bit_fits : lines (take i l) + bit (get_or l i false) * 2 ^ i < 2 ^ 8
  bit_fits =
      let short : length (take (suc i) l) ≡ suc i = length-take-le (suc i) l (omega arith) in
      let small : lines (take (suc i) l) < 2 ^ suc i = subst (λ (n : ℕ). lines (take (suc i) l) < 2 ^ n) short (lines_lt (take (suc i) l)) in
      lt_of_lt_of_le (subst (λ (n : ℕ). n < 2 ^ suc i) (lines_more l i more) small) (pow_mono {j = 8} (omega arith))

-- one more bit, as the code adds it
pub added : (l : List Bool) (i : ℕ) {n r : ℕ} → i < length l → length l ≤ 8 → n ≡ lines (take i l) → r ≡ bool_byte (get_or l i false)
    → (n + r * 2 ^ i % 2 ^ 8 ≡ lines (take (i + 1) l)) × (n + r * 2 ^ i % 2 ^ 8 < 2 ^ 8)
added l i {n} {r} more few so_far new =
    let e : n + r * 2 ^ i % 2 ^ 8 ≡ lines (take i l) + bit (get_or l i false) * 2 ^ i = two ◌+◌ so_far (shifted (get_or l i false) i 8 new (omega arith)) in
    (e ∙ sym (lines_more l i more) ∙ ap (λ (k : ℕ). lines (take k l)) (sym (add-one i)), subst (λ (k : ℕ). k < 2 ^ 8) (sym e) (bit_fits l i more few))
