-- One bit more: the number whose bit n, which was 0, is set. Assumes nothing.
use mathlib.Core.Path.{◌≡◌, sym, ap, ◌∙◌}
use mathlib.Core.Bool.{Bool, true, false}
use Prim.Native.Nat.{ℕ, suc, ◌+◌, ◌-◌, ◌*◌, ◌/◌, ◌%◌, ◌^◌, ◌≤◌, ◌<◌}
use native.Mathlib.Nat.{div-eq_of_lt, add-mul-div_right, add-mul-mod_self_right, mul_assoc, pow-suc, lt_of_lt_of_le}
use native.Mathlib.Numerals.{add-one}
use native.Mathlib.Omega.{arith}
use mir.Val.{bool_byte}
use lib.Dec.{eqb, lit<}
use lib.Pow.{pow_pos, pow_mono, pow-add, shl_exact, high}
use Rattle.routing.specs.Four.{bit, bit_at}

-- a number has no bit at or above its size
no_bit : (v n : ℕ) → v < 2 ^ n → false ≡ bit_at n v
no_bit v n h = sym (ap (λ q. eqb (q % 2) 1) (div-eq_of_lt h))

pub no_bit_64 : (v n : ℕ) → v < 2 ^ 64 → 64 ≤ n → false ≡ bit_at n v
no_bit_64 v n h l = no_bit v n (lt_of_lt_of_le h (pow_mono l))

-- what shifting a yes or no gives, in a number of w bits
pub shifted : {r : ℕ} (b : Bool) (n w : ℕ) → r ≡ bool_byte b → n < w → (r * 2 ^ n) % 2 ^ w ≡ bit b * 2 ^ n
shifted true n w e h = rw e (shl_exact 1 n w (lit< tt) (omega arith))
shifted false n w e h = rw e (shl_exact {a = 0} 1 n w (lit< tt) (omega arith))

pub set_lt : (v n : ℕ) (b : Bool) → v < 2 ^ n → v + bit b * 2 ^ n < 2 ^ (n + 1)
set_lt v n true h = rw (add-one n, pow-suc 2 n) (omega arith)
set_lt v n false h = rw (add-one n, pow-suc 2 n) (omega arith)

pub set_fits : (v n : ℕ) (b : Bool) → n < 64 → v < 2 ^ n → v + bit b * 2 ^ n < 2 ^ 64
set_fits v n b l h = lt_of_lt_of_le (set_lt v n b h) (pow_mono {j = 64} (omega arith))

pub bit_set : (v n : ℕ) (b : Bool) → v < 2 ^ n → bit_at n (v + bit b * 2 ^ n) ≡ b
bit_set v n true h =
    let e : v + 1 * 2 ^ n ≡ 1 * 2 ^ n + v = omega arith in
    rw (e, high 1 n h)
bit_set v n false h = let e : v + 0 * 2 ^ n ≡ v = omega arith in rw (e, div-eq_of_lt h)

module _ (n k : ℕ) (h : k < n) where
  apart : 2 ^ n ≡ 2 ^ (n - k - 1) * 2 * 2 ^ k
  apart =
      let e : n ≡ suc (n - k - 1) + k = omega arith in
      ap (λ (m : ℕ). 2 ^ m) e ∙ pow-add 2 (suc (n - k - 1)) k ∙ ap (λ (p : ℕ). p * 2 ^ k) (pow-suc 2 (n - k - 1))

  apart_bit : (b : Bool) → bit b * 2 ^ n ≡ bit b * 2 ^ (n - k - 1) * 2 * 2 ^ k
  apart_bit b = ap (λ (p : ℕ). bit b * p) apart ∙ simp mul_assoc

  pub bit_below : (v : ℕ) (b : Bool) → bit_at k (v + bit b * 2 ^ n) ≡ bit_at k v
  bit_below v b =
      ap (λ (x : ℕ). eqb x 1)
      (ap (λ (p : ℕ). (v + p) / 2 ^ k % 2) (apart_bit b)
      ∙ ap (λ (q : ℕ). q % 2) (add-mul-div_right v (bit b * 2 ^ (n - k - 1) * 2) (pow_pos k))
      ∙ add-mul-mod_self_right (v / 2 ^ k) (bit b * 2 ^ (n - k - 1)) 2)
