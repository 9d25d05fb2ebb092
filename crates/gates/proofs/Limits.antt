-- Refusals 10 and 13, and what a list that they let pass has. Assumes nothing.
use mathlib.Core.Bool.{Bool, true, false, cond, ◌||◌}
use mathlib.Core.Path.{◌≡◌, refl, ap, ◌∙◌}
use mathlib.Core.List.{List}
use Prim.Native.Nat.{ℕ, ◌+◌, ◌*◌, ◌/◌, ◌%◌, ◌^◌, ◌≤◌, ◌<◌}
use native.Mathlib.Nat.{mod-lt, zero-mul}
use native.Mathlib.Omega.{arith}
use lib.Dec.{eqb, ltb}
use lib.ListN.{length}
use lib.Pow.{pow_pos, split}
use borrow.Author.Tests.{ltb-false, eqb-true, eq-eqb, ne_eqb, not-false}
use Rattle.routing.proofs.Fours.{or_left, or_right}
use Rattle.gates.specs.Evaluation.{outside_limits, bit_above, early_refusal}

pub neither : (a b : Bool) → (a || b) ≡ false → (a ≡ false) × (b ≡ false)
neither a b e = (or_left a b e, or_right a b e)

pub few_inputs : (m : ℕ) → (ltb m 1 || ltb 8 m) ≡ false → m ≤ 8
few_inputs m e = ltb-false 8 m (neither (ltb m 1) (ltb 8 m) e).1

module _ (ws : List ℕ) (m x : ℕ) where
  pub inputs_outside : (ltb m 1 || ltb 8 m) ≡ true → 10 ≡ early_refusal ws m x
  unfolding early_refusal
  inputs_outside a = rw a

  module _ (within : (ltb m 1 || ltb 8 m) ≡ false) where
    pub gates_outside : (eqb (length ws) 0 || ltb 64 (m + length ws)) ≡ true → 10 ≡ early_refusal ws m x
    unfolding early_refusal
    gates_outside a = rw (within, a)

    module _ (room : (eqb (length ws) 0 || ltb 64 (m + length ws)) ≡ false) where
      pub bit_above_lem : (x / 2 ^ m ≡ 0 → ⊥) → 13 ≡ early_refusal ws m x
      unfolding early_refusal
      bit_above_lem a = rw (within, room, ne_eqb _ _ a)

      pub passed : x / 2 ^ m ≡ 0 → 0 ≡ early_refusal ws m x
      unfolding early_refusal
      passed a = rw (within, room, eq-eqb _ _ a)

-- no condition holds where the order comes to 0
none : (a b : Bool) → ◌≡◌ {A = ℕ} (cond a 10 (cond b 13 0)) 0 → (a ≡ false) × (b ≡ false)
none true b e = absurd (omega arith)
none false true e = absurd (omega arith)
none false false e = (refl, refl)

below_pow : (x m : ℕ) → x / 2 ^ m ≡ 0 → x < 2 ^ m
below_pow x m e =
    let s : x / 2 ^ m * 2 ^ m + x % 2 ^ m ≡ x = split x m in
    let l : x % 2 ^ m < 2 ^ m = mod-lt x (pow_pos m) in
    let z : x / 2 ^ m * 2 ^ m ≡ 0 = ap (λ (q : ℕ). q * 2 ^ m) e ∙ zero-mul (2 ^ m) in
    omega arith

module _ (ws : List ℕ) (m x : ℕ) (ok : early_refusal ws m x ≡ 0) where
  apart : (outside_limits ws m ≡ false) × (bit_above m x ≡ false)
  unfolding early_refusal
  apart = none (outside_limits ws m) (bit_above m x) ok

  -- the nets fit 64 bits, and the input has only its own nets
  pub fits : m + length ws ≤ 64
  fits =
      let room = (neither (ltb m 1 || ltb 8 m) (eqb (length ws) 0 || ltb 64 (m + length ws)) apart.0).1 in
      ltb-false 64 (m + length ws) (neither (eqb (length ws) 0) (ltb 64 (m + length ws)) room).1

  pub input_below : x < 2 ^ m
  input_below = below_pow x m (eqb-true (x / 2 ^ m) 0 (not-false (eqb (x / 2 ^ m) 0) apart.1))
