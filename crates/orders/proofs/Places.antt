-- The places of an order's cells, the cells, and the frame that it asks for. Assumes nothing.
use mathlib.Core.Bool.{Bool, not}
use mathlib.Core.Path.{◌≡◌, refl, ap, ◌∙◌}
use mathlib.Core.List.{List, [], ◌∷◌}
use Prim.Native.Nat.{ℕ, zero, suc, ◌+◌, ◌*◌, ◌%◌, ◌/◌, ◌^◌, ◌<◌}
use native.Mathlib.Omega.{arith}
use lib.Bits.{bit_and}
use lib.Dec.{eqb}
use lib.ListN.{take, drop}
use borrow.Author.Tests.{ne_eqb}
use Rattle.std.proofs.Math.Nat.{zero-mul}
use Rattle.std.proofs.lemmas.Nat.{pow_pos}
use Rattle.std.proofs.lemmas.Nat.Bits.{and_pow}
use Rattle.routing.specs.Four.{four, bit_at}
use Rattle.routing.proofs.Equal.{two, row_of}
use Rattle.records.specs.Record.{byte_at}
use Rattle.plans.specs.Plan.{planned}
use Rattle.orders.specs.Order.{order_cycles, order_acks, cell_size, place_of, order_cell, plan_of}

module _ (order : List ℕ) where
  pub first_place : 4 ≡ place_of order 0
  unfolding place_of
  first_place = refl

  -- from the place of one cell to the place of the next
  pub next_place : (i : ℕ) {at next : ℕ} → at ≡ place_of order i → next ≡ at + 1 + cell_size order at → next ≡ place_of order (suc i)
  unfolding place_of
  next_place i is e = e ∙ ap (λ (a : ℕ). a + 1 + cell_size order a) is

  -- from the place of one cell to the cell itself
  module _ (i : ℕ) {at n : ℕ} (is : at ≡ place_of order i) (size : n ≡ cell_size order at) where
    n_is : n ≡ cell_size order (place_of order i)
    n_is = size ∙ ap (cell_size order) is

    pub cell_is : {l : List ℕ} → l ≡ take n (drop (at + 1) order) → l ≡ order_cell order i
    cell_is e = e ∙ two (λ (a m : ℕ). take m (drop (a + 1) order)) is n_is

  pub plan_is : {gap cycles : ℕ} {acks : List Bool} {a b c d : List ℕ} → gap ≡ byte_at order 0 → cycles ≡ order_cycles order → acks ≡ order_acks order
      → a ≡ order_cell order 0 → b ≡ order_cell order 1 → c ≡ order_cell order 2 → d ≡ order_cell order 3
      → planned gap cycles acks (a ∷ b ∷ c ∷ d ∷ []) ≡ plan_of order
  plan_is {gap = gap} {cycles = cycles} eg ec ea e0 e1 e2 e3 =
      two (planned gap cycles) ea (row_of e0 e1 e2 e3) ∙ two (λ (g n : ℕ). planned g n (order_acks order) (four (order_cell order))) eg ec

-- bit k of a number is set where the number and 2 ^ k have a bit in common
pub set_bit : (n k : ℕ) → not (eqb (bit_and n (2 ^ k)) 0) ≡ bit_at k n
set_bit n k = rw (and_pow n k) (go (n / 2 ^ k % 2) (omega arith) (2 ^ k) (pow_pos k))
  where
    go : (b : ℕ) → b < 2 → (p : ℕ) → 0 < p → not (eqb (b * p) 0) ≡ eqb b 1
    go zero h p q = rw (zero-mul p)
    go (suc zero) h p q = let some : 1 * p ≡ 0 → ⊥ = λ z. omega (arith, z, q) in rw (ne_eqb _ _ some)
    go (suc (suc b)) h p q = absurd (omega (arith, h))
