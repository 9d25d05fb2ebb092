-- A cell's body, the tests of its size, its last byte and its end, and a test made of each of the four cells. Assumes nothing.
use mathlib.Core.Bool.{Bool, true, false, ◌||◌}
use mathlib.Core.Path.{◌≡◌, refl, sym, ap}
use mathlib.Core.List.{List, [], ◌∷◌, map}
use Prim.Native.Nat.{ℕ, suc, ◌+◌, ◌-◌, ◌<◌, ◌≤◌}
use native.Mathlib.Omega.{arith}
use denote.Ref.{Bor}
use lib.Dec.{eqb, leb, ltb}
use lib.ListN.{length, get_or}
use borrow.Author.Tests.{ne_eqb, ltb-false, leb-true, leb-false, le-leb, lt-leb}
use Rattle.std.specs.List.{list_any}
use Rattle.routing.proofs.Fours.{or_left}
use Rattle.plans.specs.Plan.{body_in}
use Rattle.plans.specs.Refusal.{outside, ends_in_zero, body_wrong, too_late, in_some}

pub body_length : (cell : List ℕ) → length cell - 1 ≡ length (body_in cell)
body_length [] = omega arith
body_length (h ∷ b) = omega arith

-- the last byte of a body that is there is the cell's last
last_byte : (cell : List ℕ) (n : ℕ) → n ≡ length (body_in cell) → 1 ≤ n → eqb (get_or cell n 0) 0 ≡ ends_in_zero (body_in cell)
last_byte [] n e h = absurd (omega (arith, e, h))
last_byte (x ∷ b) n e h =
    let behind : n ≡ suc (length b - 1) = omega (arith, e, h) in ap (λ (k : ℕ). eqb (get_or (x ∷ b) k 0) 0) behind

-- the body's test
module _ (cell : List ℕ) (there : length cell ≡ 0 → ⊥) where
  abbrev n : ℕ
  n = length cell - 1

  size : (ltb n 1 || ltb 64 n) ≡ outside 1 64 (length (body_in cell))
  size = ap (outside 1 64) (body_length cell)

  pub wrong_size : (ltb n 1 || ltb 64 n) ≡ true → true ≡ body_wrong cell
  wrong_size e = rw (ne_eqb _ _ there, sym size, e)

  pub wrong_end : (ltb n 1 || ltb 64 n) ≡ false → eqb (get_or cell n 0) 0 ≡ body_wrong cell
  wrong_end e =
      let some : 1 ≤ n = ltb-false _ _ (or_left (ltb n 1) (ltb 64 n) e) in rw (ne_eqb _ _ there, sym size, e, sym (last_byte cell n (body_length cell) some))

-- the test of where the body ends
pub late : (cell : List ℕ) (first next : ℕ) → (length cell ≡ 0 → ⊥) → leb next (first + length cell) ≡ too_late first next cell
late cell first next there = go (leb next (first + length cell)) refl
  where
    go : (b : Bool) → leb next (first + length cell) ≡ b → b ≡ too_late first next cell
    go true e =
        let later = leb-true next (first + length cell) e in
        let end : next - 1 ≤ first + length (body_in cell) = omega (arith, later, body_length cell, there) in rw (ne_eqb _ _ there, le-leb _ _ end)
    go false e =
        let before = leb-false next (first + length cell) e in
        let end : first + length (body_in cell) < next - 1 = omega (arith, before, body_length cell, there) in rw (ne_eqb _ _ there, lt-leb _ _ end)

one_of : (a b c d : Bool) → (a || (b || (c || (d || false)))) ≡ (a || b || c || d)
one_of true b c d = refl
one_of false true c d = refl
one_of false false true d = refl
one_of false false false true = refl
one_of false false false false = refl

pub any_cell : (wrong : List ℕ → Bool) (cells : List (Bor (List ℕ))) → length cells ≡ 4 → list_any (λ cell. wrong cell.now) cells ≡ in_some wrong (map (λ cell. cell.now) cells)
any_cell wrong (a ∷ b ∷ c ∷ d ∷ []) h = one_of (wrong a.now) (wrong b.now) (wrong c.now) (wrong d.now)
any_cell wrong [] h = absurd (omega (arith, h))
any_cell wrong (a ∷ []) h = absurd (omega (arith, h))
any_cell wrong (a ∷ b ∷ []) h = absurd (omega (arith, h))
any_cell wrong (a ∷ b ∷ c ∷ []) h = absurd (omega (arith, h))
any_cell wrong (a ∷ b ∷ c ∷ d ∷ e ∷ l) h = absurd (omega (arith, h))
