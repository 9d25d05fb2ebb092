-- The start of a list, and a part of it. Assumes nothing.
use mathlib.Core.Bool.{Bool, true, false}
use mathlib.Core.Path.{◌≡◌, refl, sym, ap, ◌∙◌}
use mathlib.Core.List.{List}
use Prim.Native.Nat.{ℕ, ◌+◌, ◌-◌, ◌≤◌, min}
use native.Mathlib.Omega.{arith}
use lib.Dec.{ltb}
use lib.ListN.{length, take, drop, replicate, length-drop, length-replicate, drop_of_length-le}
use lib.Seq.{take_all, take-length}
use borrow.Author.Tests.{ltb-true, ltb-false}
use Rattle.std.proofs.lemmas.List.{take-replicate}

-- a list that is the same byte throughout, and a part of it
pub part_length : (a n m : ℕ) {l : List ℕ} → l ≡ replicate m a → n ≤ m → n ≡ length (take n l)
part_length a n m e h = sym (ap (λ (x : List ℕ). length (take n x)) e ∙ ap length (take-replicate n m a h) ∙ length-replicate n a)

-- a part from a place to the end
pub part_all : (a : ℕ) (l : List ℕ) → take (length l - a) (drop a l) ≡ drop a l
part_all a l = take_all (length l - a) (drop a l) (omega (arith, length-drop a l))

module _ (n : ℕ) (l : List ℕ) where
  by_size : (b : Bool) → ltb (length l) n ≡ b → take (min n (length l)) l ≡ take n l
  by_size true e =
      let long : length l ≤ n = omega (arith, ltb-true (length l) n e) in
      let all : min n (length l) ≡ length l = omega (arith, long) in ap (λ (k : ℕ). take k l) all ∙ take-length l ∙ sym (take_all n l long)
  by_size false e =
      let some : min n (length l) ≡ n = omega (arith, ltb-false (length l) n e) in ap (λ (k : ℕ). take k l) some

  -- no list has more than all its elements
  pub take_min : take (min n (length l)) l ≡ take n l
  take_min = by_size (ltb (length l) n) refl

  drop_by : (b : Bool) → ltb (length l) n ≡ b → drop (min n (length l)) l ≡ drop n l
  drop_by true e =
      let long : length l ≤ n = omega (arith, ltb-true (length l) n e) in
      let less : length l ≤ min n (length l) = omega (arith, long) in drop_of_length-le l less ∙ sym (drop_of_length-le l long)
  drop_by false e =
      let some : min n (length l) ≡ n = omega (arith, ltb-false (length l) n e) in ap (λ (k : ℕ). drop k l) some

  pub drop_min : drop (min n (length l)) l ≡ drop n l
  drop_min = drop_by (ltb (length l) n) refl

-- a part from a place on, with as many elements as there are
pub part_of : (l : List ℕ) (at n : ℕ) {from count : ℕ} → from ≡ min at (length l) → count ≡ min n (length l - from) → take (from + count - from) (drop from l) ≡ take n (drop at l)
part_of l at n {from = from} {count = count} ef ec =
    let same : drop from l ≡ drop at l = ap (λ (k : ℕ). drop k l) ef ∙ drop_min at l in
    let few : from + count - from ≡ min n (length (drop at l)) = omega (arith, ec, ap length same, length-drop from l) in
    ap (λ (d : List ℕ). take (from + count - from) d) same ∙ ap (λ (k : ℕ). take k (drop at l)) few ∙ take_min n (drop at l)
