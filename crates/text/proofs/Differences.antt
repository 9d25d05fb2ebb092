-- The first difference of two texts as the first of their pairs that differs; the same place by place; and that a text does not differ from itself. Assumes nothing.
use Rattle.std.proofs.Common.{◌≡◌, ℕ, suc, ◌+◌, ◌<◌, ◌≤◌, min, Bool, true, false, not, eqb, ltb, List, [], ◌∷◌, length, drop, get_or, Option, Some, None, position, zip, refl, zero-add, add-one, arith, drop-cons}
use Rattle.std.specs.Bool.{then_some}
use Rattle.std.specs.List.{position_from}
use Rattle.std.specs.Option.{option_or}
use Rattle.std.proofs.lemmas.Iterator.Adapters.{position_from-zero}
use Rattle.std.proofs.lemmas.Grind.{common_steps}
use lib.ListN.{drop_of_length-le}
use borrow.Author.Tests.{ltb-true, ltb-false, eq-eqb, ne_eqb}
use Rattle.text.specs.Differ.{difference_from, first_difference}

abbrev pub differ : ℕ × ℕ → Bool
differ p = not (eqb p.0 p.1)

-- the place where the shorter text ends, if the other goes on
abbrev pub end : ℕ → List ℕ → List ℕ → Option ℕ
end k a b = then_some (not (eqb (length a) (length b))) (k + min (length a) (length b))

by_place : (k : ℕ) (a b : List ℕ) → difference_from k a b ≡ option_or (position_from differ k (zip a b)) (end k a b)
unfolding difference_from
by_place k [] [] = refl
by_place k [] (y ∷ ys) = grind (arith, common_steps)
by_place k (x ∷ xs) [] = grind (arith, common_steps)
by_place k (x ∷ xs) (y ∷ ys) =
    let next = by_place (suc k) xs ys in grind (arith, common_steps)

pub by_position : (a b : List ℕ) → first_difference a b ≡ option_or (position differ (zip a b)) (then_some (not (eqb (length a) (length b))) (min (length a) (length b)))
by_position a b = rw (by_place 0 a b, position_from-zero differ (zip a b), zero-add)

module _ (a b : List ℕ) (i : ℕ) where
  -- what is left of the two texts from place i on
  abbrev pub from_here : Option ℕ
  from_here = difference_from i (drop i a) (drop i b)

  pub same_here : i < length a → i < length b → get_or a i 0 ≡ get_or b i 0 → from_here ≡ difference_from (i + 1) (drop (i + 1) a) (drop (i + 1) b)
  unfolding difference_from
  same_here h k e = rw (drop-cons a i 0 h, drop-cons b i 0 k, eq-eqb _ _ e, add-one i)

  pub differ_here : i < length a → i < length b → ¬ (get_or a i 0 ≡ get_or b i 0) → from_here ≡ Some i
  unfolding difference_from
  differ_here h k e = rw (drop-cons a i 0 h, drop-cons b i 0 k, ne_eqb _ _ e)

  pub both_end : length a ≤ i → length b ≤ i → from_here ≡ None
  unfolding difference_from
  both_end h k = rw (drop_of_length-le a h, drop_of_length-le b k)

  first_ends : length a ≤ i → i < length b → from_here ≡ Some i
  unfolding difference_from
  first_ends h k = rw (drop_of_length-le a h, drop-cons b i 0 k)

  second_ends : i < length a → length b ≤ i → from_here ≡ Some i
  unfolding difference_from
  second_ends h k = rw (drop-cons a i 0 h, drop_of_length-le b k)

  one_ends_by : (t : Bool) → ltb (length a) (length b) ≡ t → i ≡ min (length a) (length b) → ¬ (length a ≡ length b) → from_here ≡ Some i
  one_ends_by true e m h =
      let less : length a < length b = ltb-true _ _ e in first_ends (omega (arith, m, less)) (omega (arith, m, less))
  one_ends_by false e m h =
      let more : length b ≤ length a = ltb-false _ _ e in second_ends (omega (arith, m, h, more)) (omega (arith, m, more))

  -- the shorter text ends, and the other goes on
  pub one_ends : i ≡ min (length a) (length b) → ¬ (length a ≡ length b) → from_here ≡ Some i
  one_ends = one_ends_by (ltb (length a) (length b)) refl

-- a text does not differ from itself
pub itself : (a : List ℕ) (k : ℕ) → difference_from k a a ≡ None
unfolding difference_from
itself [] k = refl
itself (x ∷ a) k = rw (eq-eqb x x refl, itself a (suc k))
