-- The piece of one text, and which of the two texts it lies in. Assumes nothing.
use mathlib.Core.Bool.{Bool, true, false}
use mathlib.Core.Path.{◌≡◌, refl, sym, ap, ◌∙◌}
use mathlib.Core.List.{List}
use Rattle.std.proofs.Common.{Some}
use Prim.Native.Nat.{ℕ, ◌+◌, ◌<◌, ◌≤◌}
use native.Mathlib.Omega.{arith}
use native.Mathlib.Numerals.{add-one}
use lib.Dec.{ltb}
use lib.ListN.{length, get_or, take, drop_of_length-le}
use borrow.Author.Tests.{lt-ltb, le-ltb, ltb-true, ltb-false}
use Rattle.text.specs.Differ.{first_difference}
use Rattle.numerals.specs.Numeral.{numeral, run_begins, run_ends}
use Rattle.numerals.specs.Piece.{holding, part, around}
use Rattle.numerals.proofs.Places.{found}

module _ (text : List ℕ) (k : ℕ) where
  pub around_run : numeral (get_or text k 0) ≡ true → {from to : ℕ} → from ≡ run_begins text k → to ≡ run_ends text k → part text from to ≡ around text k
  unfolding around
  around_run e ef et = rw (e, ef, et)

  pub around_byte : numeral (get_or text k 0) ≡ false → part text k (k + 1) ≡ around text k
  unfolding around
  around_byte e = rw (e, add-one k)

module _ (station head : List ℕ) (k : ℕ) where
  pub in_station : k < length station → station ≡ holding station head k
  in_station h = rw (lt-ltb k (length station) h)

  pub in_head : length station ≤ k → head ≡ holding station head k
  in_head h = rw (le-ltb k (length station) h)

  -- the place lies inside the text that holds it
  inside_by : (t : Bool) → ltb k (length station) ≡ t → first_difference station head ≡ Some k → k < length (holding station head k)
  inside_by true e told =
      let less : k < length station = ltb-true _ _ e in
      let l : length station ≡ length (holding station head k) = ap length (in_station less) in omega (arith, less, l)
  inside_by false e told =
      let past : length station ≤ k = ltb-false _ _ e in
      let l : length head ≡ length (holding station head k) = ap length (in_head past) in
      beyond (ltb k (length head)) refl past l
    where
      beyond : (t : Bool) → ltb k (length head) ≡ t → length station ≤ k → length head ≡ length (holding station head k) → k < length (holding station head k)
      beyond true f past l =
          let less : k < length head = ltb-true _ _ f in omega (arith, less, l)
      beyond false f past l =
          let over : length head ≤ k = ltb-false _ _ f in
          let d = found 0 station head k told in
          let a : length station ≤ d.far = omega (arith, d.there, past) in
          let b : length head ≤ d.far = omega (arith, d.there, over) in
          absurd (d.differ (ap (take 1) (drop_of_length-le station a ∙ sym (drop_of_length-le head b))))

  pub inside : first_difference station head ≡ Some k → k < length (holding station head k)
  inside = inside_by (ltb k (length station)) refl
