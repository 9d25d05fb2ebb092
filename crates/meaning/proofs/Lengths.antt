-- How long a head's line can be. Assumes nothing.
use mathlib.Core.Bool.{Bool, true, false}
use mathlib.Core.Path.{◌≡◌, refl, ap}
use mathlib.Core.List.{List, [], ◌∷◌, ◌++◌}
use Prim.Native.Nat.{ℕ, ◌+◌, ◌-◌, ◌*◌, ◌<◌, ◌≤◌}
use native.Mathlib.Omega.{arith}
use lib.Dec.{ltb}
use lib.ListN.{length, drop, length-take, length-drop, length-append}
use borrow.Author.Tests.{ltb-true, ltb-false}
use Rattle.std.proofs.Common.{Option, Some, None}
use Rattle.text.specs.Differ.{first_difference}
use Rattle.text.specs.Ascii.{ascii}
use Rattle.text.specs.Digits.{decimal, hexes}
use Rattle.text.proofs.Decimals.{few_digits}
use Rattle.numerals.specs.Piece.{holding, begins, ends, around}
use Rattle.numerals.specs.Line.{found, head_line}
use Rattle.numerals.proofs.Pieces.{in_station, in_head, inside}

two_each : (bytes : List ℕ) → length (hexes bytes) ≡ 2 * length bytes
unfolding hexes
two_each [] = refl
two_each (b ∷ bytes) = omega (arith, two_each bytes)

around_length : (text : List ℕ) (k : ℕ) → length (around text k) ≤ length text
unfolding around
around_length text k =
    let from = begins text k in
    omega (arith, length-take (ends text k - from) (drop from text), length-drop from text)

module _ (station head : List ℕ) (n : ℕ) (s : length station ≤ n) (d : length head ≤ n) (few : n < 100000) where
  holding_by : (k : ℕ) (t : Bool) → ltb k (length station) ≡ t → length (holding station head k) ≤ n
  holding_by k true e =
      let l : length station ≡ length (holding station head k) = ap length (in_station station head k (ltb-true _ _ e)) in omega (arith, l, s)
  holding_by k false e =
      let l : length head ≡ length (holding station head k) = ap length (in_head station head k (ltb-false _ _ e)) in omega (arith, l, d)

  found_by : (x : Option ℕ) → first_difference station head ≡ x → length (found x station head) ≤ 2 * n + 7
  found_by None e = omega arith
  found_by (Some k) e =
      let text = holding station head k in
      let long : length text ≤ n = holding_by k (ltb k (length station)) refl in
      let digits : length (decimal k) ≤ 5 = few_digits 4 k (omega (arith, inside station head k e, long, few)) in
      omega (arith, long, digits, around_length text k, two_each (around text k), length-append (ascii " " ++ decimal k ++ ascii " ") (hexes (around text k)), length-append (ascii " " ++ decimal k) (ascii " "))

  pub line_length : (h : ℕ) → h < 10 → length (head_line h station head) ≤ 2 * n + 9
  unfolding head_line
  line_length h one =
      let said = found (first_difference station head) station head in
      let digit : length (decimal h) ≤ 1 = few_digits 0 h one in
      omega (arith, digit, found_by (first_difference station head) refl, length-append (decimal h ++ said) (ascii "\n"), length-append (decimal h) said)
