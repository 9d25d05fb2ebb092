-- How long a listing is. Assumes nothing.
use mathlib.Core.Bool.{Bool, true, false, cond}
use mathlib.Core.Path.{◌≡◌, refl}
use mathlib.Core.List.{List, [], ◌∷◌, ◌++◌}
use Prim.Native.Nat.{ℕ, zero, suc, ◌+◌, ◌*◌, ◌<◌, ◌≤◌}
use native.Mathlib.Omega.{arith}
use lib.Dec.{ltb}
use lib.ListN.{length, length-append}
use Rattle.text.specs.Ascii.{ascii}
use Rattle.text.specs.Digits.{decimal}
use Rattle.text.proofs.Decimals.{few_digits}
use Rattle.places.specs.Capture.{records, five_at, record_at}
use Rattle.listing.specs.Listing.{heading, columns, line, lines_from, listing}

-- a record has five bytes, past the end too
by_end : (b : Bool) (answers : List ℕ) (k : ℕ) → length (columns (cond b (five_at answers (5 * k)) (0 ∷ 0 ∷ 0 ∷ 0 ∷ 0 ∷ []))) ≡ 15
unfolding columns
by_end true answers k = refl
by_end false answers k = refl

five_columns : (answers : List ℕ) (k : ℕ) → length (columns (record_at answers k)) ≡ 15
unfolding record_at
five_columns answers k = by_end (ltb k (records answers)) answers k

line_size : (answers : List ℕ) (k : ℕ) → k < 100000 → length (line k (record_at answers k)) ≤ 21
line_size answers k h =
    let c = columns (record_at answers k) in
    let d : length (decimal k) ≤ 5 = few_digits 4 k h in
    let a = length-append (decimal k) c in
    let b = length-append (decimal k ++ c) (ascii "\n") in
    omega (arith, d, a, b, five_columns answers k)

lines_size : (answers : List ℕ) (k n : ℕ) → k + n ≤ 100000 → length (lines_from answers k n) ≤ 21 * n
unfolding lines_from
lines_size answers k zero h = omega arith
lines_size answers k (suc n) h =
    let rest = lines_size answers (suc k) n (omega (arith, h)) in
    let a = length-append (line k (record_at answers k)) (lines_from answers (suc k) n) in
    omega (arith, a, rest, line_size answers k (omega (arith, h)))

pub listing_size : (answers : List ℕ) → records answers ≤ 100000 → length (listing answers) ≤ 22 + 21 * records answers
listing_size answers h = omega (arith, length-append heading (lines_from answers 0 (records answers)), lines_size answers 0 (records answers) (omega (arith, h)))
