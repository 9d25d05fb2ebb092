-- The listing, a column and a line at a time. Assumes nothing.
use mathlib.Core.Path.{◌≡◌, sym, ap, ◌∙◌}
use mathlib.Core.List.{List, [], ◌++◌}
use Prim.Native.Nat.{ℕ, suc, ◌+◌, ◌-◌, ◌<◌, ◌≤◌}
use native.Mathlib.Omega.{arith}
use native.Mathlib.Numerals.{add-one}
use lib.ListN.{length, get_or, drop, drop_of_length-le}
use Rattle.text.specs.Ascii.{ascii}
use Rattle.text.specs.Digits.{hex}
use Rattle.text.proofs.Pages.{next_byte}
use Rattle.places.specs.Capture.{record_at}
use Rattle.listing.specs.Listing.{columns, line, lines_from}

pub next_column : (bytes : List ℕ) (i : ℕ) → i < length bytes → columns (drop i bytes) ≡ (ascii " " ++ hex (get_or bytes i 0)) ++ columns (drop (i + 1) bytes)
unfolding columns
next_column bytes i h = ap columns (next_byte bytes i h)

pub no_column : (bytes : List ℕ) (i : ℕ) → length bytes ≤ i → columns (drop i bytes) ≡ []
unfolding columns
no_column bytes i h = ap columns (drop_of_length-le bytes h)

pub all_lines : (answers : List ℕ) (n : ℕ) → lines_from answers 0 n ≡ lines_from answers 0 (n - 0)
all_lines answers n =
    let left : n ≡ n - 0 = omega arith in ap (lines_from answers 0) left

pub next_line : (answers : List ℕ) (n k : ℕ) → k < n → lines_from answers k (n - k) ≡ line k (record_at answers k) ++ lines_from answers (k + 1) (n - (k + 1))
unfolding lines_from
next_line answers n k h =
    let left : n - k ≡ suc (n - (k + 1)) = omega (arith, h) in
    ap (lines_from answers k) left ∙ ap (λ (j : ℕ). line k (record_at answers k) ++ lines_from answers j (n - (k + 1))) (sym (add-one k))

pub no_line : (answers : List ℕ) (n k : ℕ) → n ≤ k → lines_from answers k (n - k) ≡ []
unfolding lines_from
no_line answers n k h =
    let none : n - k ≡ 0 = omega (arith, h) in ap (lines_from answers k) none
