-- What the place and the line tell of two texts: `same` exactly if they are equal. Assumes nothing.
use mathlib.Core.Path.{◌≡◌, refl, sym, ap, ◌∙◌}
use mathlib.Core.List.{List, [], ◌++◌, append_assoc}
use Prim.Native.Nat.{ℕ, ◌+◌}
use native.Mathlib.Omega.{arith}
use lib.ListN.{length, get_or, take, drop}
use lib.Seq.{get_or-append-add, drop-append_seam}
use Rattle.std.proofs.Common.{Option, Some, None}
use Rattle.text.specs.Differ.{difference_from, first_difference}
use Rattle.text.specs.Ascii.{ascii}
use Rattle.text.specs.Digits.{decimal, hexes}
use Rattle.text.proofs.Decimals.{first_digit}
use Rattle.text.proofs.Differences.{itself}
use Rattle.numerals.specs.Piece.{piece_at}
use Rattle.numerals.specs.Line.{found, head_line, same_line}
use Rattle.numerals.proofs.Places as places
use Rattle.meaning.specs.Texts.{byte_there, NothingDiffers, PlaceFound, SaysSame, NumeralsSeen}

pub nothing_differs : NothingDiffers
nothing_differs station head = (places.alike 0 station head, λ e. ap (difference_from 0 station) (sym e) ∙ itself station 0)

pub place_found : PlaceFound
place_found station head k = (
  λ e.
      let f = places.found 0 station head k e in
      let far : f.far ≡ k = omega (arith, f.there) in (
        ap (λ (n : ℕ). take n station) (sym far) ∙ f.agree ∙ ap (λ (n : ℕ). take n head) far,
        λ h. f.differ (ap (byte_there station) far ∙ h ∙ ap (byte_there head) (sym far)),
      ),
  λ e h.
      let n : 0 + k ≡ k = omega arith in
      places.only 0 k station head e h ∙ ap Some n,
)

module _ (h : ℕ) where
  -- a line, and what stands behind it, from the head's number on
  abbrev line_with : List ℕ → List ℕ → List ℕ
  line_with said rest = decimal h ++ said ++ ascii "\n" ++ rest

  from_number : (said rest : List ℕ) → line_with said rest ≡ decimal h ++ (said ++ ascii "\n" ++ rest)
  from_number said rest = append_assoc (decimal h ++ said) (ascii "\n") rest ∙ append_assoc (decimal h) said (ascii "\n" ++ rest) ∙ ap (λ (l : List ℕ). decimal h ++ l) (sym (append_assoc said (ascii "\n") rest))

  -- the byte behind the head's number and a blank
  abbrev tells : List ℕ → ℕ
  tells line = get_or line (length (decimal h) + 1) 0

  tells_of : (said rest : List ℕ) → tells (line_with said rest) ≡ get_or (said ++ ascii "\n" ++ rest) 1 0
  tells_of said rest = ap tells (from_number said rest) ∙ get_or-append-add (decimal h) (said ++ ascii "\n" ++ rest) 1 0

  module _ (station head rest other : List ℕ) where
    by : (d : Option ℕ) → first_difference station head ≡ d → line_with (found d station head) rest ≡ same_line h ++ other → (station ≡ head) × (rest ≡ other)
    by None is e = ((nothing_differs station head).0 is, sym (drop-append_seam (same_line h) rest) ∙ ap (λ (l : List ℕ). drop (length (same_line h)) l) e ∙ drop-append_seam (same_line h) other)
    by (Some k) is e =
        let d = first_digit k in
        let first = ap (λ (l : List ℕ). get_or (l ++ ascii " " ++ hexes (piece_at (Some k) station head) ++ ascii "\n" ++ rest) 0 0) d.spelt in
        let digit : tells (line_with (found (Some k) station head) rest) ≡ d.digit = tells_of (found (Some k) station head) rest ∙ first in
        let letter : tells (same_line h ++ other) ≡ 115 = tells_of (ascii " same") other in
        absurd (omega (arith, sym digit ∙ ap tells e ∙ letter, d.small))

pub says_same : SaysSame
unfolding head_line
says_same h station head rest other = (by h station head rest other (first_difference station head) refl, λ e. ap (λ (d : Option ℕ). decimal h ++ found d station head ++ ascii "\n") ((nothing_differs station head).1 e))

pub numerals_seen : NumeralsSeen
numerals_seen h station head k is not e =
    let same : station ≡ head = ((says_same h station head [] []).0 (ap (λ (l : List ℕ). l ++ []) e)).0 in
    not (ap (λ (l : List ℕ). get_or l k 0) same)
