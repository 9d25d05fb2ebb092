-- A letter that is none of those that a function knows. Assumes nothing.
use mathlib.Core.Path.{◌≡◌}
use mathlib.Core.List.{List}
use Prim.Native.Nat.{ℕ}
use borrow.Author.Tests.{ne_eqb}
use Rattle.text.specs.Ascii.{ascii}
use Rattle.requests.specs.Letter.{later_line, line_of}

module _ (letter : ℕ) (payload : List ℕ) where
  pub a_later_letter : ¬ (letter ≡ 67) → ¬ (letter ≡ 68) → ¬ (letter ≡ 82) → ¬ (letter ≡ 71) → ¬ (letter ≡ 83) → ¬ (letter ≡ 84) → ¬ (letter ≡ 69) → later_line letter payload ≡ line_of letter payload
  unfolding line_of
  a_later_letter c d r g s t e =
      rw (ne_eqb letter 67 c, ne_eqb letter 68 d, ne_eqb letter 82 r, ne_eqb letter 71 g, ne_eqb letter 83 s, ne_eqb letter 84 t, ne_eqb letter 69 e)

  pub no_such_letter : ¬ (letter ≡ 87) → ¬ (letter ≡ 75) → ¬ (letter ≡ 78) → ¬ (letter ≡ 72) → ascii "unknown\n" ≡ later_line letter payload
  unfolding later_line
  no_such_letter w k n h = rw (ne_eqb letter 87 w, ne_eqb letter 75 k, ne_eqb letter 78 n, ne_eqb letter 72 h)
