-- What is said of a head: `H same`, or `H K P` with the place in decimal and the piece in upper-case hex.
use Rattle.std.specs.Prelude.{List, ◌++◌, Option, Some, None, ℕ}
use Rattle.text.specs.Differ.{first_difference}
use Rattle.text.specs.Ascii.{ascii}
use Rattle.text.specs.Digits.{decimal, hexes}
use Rattle.numerals.specs.Piece.{piece_at}

abbrev pub found : Option ℕ → List ℕ → List ℕ → List ℕ
found None station head = ascii " same"
found (Some k) station head = ascii " " ++ decimal k ++ ascii " " ++ hexes (piece_at (Some k) station head)

unfoldable pub head_line : ℕ → List ℕ → List ℕ → List ℕ
head_line h station head = decimal h ++ found (first_difference station head) station head ++ ascii "\n"

abbrev pub same_line : ℕ → List ℕ
same_line h = decimal h ++ ascii " same" ++ ascii "\n"
