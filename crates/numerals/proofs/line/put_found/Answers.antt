use mathlib.Core.Path.{sym, ap, ◌∙◌}
use Rattle.text.specs.Digits.{hexes}
use Rattle.text.proofs.Pages.{spelt, ◌then◌}
use Rattle.numerals.proofs.Pieces.{inside}
use Rattle.numerals.proofs.line.put_found.Goals as goal

pub piece_at-requires : goal.piece_at-requires
piece_at-requires c = inside _ _ _ (sym c.first_difference.ensures ∙ c.in-Some.is)

pub returns-in-Some : goal.returns-in-Some
returns-in-Some c =
    rw (sym c.first_difference.ensures ∙ c.in-Some.is) (c.put_byte.ensures then c.put_decimal.ensures then c.put_byte-in-Some.ensures then spelt c.put_hex.ensures (ap hexes c.piece_at.ensures))
