use mathlib.Core.Path.{sym, ◌∙◌}
use Rattle.numerals.proofs.Pieces.{inside}
use Rattle.numerals.proofs.part.piece.Goals as goal

pub piece_at-requires : goal.piece_at-requires
piece_at-requires c = inside _ _ _ (sym c.first_difference.ensures ∙ c.in-Some.is)
