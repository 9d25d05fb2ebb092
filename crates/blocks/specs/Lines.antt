-- Yes and no as the bits of a number, the first in bit 0: so the evaluator takes a block's inputs, and so a byte or a holder is made of its bits.
use Rattle.std.specs.Prelude.{Bool, List, [], ◌∷◌, ℕ, ◌+◌, ◌*◌}
use Rattle.routing.specs.Four.{bit, bit_at}

abbrev pub lines : List Bool → ℕ
lines [] = 0
lines (b ∷ bs) = bit b + 2 * lines bs

-- the nets a, b, c and d of an evaluation, as a row
abbrev pub four_nets : ℕ → ℕ → ℕ → ℕ → ℕ → List Bool
four_nets v a b c d = bit_at a v ∷ bit_at b v ∷ bit_at c v ∷ bit_at d v ∷ []
