-- The piece around the first place where the station's text and the head's differ: a part of one of the two.
use Rattle.std.specs.Prelude.{cond, List, [], Option, Some, None, ℕ, suc, ◌-◌, ltb, length, get_or, take, drop}
use Rattle.text.specs.Differ.{first_difference}
use Rattle.numerals.specs.Numeral.{numeral, run_begins, run_ends}

-- in which of the two the piece lies: in the station's text where the place lies inside it, otherwise in the head's
abbrev pub holding : List ℕ → List ℕ → ℕ → List ℕ
holding station head k = cond (ltb k (length station)) station head

-- where the piece begins, and the place behind its last byte: the run of numeral bytes that holds place k, or at another byte that byte alone
abbrev pub begins : List ℕ → ℕ → ℕ
begins text k = cond (numeral (get_or text k 0)) (run_begins text k) k

abbrev pub ends : List ℕ → ℕ → ℕ
ends text k = cond (numeral (get_or text k 0)) (run_ends text k) (suc k)

abbrev pub part : List ℕ → ℕ → ℕ → List ℕ
part text from to = take (to - from) (drop from text)

unfoldable pub around : List ℕ → ℕ → List ℕ
around text k = part text (begins text k) (ends text k)

-- equal texts have no piece
abbrev pub piece_at : Option ℕ → List ℕ → List ℕ → List ℕ
piece_at None station head = []
piece_at (Some k) station head = around (holding station head k) k

abbrev pub piece_of : List ℕ → List ℕ → List ℕ
piece_of station head = piece_at (first_difference station head) station head
