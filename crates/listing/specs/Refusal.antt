-- The refusal line: `refused N`, with ` at K` where the number gives an index; and the line with whatever index is handed in.
use Rattle.std.specs.Prelude.{cond, List, [], ◌++◌, Option, Some, None, ℕ}
use Rattle.states.specs.Refusal.{indexed}
use Rattle.text.specs.Ascii.{ascii}
use Rattle.text.specs.Digits.{decimal}

abbrev pub index_text : Option ℕ → List ℕ
index_text (Some k) = ascii " at " ++ decimal k
index_text None = []

-- an index beside a number that gives none is not printed
abbrev pub given : ℕ → Option ℕ → Option ℕ
given number index = cond (indexed number) index None

abbrev pub refusal_line_any_index : ℕ → Option ℕ → List ℕ
refusal_line_any_index number index = ascii "refused " ++ decimal number ++ index_text index ++ ascii "\n"

abbrev pub refusal_line : ℕ → Option ℕ → List ℕ
refusal_line number index = refusal_line_any_index number (given number index)
