-- A line for each head: the text that is due there, and what it has shown.
use Rattle.std.specs.Prelude.{List, ◌++◌, ℕ}
use Rattle.numerals.specs.Line.{head_line}
use Rattle.heads.specs.Shown.{head_text}
use Rattle.due.specs.Texts.{text_due}

abbrev pub line_of : List ℕ → List ℕ → ℕ → List ℕ
line_of input answers h = head_line h (text_due input h) (head_text answers h)

unfoldable pub four_lines : List ℕ → List ℕ → List ℕ
four_lines input answers = line_of input answers 0 ++ line_of input answers 1 ++ line_of input answers 2 ++ line_of input answers 3
