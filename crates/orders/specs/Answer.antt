-- What is said to an order, as far as it could be read: the records of its frame, or a line about frame k. Nothing is said where no order is left.
use Rattle.std.specs.Prelude.{Bool, true, false, cond, List, [], ◌++◌, ℕ, eqb, ltb, length}
use Rattle.text.specs.Ascii.{ascii}
use Rattle.text.specs.Digits.{decimal}
use Rattle.plans.specs.Refusal.{write_refusal}
use Rattle.frames.specs.Writing.{frame_records}
use Rattle.orders.specs.Order.{order_size, plan_of}

-- a line ends with the frame's number; frames are counted from 0
abbrev pub at_frame : ℕ → List ℕ
at_frame k = ascii " at " ++ decimal k ++ ascii "\n"

abbrev pub line_about : List ℕ → ℕ → List ℕ
line_about what k = what ++ at_frame k

abbrev pub refused_text : ℕ → List ℕ
refused_text number = ascii "refused " ++ decimal number

-- text, and whether it is the records of a frame; where it is not, it is the last that is said
pub record Words : Type 0 where
  pub text : List ℕ
  pub written : Bool

abbrev pub as_records : List ℕ → Words
as_records text = record { text = text; written = true }

abbrev pub as_line : List ℕ → Words
as_line text = record { text = text; written = false }

unfoldable pub answer_to : List ℕ → ℕ → ℕ → Words
answer_to order k room =
    cond (eqb (length order) 0) (as_line [])
    (cond (ltb (length order) (order_size order)) (as_line (line_about (ascii "cut short") k))
    (cond (eqb (write_refusal (plan_of order) room) 0) (as_records (frame_records (plan_of order)))
    (as_line (line_about (refused_text (write_refusal (plan_of order) room)) k))))
