-- W: the length of a buffer and an order; the refusal's number or 0, the buffer after. K: the length of a buffer, an input and the records of a
-- frame; how many bytes the input's cell has, the buffer after. Lengths and inputs are numbers of four bytes.
use Rattle.std.specs.Prelude.{Bool, cond, ◌&&◌, List, ℕ, ◌-◌, eqb, leb, ltb, length, drop}
use Rattle.parts.specs.Parts.{word_at, marked, room_at, buffer_text, malformed}
use Rattle.plans.specs.Refusal.{write_refusal}
use Rattle.frames.specs.Writing.{frame_writes}
use Rattle.frames.specs.Reading.{cell_in, cell_writes}
use Rattle.orders.specs.Order.{order_size, plan_of}

-- one order stands behind the length, and nothing behind that
abbrev pub asks_frame : List ℕ → Bool
asks_frame payload = leb 4 (length payload) && eqb (order_size (drop 4 payload)) (length payload - 4)

abbrev pub write_text : List ℕ → List ℕ → List ℕ
write_text payload buffer = buffer_text (write_refusal (plan_of (drop 4 payload)) (length buffer)) (frame_writes (plan_of (drop 4 payload)) buffer)

unfoldable pub write_line : List ℕ → List ℕ
write_line payload = cond (asks_frame payload) (write_text payload (marked (room_at payload 0))) malformed

abbrev pub read_text : List ℕ → List ℕ → List ℕ
read_text payload buffer = buffer_text (length (cell_in (drop 8 payload) (word_at payload 4))) (cell_writes (drop 8 payload) (word_at payload 4) buffer)

unfoldable pub read_line : List ℕ → List ℕ
read_line payload = cond (ltb (length payload) 8) malformed (read_text payload (marked (room_at payload 0)))
