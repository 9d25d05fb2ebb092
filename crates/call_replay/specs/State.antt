-- S: a state and the length of the buffer for saving; the number, the buffer after. T: bytes to take up; the number, the state.
use Rattle.std.specs.Prelude.{cond, List, ◌++◌, ℕ, eqb, length}
use Rattle.text.specs.Ascii.{ascii}
use Rattle.saved.specs.Saved.{TakenUp, save_refusal, save_writes, take_up_of}
use Rattle.image.specs.Image.{state_from, machine_from}
use Rattle.parts.specs.Parts.{marked, room_at, number_text, state_text, buffer_text, malformed}

abbrev pub save_text : List ℕ → List ℕ → List ℕ
save_text payload buffer = buffer_text (save_refusal (state_from payload) (length buffer)) (save_writes (machine_from payload) buffer)

unfoldable pub save_line : List ℕ → List ℕ
save_line payload = cond (eqb (length payload) 29) (save_text payload (marked (room_at payload 25))) malformed

abbrev pub taken_up_text : TakenUp → List ℕ
taken_up_text t = number_text t.number ++ state_text t.machine ++ ascii "\n"

abbrev pub take_up_line : List ℕ → List ℕ
take_up_line payload = taken_up_text (take_up_of payload)
