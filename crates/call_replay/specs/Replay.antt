-- R and G: a state, the length of the answer buffer and a capture; the number, the index, the state after, the buffer after. The buffer holds A5
-- throughout before the call.
use Rattle.std.specs.Prelude.{cond, List, ◌++◌, ℕ, ltb, length, drop}
use Rattle.text.specs.Ascii.{ascii}
use Rattle.capture.specs.Replay.{Replayed, replay_of, replay_writes}
use Rattle.image.specs.Image.{machine_from}
use Rattle.parts.specs.Parts.{marked, room_at, number_text, state_text, bytes_text, malformed}

abbrev pub replayed_text : Replayed → List ℕ → List ℕ
replayed_text t buffer = number_text t.number ++ number_text t.index ++ state_text t.machine ++ ascii " " ++ bytes_text buffer ++ ascii "\n"

abbrev pub replay_text : List ℕ → List ℕ → List ℕ
replay_text payload buffer =
    replayed_text (replay_of (machine_from payload) (drop 29 payload) (length buffer)) (replay_writes (machine_from payload) (drop 29 payload) buffer)

unfoldable pub replay_line : List ℕ → List ℕ
replay_line payload = cond (ltb (length payload) 29) malformed (replay_text payload (marked (room_at payload 25)))
