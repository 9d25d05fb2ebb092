-- Two replays of one capture, compared: every byte of the answers, number, index and end state.
use Rattle.std.specs.Prelude.{Bool, true, false, ◌&&◌, List, Option, Some, None, is_none, ℕ, ◌/◌, eqb}
use Rattle.text.specs.Differ.{first_difference}
use Rattle.places.specs.Capture.{records}
use Rattle.capture.specs.Replay.{Replayed}
use Rattle.image.specs.Image.{image_of}

abbrev pub same_end : Replayed → Replayed → Bool
same_end p g = eqb p.number g.number && eqb p.index g.index && is_none (first_difference (image_of p.machine) (image_of g.machine))

-- the first record that differs; where the answers are the same and the ends are not, the place past the last record
abbrev pub by_record : Option ℕ → Bool → ℕ → Option ℕ
by_record (Some k) same n = Some (k / 5)
by_record None true n = None
by_record None false n = Some n

unfoldable pub disagreement_of : Replayed → Replayed → List ℕ → List ℕ → Option ℕ
disagreement_of p g plain gates = by_record (first_difference plain gates) (same_end p g) (records plain)
