-- Reading gives back what was written.
use Rattle.std.specs.Prelude.{◌≡◌, List, ℕ, ◌*◌, ◌<◌, length, take}
use Rattle.plans.specs.Plan.{Plan, te, cell_of}
use Rattle.plans.specs.Refusal.{write_refusal}
use Rattle.frames.specs.Writing.{frame_writes}
use Rattle.frames.specs.Reading.{cell_in}

-- From the records that were written, each input's cell is read as it was given: the same header, spare bits and all, and the same body; or
-- none where none was given. For everything that writing does not refuse.
abbrev pub CellsReadBack : Type 0
CellsReadBack =
    (p : Plan) (buffer : List ℕ) → write_refusal p (length buffer) ≡ 0
    → (i : ℕ) → i < 4 → cell_in (take (5 * te p) (frame_writes p buffer)) i ≡ cell_of p i
