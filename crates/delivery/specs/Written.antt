-- Written frames in a run: each meets the definition of a frame when it follows reset or another written frame, and a frame start follows it.
use Rattle.std.specs.Prelude.{Bool, true, false, ◌≡◌, List, [], ◌∷◌, ◌++◌, ◌⊎◌, ℕ, zero, suc, ◌+◌, ◌*◌, ◌<◌, length, get_or}
use Rattle.routing.specs.Four.{some}
use Rattle.fabric.specs.Cycle.{Machine}
use Rattle.fabric.specs.Run.{reset_machine}
use Rattle.runs.specs.Run.{Run, run_from, FromReset, FrameStartAt}
use Rattle.runs.specs.Frame.{ActiveFrame, InactiveFrame}
use Rattle.places.specs.Capture.{inputs_in}
use Rattle.plans.specs.Plan.{Plan, planned, cell_of, is_cell, th, te, inputs_of}
use Rattle.plans.specs.Refusal.{write_refusal}
use Rattle.frames.specs.Writing.{frame_records}

-- a frame that writing does not refuse, given room
abbrev pub Writable : Plan → Type 0
Writable p = write_refusal p (5 * te p) ≡ 0

-- What is not refused in some buffer is writable, so that all that follows is said of every frame that a call has written.
abbrev pub AllWritable : Type 0
AllWritable = (p : Plan) (room : ℕ) → write_refusal p room ≡ 0 → Writable p

-- some input has a cell
abbrev pub has_cell : Plan → Bool
has_cell p = some (λ i. is_cell (cell_of p i))

-- from cycle s on the run brings what the frame is to hold, cycle by cycle
abbrev pub WrittenAt : Run → ℕ → Plan → Type 0
WrittenAt r s p = (k : ℕ) → k < te p → r.ins (s + k) ≡ inputs_of p k

-- cycle s comes right behind a written frame, or first after reset
pub record BehindFrame (r : Run) (s : ℕ) : Type 0 where
  pub plan : Plan
  pub start : ℕ
  pub writable : Writable plan
  pub written : WrittenAt r start plan
  pub ends : start + te plan ≡ s

abbrev pub Follows : Run → ℕ → Type 0
Follows r s = (FromReset r × (s ≡ 0)) ⊎ BehindFrame r s

-- a written frame in its place
pub record InPlace (r : Run) (s : ℕ) (p : Plan) : Type 0 where
  pub writable : Writable p
  pub written : WrittenAt r s p
  pub follows : Follows r s
  pub next : FrameStartAt r (s + te p)

-- It is an active frame if it has a cell, and an inactive frame otherwise.
pub record WellFormed (r : Run) (s : ℕ) (p : Plan) : Type 0 where
  pub active : has_cell p ≡ true → ActiveFrame r s (s + th p) (s + te p)
  pub inactive : has_cell p ≡ false → InactiveFrame r s (s + te p)

abbrev pub WrittenFrames : Type 0
WrittenFrames = (r : Run) (s : ℕ) (p : Plan) → InPlace r s p → WellFormed r s p

-- ---- in the bytes of a capture

-- The records of a frame, wherever they stand in a capture, bring that frame to its run: with s records before them, from cycle s on.
abbrev pub RecordsBringFrames : Type 0
RecordsBringFrames =
    (m : Machine) (before behind : List ℕ) (s : ℕ) (p : Plan) → length before ≡ 5 * s
    → WrittenAt (run_from m (inputs_in (before ++ (frame_records p ++ behind)))) s p

-- a capture of frames, one after the other; its frame n, and the cycle in which that starts
unfoldable pub capture_of : List Plan → List ℕ
capture_of [] = []
capture_of (p ∷ ps) = frame_records p ++ capture_of ps

abbrev pub frame_at : List Plan → ℕ → Plan
frame_at ps n = get_or ps n (planned 0 0 [] [])

unfoldable pub start_of : List Plan → ℕ → ℕ
start_of ps zero = 0
start_of [] (suc n) = 0
start_of (p ∷ ps) (suc n) = te p + start_of ps n

-- In the run of such a capture from reset every frame is in its place, except that no frame start follows the last.
abbrev pub CapturesOfFrames : Type 0
CapturesOfFrames =
    (ps : List Plan) → ((n : ℕ) → n < length ps → Writable (frame_at ps n))
    → (n : ℕ) → suc n < length ps → InPlace (run_from reset_machine (inputs_in (capture_of ps))) (start_of ps n) (frame_at ps n)
