-- What the heads show of a frame: the text of one station.
use Rattle.std.specs.Prelude.{true, ◌≡◌, List, [], ◌↔◌, ℕ, ◌+◌, ◌-◌, ◌<◌, ◌≤◌, length}
use Rattle.routing.specs.Header.{asks}
use Rattle.records.specs.Record.{byte_at}
use Rattle.runs.specs.Run.{Run, sent, head}
use Rattle.runs.specs.Routing.{Asks, AskedFor, Wins}
use Rattle.runs.specs.Frame.{ActiveFrame}
use Rattle.frames.specs.Listed.{listed, trimmed}
use Rattle.plans.specs.Plan.{Plan, cell_of, is_cell, header_in, body_in, th, te}
use Rattle.delivery.specs.Written.{has_cell, InPlace}

-- what head o shows of a frame: its bytes of th+5..te+2, which are te-th-2 cycles, up to the last that is not zero
abbrev pub frame_text : Run → ℕ → ℕ → ℕ → List ℕ
frame_text r o first next = trimmed (listed (λ t. head r t o) (first + 5) (next - first - 2))

-- input w sends the text behind its header, and zeros behind the text, up to the frame's last cycle; the text is not empty and does not end
-- in zero
pub record SendsText (r : Run) (first next w : ℕ) (text : List ℕ) : Type 0 where
  pub bytes : (t : ℕ) → first < t → t < next → sent r t w ≡ byte_at text (t - (first + 1))
  pub some_bytes : 1 ≤ length text
  pub last : byte_at text (length text - 1) ≡ 0 → ⊥

-- In an active frame a head shows the whole text of its output's winner exactly if the frame is long enough: if the text's last byte, which is
-- sent in cycle th + the text's length, is sent in te-2 or earlier.
abbrev pub WholeTexts : Type 0
WholeTexts =
    (r : Run) (ts first next o w : ℕ) (text : List ℕ) → ActiveFrame r ts first next → o < 4 → Wins r (first + 2) w o → SendsText r first next w text
    → (frame_text r o first next ≡ text) ↔ (first + length text + 2 ≤ next)

-- A written frame with a cell in its place, from cycle s on. An input asks for the output that its cell's header names. So an output's winner
-- has a cell whose header asks for it. A written frame is always long enough, since 23 refuses what is not: the output's head shows the winner's
-- body, all of it, and other heads show nothing.
pub record Delivers (r : Run) (s : ℕ) (p : Plan) : Type 0 where
  pub asked : (i o : ℕ) → i < 4 → Asks r (s + th p + 2) i o ↔ (asks o (header_in (cell_of p i)) ≡ true)
  pub winner_cell : (w o : ℕ) → o < 4 → Wins r (s + th p + 2) w o → (is_cell (cell_of p w) ≡ true) × (asks o (header_in (cell_of p w)) ≡ true)
  pub text : (w o : ℕ) → o < 4 → Wins r (s + th p + 2) w o → frame_text r o (s + th p) (s + te p) ≡ body_in (cell_of p w)
  pub unasked : (o : ℕ) → o < 4 → (AskedFor r (s + th p + 2) o → ⊥) → frame_text r o (s + th p) (s + te p) ≡ []

abbrev pub FramesDeliver : Type 0
FramesDeliver = (r : Run) (s : ℕ) (p : Plan) → InPlace r s p → has_cell p ≡ true → Delivers r s p
