-- What four times `same` means: in the run of the capture's records from reset, by the cycle rules, each head shows the text that is due there.
use Rattle.std.specs.Prelude.{false, ◌≡◌, List, [], ◌∷◌, ℕ, zero, suc, ◌<◌, length}
use Rattle.states.specs.State.{reset_state}
use Rattle.fabric.specs.Run.{reset_machine}
use Rattle.runs.specs.Run.{Run, head}
use Rattle.places.specs.Capture.{records}
use Rattle.capture.specs.Refusal.{Done, judged}
use Rattle.promises.specs.Answered.{replay_run}
use Rattle.heads.specs.Shown.{without_zeros, head_text}
use Rattle.due.specs.Texts.{text_due, capture_in, ends_inside}
use Rattle.readings.specs.ReadBack.{read_back}
use Rattle.meaning.specs.ReadBacks.{four_same, answers_to}

-- the bytes that head o shows in n cycles of a run, from cycle k on
unfoldable pub shows_from : Run → ℕ → ℕ → ℕ → List ℕ
shows_from r o k zero = []
shows_from r o k (suc n) = head r k o ∷ shows_from r o (suc k) n

-- what head o shows from reset in the cycles of a capture, zeros dropped
abbrev pub text_shown : List ℕ → ℕ → List ℕ
text_shown capture o = without_zeros (shows_from (replay_run reset_machine capture) o 0 (records capture))

-- The bytes that are collected out of the answers to a capture are those that the head shows in its run.
abbrev pub HeadsOfRuns : Type 0
HeadsOfRuns =
    (capture : List ℕ) → judged reset_state capture (length capture) ≡ Done → (o : ℕ) → o < 4 → head_text (answers_to capture) o ≡ text_shown capture o

-- the input has four whole texts, its capture is done, and each head shows the text that is due there
pub record Delivered (input : List ℕ) : Type 0 where
  pub texts : ends_inside input ≡ false
  pub done : judged reset_state (capture_in input) (length (capture_in input)) ≡ Done
  pub shown : (o : ℕ) → o < 4 → text_due input o ≡ text_shown (capture_in input) o

-- Four times `same` is printed exactly if this is so.
abbrev pub SameMeans : Type 0
SameMeans = (input : List ℕ) → (read_back input ≡ four_same → Delivered input) × (Delivered input → read_back input ≡ four_same)
