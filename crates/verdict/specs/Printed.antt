-- What the program replay prints of an input of any size. The start of the input is kept and all of it is counted.
use Rattle.std.specs.Prelude.{◌≡◌, List, ℕ, ◌≤◌, length, take}
use Rattle.fabric.specs.Run.{reset_machine}
use Rattle.capture.specs.Replay.{replay_of, replay_writes}
use Rattle.text.specs.Page.{page, Wrote}
use Rattle.listing.specs.Listing.{listing}
use Rattle.comparison.specs.Both.{zeros, kept}
use Rattle.verdict.specs.Verdict.{outcome_text}

-- what is to be printed of a capture, replayed from reset into a buffer of its own length, if `said` is said of its answers
unfoldable pub printed_by : (List ℕ → List ℕ) → List ℕ → List ℕ
printed_by said capture =
    outcome_text said (replay_of reset_machine capture (length capture)).number (replay_of reset_machine capture (length capture)).index (replay_writes reset_machine capture (zeros (length capture)))

abbrev pub printed : List ℕ → List ℕ
printed = printed_by listing

-- What is printed of the kept bytes is what would be printed of the whole input.
abbrev pub WholeInput : Type 0
WholeInput = (whole : List ℕ) → printed (kept (take 65536 whole) (length whole)) ≡ printed whole

-- What is printed fits onto the program's page of 262,144 bytes, so all of it stands there.
abbrev pub PrintedFits : Type 0
PrintedFits = (capture : List ℕ) → length (printed capture) ≤ 262144

abbrev pub AllPrinted : Type 0
AllPrinted =
    (capture bytes after : List ℕ) (n : ℕ) → 262144 ≤ length bytes → Wrote (page bytes 0) (printed capture) (page after n)
    → (n ≡ length (printed capture)) × (take n after ≡ printed capture)
