-- A replay is the run of its records, and a capture may be cut between records.
use Rattle.std.specs.Prelude.{◌≡◌, List, [], ◌++◌, ℕ, ◌+◌, ◌%◌, ◌≤◌, length, drop}
use Rattle.fabric.specs.Cycle.{Machine}
use Rattle.fabric.specs.Run.{run_of}
use Rattle.records.specs.Answers.{answers_of}
use Rattle.places.specs.Capture.{records, inputs_in}
use Rattle.capture.specs.Refusal.{Refused, Done, limit, judged}
use Rattle.runs.specs.Run.{Accepted}
use Rattle.capture.specs.Replay.{end_of, answers, handed_back, replay_of, replay_writes}

-- A replay that is done hands back the machine at the end of the run of its records, with number and index 0, and writes the
-- run's answers over the first bytes of the buffer, as many as the capture has.
pub record IsRun (m : Machine) (capture buffer : List ℕ) : Type 0 where
  pub hands_back : replay_of m capture (length buffer) ≡ handed_back 0 0 (run_of m (inputs_in capture) (records capture))
  pub writes : replay_writes m capture buffer ≡ answers_of m (inputs_in capture) (records capture) ++ drop (length capture) buffer
  pub as_long : length (answers_of m (inputs_in capture) (records capture)) ≡ length capture

abbrev pub ReplayIsRun : Type 0
ReplayIsRun = (m : Machine) (capture buffer : List ℕ) → judged m.state capture (length buffer) ≡ Done → IsRun m capture buffer

-- A replay that is refused hands back the machine as given and writes nothing.
pub record IsRefused (m : Machine) (capture buffer : List ℕ) (n k : ℕ) : Type 0 where
  pub hands_back : replay_of m capture (length buffer) ≡ handed_back n k m
  pub writes : replay_writes m capture buffer ≡ buffer

abbrev pub ReplayRefused : Type 0
ReplayRefused =
    (m : Machine) (capture buffer : List ℕ) (n k : ℕ) → judged m.state capture (length buffer) ≡ Refused n k → IsRefused m capture buffer n k

-- An empty capture is done and changes nothing, wherever the state is accepted.
pub record ChangesNothing (m : Machine) (buffer : List ℕ) : Type 0 where
  pub is_done : judged m.state [] (length buffer) ≡ Done
  pub same_machine : end_of m [] ≡ m
  pub same_buffer : replay_writes m [] buffer ≡ buffer

abbrev pub EmptyReplay : Type 0
EmptyReplay = (m : Machine) (buffer : List ℕ) → Accepted m.state → ChangesNothing m buffer

-- The replay of two captures joined is the second replay from the first one's end.
pub record IsJoined (m : Machine) (a b : List ℕ) (room : ℕ) : Type 0 where
  pub first_done : judged m.state a room ≡ Done
  pub second_done : judged (end_of m a).state b room ≡ Done
  pub same_end : end_of m (a ++ b) ≡ end_of (end_of m a) b
  pub same_answers : answers m (a ++ b) ≡ answers m a ++ answers (end_of m a) b

abbrev pub JoinedReplay : Type 0
JoinedReplay =
    (m : Machine) (a b : List ℕ) (room : ℕ) → length a % 5 ≡ 0 → judged m.state (a ++ b) room ≡ Done → IsJoined m a b room

-- And where both are done, so is the replay of the two joined, if the limit and the buffer allow it.
abbrev pub JoinedDone : Type 0
JoinedDone =
    (m : Machine) (a b : List ℕ) (room : ℕ) → judged m.state a room ≡ Done → judged (end_of m a).state b room ≡ Done
    → records a + records b ≤ limit → length a + length b ≤ room → judged m.state (a ++ b) room ≡ Done
