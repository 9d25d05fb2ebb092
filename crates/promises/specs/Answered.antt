-- A replay that is done answers, record by record, what the run of its records shows. So whatever is said of runs is said of the bytes of the
-- capture and of the answer buffer.
use Rattle.std.specs.Prelude.{Bool, false, cond, ◌≡◌, List, ℕ, ◌+◌, ◌-◌, ◌*◌, ◌<◌, ◌≤◌, length, get_or}
use Rattle.routing.specs.Four.{bit_at}
use Rattle.fabric.specs.declared.cycle.Inputs.{Inputs}
use Rattle.fabric.specs.Cycle.{Machine, step_of, done_cycle, cycle_of}
use Rattle.fabric.specs.Run.{reset_machine}
use Rattle.records.specs.Record.{byte_at}
use Rattle.places.specs.Capture.{records, inputs_in}
use Rattle.capture.specs.Refusal.{Done, judged}
use Rattle.capture.specs.Replay.{replay_writes}
use Rattle.runs.specs.Run.{Run, run_from, Accepted, sent, head, ack}
use Rattle.runs.specs.Routing.{Wins}
use Rattle.runs.specs.Frame.{ActiveFrame}
use Rattle.runs.specs.Showing.{before, shut_two_before, holder_two_before}

-- what stands in record k of a capture: the frame start, output o's acknowledgement, input i's byte
abbrev pub start_in : List ℕ → ℕ → Bool
start_in capture k = bit_at 7 (byte_at capture (5 * k))

abbrev pub acknowledged_in : List ℕ → ℕ → ℕ → Bool
acknowledged_in capture k o = bit_at o (byte_at capture (5 * k))

abbrev pub sent_in : List ℕ → ℕ → ℕ → ℕ
sent_in capture k i = byte_at capture (5 * k + 1 + i)

-- what stands in record k of the answers: the acknowledgement to input i, head o's byte
abbrev pub ack_in : List ℕ → ℕ → ℕ → Bool
ack_in answers k i = bit_at i (byte_at answers (5 * k))

abbrev pub head_in : List ℕ → ℕ → ℕ → ℕ
head_in answers k o = byte_at answers (5 * k + 1 + o)

-- the run of a capture's records
abbrev pub replay_run : Machine → List ℕ → Run
replay_run m capture = run_from m (inputs_in capture)

-- Record k is cycle k of the run, and answer record k is what that cycle shows, with zeros in bits 7..4.
pub record RecordIsCycle (m : Machine) (capture buffer : List ℕ) (k : ℕ) : Type 0 where
  pub start : start_in capture k ≡ ((replay_run m capture).ins k).frame
  pub acknowledged : (o : ℕ) → o < 4 → acknowledged_in capture k o ≡ get_or ((replay_run m capture).ins k).acks o false
  pub bytes : (i : ℕ) → i < 4 → sent_in capture k i ≡ sent (replay_run m capture) k i
  pub acks : (i : ℕ) → i < 4 → ack_in (replay_writes m capture buffer) k i ≡ ack (replay_run m capture) k i
  pub zeros : byte_at (replay_writes m capture buffer) (5 * k) < 16
  pub heads : (o : ℕ) → o < 4 → head_in (replay_writes m capture buffer) k o ≡ head (replay_run m capture) k o

abbrev pub RecordsAreCycles : Type 0
RecordsAreCycles =
    (m : Machine) (capture buffer : List ℕ) → judged m.state capture (length buffer) ≡ Done
    → (k : ℕ) → k < records capture → RecordIsCycle m capture buffer k

-- A single cycle of an accepted state is a cycle of a run: it answers what the rules say, and leaves the next machine, again accepted.
abbrev pub SingleCycles : Type 0
SingleCycles = (m : Machine) (i : Inputs) → Accepted m.state → (cycle_of m i ≡ done_cycle (step_of m i)) × Accepted (cycle_of m i).machine.state

-- The byte of head o in answer record k, of a replay from reset: 0 if the output was shut two records before, and otherwise the byte that
-- the holder of that record sent four records before. Records before the first count as zeros, with all outputs shut.
abbrev pub HeadBytes : Type 0
HeadBytes =
    (capture buffer : List ℕ) → judged reset_machine.state capture (length buffer) ≡ Done → (k o : ℕ) → k < records capture → o < 4
    → let r = replay_run reset_machine capture in
    head_in (replay_writes reset_machine capture buffer) k o
    ≡ cond (shut_two_before r k o) 0 (before 4 0 (λ j. sent_in capture j (holder_two_before r k o)) k)

-- And inside an active frame of any replay: an output that was asked for shows the bytes that its winner sent four records before.
abbrev pub FrameBytes : Type 0
FrameBytes =
    (m : Machine) (capture buffer : List ℕ) → judged m.state capture (length buffer) ≡ Done
    → (ts th te : ℕ) → ActiveFrame (replay_run m capture) ts th te
    → (k o w : ℕ) → k < records capture → o < 4 → th + 5 ≤ k → k ≤ te + 2 → Wins (replay_run m capture) (th + 2) w o
    → head_in (replay_writes m capture buffer) k o ≡ sent_in capture (k - 4) w
