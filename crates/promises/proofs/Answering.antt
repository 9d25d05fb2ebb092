-- The answers of a replay, byte by byte. Assumes nothing.
use mathlib.Core.Bool.{Bool, true, false, cond}
use mathlib.Core.Path.{◌≡◌, refl, sym, ap, subst, ◌∙◌}
use mathlib.Core.Logic.{⊎_elim}
use mathlib.Core.List.{List, ◌++◌}
use Prim.Native.Nat.{ℕ, zero, suc, ◌+◌, ◌-◌, ◌*◌, ◌<◌}
use native.Mathlib.Nat.{eq-or-lt_of_le, le_of_suc-le-suc}
use native.Mathlib.Omega.{arith}
use lib.Dec.{ltb, lit<}
use lib.ListN.{length, get_or, drop, get_or-append}
use lib.Seq.{get_or-append-add}
use Rattle.routing.specs.Four.{four, bit_at}
use Rattle.routing.proofs.Equal.{row_of}
use Rattle.routing.proofs.Fours.{at_four}
use Rattle.routing.proofs.Masks.{in_mask, bit_le}
use Rattle.states.specs.State.{state_refusal}
use Rattle.states.proofs.Calls.{answered}
use Rattle.states.proofs.States.{held_at}
use Rattle.fabric.specs.declared.cycle.Inputs.{Inputs}
use Rattle.fabric.specs.Cycle.{Machine, shown, acked, step_of, CycleAnswer, done_cycle, cycle_of}
use Rattle.fabric.specs.Run.{reset_machine, run_of}
use Rattle.records.specs.Record.{byte_at, flag_at, inputs_from}
use Rattle.records.specs.Answers.{answer_of, answers_of}
use Rattle.records.proofs.Answered.{answers_length}
use Rattle.places.specs.Capture.{records, five_at, inputs_in}
use Rattle.capture.specs.Refusal.{Done, judged}
use Rattle.capture.specs.Replay.{replay_writes}
use Rattle.places.proofs.Records.{record_there}
use Rattle.runs.specs.Run.{sent, holder}
use Rattle.runs.specs.Showing.{before, shut_two_before, holder_two_before}
use Rattle.runs.proofs.Accepting.{cycle_accepted, run_accepted, reset_accepted}
use Rattle.runs.proofs.Winning.{winning}
use Rattle.runs.proofs.Showing.{showing}
use Rattle.runs.proofs.Frames.{active_frames}
use Rattle.promises.specs.Answered.{acknowledged_in, sent_in, replay_run, RecordIsCycle, RecordsAreCycles, SingleCycles, HeadBytes, FrameBytes}
use Rattle.promises.proofs.Joining.{replay_is_run}

-- byte j of answer record k, in the answers of n cycles
module _ (m : Machine) (ins : ℕ → Inputs) where
  abbrev answer : ℕ → List ℕ
  answer k = answer_of (run_of m ins k) (ins k)

  last_answer : (n j : ℕ) → byte_at (answers_of m ins n ++ answer n) (5 * n + j) ≡ byte_at (answer n) j
  last_answer n j =
      let place : 5 * n + j ≡ length (answers_of m ins n) + j = omega (arith, answers_length m ins n) in
      ap (byte_at (answers_of m ins n ++ answer n)) place ∙ get_or-append-add (answers_of m ins n) (answer n) j 0

  answer_at : (n k j : ℕ) → k < n → j < 5 → byte_at (answers_of m ins n) (5 * k + j) ≡ byte_at (answer k) j
  unfolding answers_of
  answer_at zero k j h l = absurd (omega arith)
  answer_at (suc n) k j h l =
      ⊎_elim (λ e. subst (λ (i : ℕ). byte_at (answers_of m ins n ++ answer n) (5 * i + j) ≡ byte_at (answer i) j) (sym e) (last_answer n j))
      (λ less. get_or-append (answers_of m ins n) (answer n) 0 (5 * k + j) (omega (arith, answers_length m ins n)) ∙ answer_at n k j less l)
      (eq-or-lt_of_le (le_of_suc-le-suc h))

module _ (m : Machine) (capture buffer : List ℕ) (is_done : judged m.state capture (length buffer) ≡ Done) (k : ℕ) (h : k < records capture) where
  abbrev ins : ℕ → Inputs
  ins = inputs_in capture

  -- record k of the capture
  read : ins k ≡ inputs_from (five_at capture (5 * k))
  read = ap inputs_from (record_there capture k h)

  bytes_are : (ins k).bytes ≡ four (λ i. sent_in capture k i)
  bytes_are =
      ap (λ (i : Inputs). i.bytes) read
      ∙ row_of (place 0 1 (omega arith)) (place 1 2 (omega arith)) (place 2 3 (omega arith)) (place 3 4 (omega arith))
    where
      place : (i j : ℕ) → 5 * k + j ≡ 5 * k + 1 + i → byte_at capture (5 * k + j) ≡ sent_in capture k i
      place i j e = ap (byte_at capture) e

  pub byte_sent : (i : ℕ) → i < 4 → sent_in capture k i ≡ sent (replay_run m capture) k i
  byte_sent i l = sym (ap (λ (row : List ℕ). get_or row i 0) bytes_are ∙ at_four (λ i. sent_in capture k i) 0 i l)

  -- record k of the answers
  written : (j : ℕ) → j < 5 → byte_at (replay_writes m capture buffer) (5 * k + j) ≡ byte_at (answer m ins k) j
  written j l =
      let long = answers_length m ins (records capture) in
      ap (λ (x : List ℕ). byte_at x (5 * k + j)) (replay_is_run m capture buffer is_done).writes
      ∙ get_or-append (answers_of m ins (records capture)) (drop (length capture) buffer) 0 (5 * k + j) (omega (arith, long))
      ∙ answer_at m ins (records capture) k j h l

  abbrev acks : ℕ → Bool
  acks = flag_at (four (acked (run_of m ins k).state (ins k).acks))

  first_byte : byte_at (replay_writes m capture buffer) (5 * k) ≡ byte_at (answer m ins k) 0
  first_byte = let e : 5 * k ≡ 5 * k + 0 = omega arith in ap (byte_at (replay_writes m capture buffer)) e ∙ written 0 (lit< tt)

  small : byte_at (replay_writes m capture buffer) (5 * k) < 16
  small =
      let a = bit_le (acks 0) in
      let b = bit_le (acks 1) in
      let c = bit_le (acks 2) in
      let d = bit_le (acks 3) in
      omega (arith, first_byte)

  record_is_cycle : RecordIsCycle m capture buffer k
  record_is_cycle = record {
    start = sym (ap (λ (i : Inputs). i.frame) read);
    acknowledged = λ o l. sym (ap (λ (i : Inputs). get_or i.acks o false) read ∙ at_four (acknowledged_in capture k) false o l);
    bytes = byte_sent;
    acks = λ i l. ap (bit_at i) first_byte ∙ in_mask acks i l ∙ at_four (acked (run_of m ins k).state (ins k).acks) false i l;
    zeros = small;
    heads = λ o l.
        let place : 5 * k + 1 + o ≡ 5 * k + suc o = omega arith in
        ap (byte_at (replay_writes m capture buffer)) place ∙ written (suc o) (omega arith) ∙ at_four (byte_at (shown (run_of m ins k))) 0 o l;
  }

pub records_are_cycles : RecordsAreCycles
records_are_cycles = record_is_cycle

pub single_cycles : SingleCycles
single_cycles m i ok =
    let e : cycle_of m i ≡ done_cycle (step_of m i) = sym (answered refl (done_cycle (step_of m i)) _ ok) in
    (e, ap (λ (c : CycleAnswer). state_refusal c.machine.state) e ∙ cycle_accepted m i ok)

-- what was sent four records before, if there were as many
four_before : (m : Machine) (capture buffer : List ℕ) → judged m.state capture (length buffer) ≡ Done → (k i : ℕ) → k < records capture → i < 4
    → before 4 0 (λ j. sent (replay_run m capture) j i) k ≡ before 4 0 (λ j. sent_in capture j i) k
four_before m capture buffer e k i h l = go (ltb k 4) refl
  where
    go : (b : Bool) → ltb k 4 ≡ b → cond b 0 (sent (replay_run m capture) (k - 4) i) ≡ cond b 0 (sent_in capture (k - 4) i)
    go true p = refl
    go false p = sym (byte_sent m capture buffer e (k - 4) (omega arith) i l)

pub head_bytes : HeadBytes
unfolding run_of
head_bytes capture buffer e k o h l =
    let r = replay_run reset_machine capture in
    (records_are_cycles reset_machine capture buffer e k h).heads o l
    ∙ showing r refl k o l
    ∙ ap (cond (shut_two_before r k o) 0) (four_before reset_machine capture buffer e k (holder_two_before r k o) h (held (ltb k 2)))
  where
    held : (b : Bool) → cond b 0 (holder (replay_run reset_machine capture) (k - 2) o) < 4
    held true = lit< tt
    held false = held_at _ (run_accepted (replay_run reset_machine capture) reset_accepted (k - 2)) o l

pub frame_bytes : FrameBytes
frame_bytes m capture buffer e ts th te frame k o w h l from to wins =
    let r = replay_run m capture in
    (records_are_cycles m capture buffer e k h).heads o l
    ∙ (active_frames r ts th te frame).heads.winner's k o w l from to wins
    ∙ sym (byte_sent m capture buffer e (k - 4) (omega arith) w ((winning r).winner_is (th + 2) w o l wins).is_input)
