-- A replay is the run of its records; two captures joined are replayed one after the other. Assumes nothing.
use mathlib.Core.Bool.{Bool, true, false}
use mathlib.Core.Path.{◌≡◌, refl, sym, ap, ◌∙◌}
use mathlib.Core.List.{List, [], ◌++◌}
use Prim.Native.Nat.{ℕ, ◌+◌, ◌-◌, ◌*◌, ◌%◌, ◌<◌, ◌≤◌}
use native.Mathlib.Omega.{arith}
use lib.Dec.{ltb}
use lib.ListN.{length, drop, length-append, get_or-append}
use lib.Seq.{get_or-append-add}
use borrow.Author.Tests.{ltb-true, ltb-false}
use Rattle.fabric.specs.Cycle.{Machine}
use Rattle.fabric.specs.Run.{run_of}
use Rattle.fabric.proofs.Runs.{run_cut, run_same}
use Rattle.records.specs.Record.{byte_at, spare_set, inputs_from}
use Rattle.records.specs.Answers.{answers_of}
use Rattle.records.proofs.Answered.{answers_length, answers_cut, answers_same}
use Rattle.capture.specs.Refusal.{Judged}
use Rattle.places.specs.Capture.{records, five_at, record_at, inputs_in}
use Rattle.capture.specs.Refusal.{bad, first_bad}
use Rattle.capture.specs.Replay.{end_of, answers, replayed_as, written_as}
use Rattle.places.proofs.Records.{record_there}
use Rattle.capture.proofs.Bads.{all_good, good_at}
use Rattle.capture.proofs.Fates.{doable, is_done}
use Rattle.promises.specs.Joined.{ReplayIsRun, ReplayRefused, EmptyReplay, JoinedReplay, JoinedDone}
use Rattle.runs.specs.Run.{run_from}
use Rattle.runs.proofs.Accepting.{run_accepted}

pub replay_is_run : ReplayIsRun
replay_is_run m capture buffer e =
    let d = doable m.state capture (length buffer) e in
    let whole : 5 * records capture ≡ length capture = omega (arith, d.whole) in record {
      hands_back = ap (λ (j : Judged). replayed_as j m capture) e;
      writes =
          ap (λ (j : Judged). written_as j m capture buffer) e
          ∙ ap (λ (n : ℕ). answers_of m (inputs_in capture) (records capture) ++ drop n buffer) whole;
      as_long = answers_length m (inputs_in capture) (records capture) ∙ whole;
    }

pub replay_refused : ReplayRefused
replay_refused m capture buffer n k e = record {
  hands_back = ap (λ (j : Judged). replayed_as j m capture) e;
  writes = ap (λ (j : Judged). written_as j m capture buffer) e;
}

pub empty_replay : EmptyReplay
unfolding run_of answers_of first_bad
empty_replay m buffer ok =
    let e = is_done m.state [] (length buffer) (record { accepted = ok; whole = refl; few = omega arith; fits = omega arith; good = omega arith }) in
    record { is_done = e; same_machine = refl; same_buffer = ap (λ (j : Judged). written_as j m [] buffer) e }

-- ---- the records of two captures joined

five : (l r : List ℕ) (at by : ℕ) → ((j : ℕ) → j < 5 → byte_at l (at + j) ≡ byte_at r (by + j)) → byte_at l at ≡ byte_at r by → five_at l at ≡ five_at r by
five l r at by e first = rw (first, e 1 (omega arith), e 2 (omega arith), e 3 (omega arith), e 4 (omega arith))

module _ (a b : List ℕ) (whole : length a % 5 ≡ 0) where
  joined_records : records (a ++ b) ≡ records a + records b
  joined_records = let e = length-append a b in omega arith

  length_a : length a ≡ 5 * records a
  length_a = omega arith

  first_records : (k : ℕ) → k < records a → record_at (a ++ b) k ≡ record_at a k
  first_records k h =
      let more : k < records (a ++ b) = omega (arith, joined_records) in
      record_there (a ++ b) k more
      ∙ five (a ++ b) a (5 * k) (5 * k) (λ j l. get_or-append a b 0 (5 * k + j) (omega (arith, length_a))) (get_or-append a b 0 (5 * k) (omega (arith, length_a)))
      ∙ sym (record_there a k h)

  second_records : (k : ℕ) → k < records b → record_at (a ++ b) (records a + k) ≡ record_at b k
  second_records k h =
      let more : records a + k < records (a ++ b) = omega (arith, joined_records) in
      let here : 5 * (records a + k) ≡ length a + 5 * k = omega (arith, length_a) in
      let byte : (j : ℕ) → byte_at (a ++ b) (5 * (records a + k) + j) ≡ byte_at b (5 * k + j) = λ j.
      let there : 5 * (records a + k) + j ≡ length a + (5 * k + j) = omega (arith, length_a) in
      ap (byte_at (a ++ b)) there ∙ get_or-append-add a b (5 * k + j) 0 in
      record_there (a ++ b) (records a + k) more
      ∙ five (a ++ b) b (5 * (records a + k)) (5 * k) (λ j l. byte j) (ap (byte_at (a ++ b)) here ∙ get_or-append-add a b (5 * k) 0)
      ∙ sym (record_there b k h)

  module _ (m : Machine) where
    end_a : run_of m (inputs_in (a ++ b)) (records a) ≡ end_of m a
    end_a = run_same m (inputs_in (a ++ b)) (inputs_in a) (records a) (λ k h. ap inputs_from (first_records k h))

    joined_end : end_of m (a ++ b) ≡ end_of (end_of m a) b
    joined_end =
        ap (run_of m (inputs_in (a ++ b))) joined_records
        ∙ run_cut m (inputs_in (a ++ b)) (records a) (records b)
        ∙ ap (λ (x : Machine). run_of x (λ j. inputs_in (a ++ b) (records a + j)) (records b)) end_a
        ∙ run_same (end_of m a) (λ j. inputs_in (a ++ b) (records a + j)) (inputs_in b) (records b) (λ k h. ap inputs_from (second_records k h))

    joined_answers : answers m (a ++ b) ≡ answers m a ++ answers (end_of m a) b
    joined_answers =
        ap (answers_of m (inputs_in (a ++ b))) joined_records
        ∙ answers_cut m (inputs_in (a ++ b)) (records a) (records b)
        ∙ ap (λ (l : List ℕ). l ++ answers_of (run_of m (inputs_in (a ++ b)) (records a)) (λ j. inputs_in (a ++ b) (records a + j)) (records b))
        (answers_same m (inputs_in (a ++ b)) (inputs_in a) (records a) (λ k h. ap inputs_from (first_records k h)))
        ∙ ap (λ (x : Machine). answers m a ++ answers_of x (λ j. inputs_in (a ++ b) (records a + j)) (records b)) end_a
        ∙ ap (λ (l : List ℕ). answers m a ++ l)
        (answers_same (end_of m a) (λ j. inputs_in (a ++ b) (records a + j)) (inputs_in b) (records b) (λ k h. ap inputs_from (second_records k h)))

  -- a record is bad in the joined capture where it is bad in its own
  abbrev spare : List ℕ → Bool
  spare l = spare_set (byte_at l 0)

  good_first : records (a ++ b) ≤ first_bad (a ++ b) 0 (records (a ++ b)) → records a ≤ first_bad a 0 (records a)
  good_first h =
      let e = all_good a 0 (records a) (λ j lo hi. ap spare (sym (first_records j (omega arith))) ∙ good_at (a ++ b) 0 (records (a ++ b)) (omega arith) j (omega arith) (omega (arith, joined_records))) in
      omega arith

  good_second : records (a ++ b) ≤ first_bad (a ++ b) 0 (records (a ++ b)) → records b ≤ first_bad b 0 (records b)
  good_second h =
      let e = all_good b 0 (records b) (λ j lo hi. ap spare (sym (second_records j (omega arith))) ∙ good_at (a ++ b) 0 (records (a ++ b)) (omega arith) (records a + j) (omega arith) (omega (arith, joined_records))) in
      omega arith

  good_both : records a ≤ first_bad a 0 (records a) → records b ≤ first_bad b 0 (records b) → records (a ++ b) ≤ first_bad (a ++ b) 0 (records (a ++ b))
  good_both ha hb =
      let e = all_good (a ++ b) 0 (records (a ++ b)) (λ j lo hi. either j (omega (arith, joined_records)) (ltb j (records a)) refl) in omega arith
    where
      in_first : (j : ℕ) → j < records a → bad (a ++ b) j ≡ false
      in_first j h = ap spare (first_records j h) ∙ good_at a 0 (records a) (omega arith) j (omega arith) (omega arith)

      in_second : (j : ℕ) → j < records a + records b → records a ≤ j → bad (a ++ b) j ≡ false
      in_second j hi h =
          let k = j - records a in
          let e : j ≡ records a + k = omega arith in
          ap (bad (a ++ b)) e ∙ ap spare (second_records k (omega arith)) ∙ good_at b 0 (records b) (omega arith) k (omega arith) (omega arith)

      either : (j : ℕ) → j < records a + records b → (x : Bool) → ltb j (records a) ≡ x → bad (a ++ b) j ≡ false
      either j hi true e = in_first j (ltb-true _ _ e)
      either j hi false e = in_second j hi (ltb-false _ _ e)

pub joined_replay : JoinedReplay
unfolding run_of
joined_replay m a b room whole e =
    let d = doable m.state (a ++ b) room e in
    let l = length-append a b in
    let n = joined_records a b whole in record {
      first_done =
          is_done m.state a room
          (record { accepted = d.accepted; whole = whole; few = omega (arith, d.few); fits = omega (arith, d.fits); good = good_first a b whole d.good });
      second_done =
          is_done (end_of m a).state b room
          (record {
            accepted = run_accepted (run_from m (inputs_in a)) d.accepted (records a);
            whole = omega (arith, d.whole);
            few = omega (arith, d.few);
            fits = omega (arith, d.fits);
            good = good_second a b whole d.good;
          });
      same_end = joined_end a b whole m;
      same_answers = joined_answers a b whole m;
    }

pub joined_done : JoinedDone
joined_done m a b room ea eb few fits =
    let p = doable m.state a room ea in
    let q = doable (end_of m a).state b room eb in
    let l = length-append a b in
    let n = joined_records a b p.whole in
    is_done m.state (a ++ b) room
    (record { accepted = p.accepted; whole = omega (arith, p.whole, q.whole); few = omega arith; fits = omega arith; good = good_both a b p.whole p.good q.good })
