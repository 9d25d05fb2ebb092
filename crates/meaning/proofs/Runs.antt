-- The answers to a capture and the run of its records show the same, so a read-back speaks of the run. Assumes nothing.
use mathlib.Core.Bool.{Bool, true, false}
use mathlib.Core.Path.{◌≡◌, refl, sym, ap, ◌∙◌}
use mathlib.Core.List.{List, ◌∷◌, ◌++◌}
use Prim.Native.Nat.{ℕ, zero, suc, ◌+◌, ◌*◌, ◌/◌, ◌<◌, ◌≤◌}
use native.Mathlib.Omega.{arith}
use lib.Dec.{eqb, ltb}
use lib.ListN.{length, drop, length-append, length-drop, length-replicate}
use borrow.Author.Tests.{eqb-true, eqb-false, ltb-true, ltb-false, lt-ltb}
use Rattle.routing.proofs.Equal.{two}
use Rattle.states.specs.State.{reset_state}
use Rattle.fabric.specs.Run.{reset_machine}
use Rattle.runs.specs.Run.{head}
use Rattle.records.specs.Record.{byte_at}
use Rattle.records.specs.Answers.{answers_of}
use Rattle.places.specs.Capture.{records, five_at, record_at, inputs_in}
use Rattle.capture.specs.Refusal.{Judged, Done, early_refusal, first_bad, judged}
use Rattle.capture.specs.Replay.{replayed_as, replay_of}
use Rattle.capture.proofs.Fates.{refused_early, refused_3, done}
use Rattle.promises.specs.Answered.{replay_run}
use Rattle.promises.proofs.Answering.{records_are_cycles}
use Rattle.promises.proofs.Joining.{replay_is_run}
use Rattle.comparison.specs.Both.{zeros}
use Rattle.heads.specs.Shown.{shown_at, shown_from, without_zeros, head_text}
use Rattle.due.specs.Texts.{capture_in}
use Rattle.meaning.specs.ReadBacks.{answers_to}
use Rattle.meaning.proofs.Sames.{four_same_lem}
use Rattle.meaning.specs.Meaning.{shows_from, text_shown, HeadsOfRuns, SameMeans}

module _ (capture : List ℕ) where
  abbrev number : ℕ
  number = (replay_of reset_machine capture (length capture)).number

  handed : {j : Judged} → j ≡ judged reset_state capture (length capture) → (replayed_as j reset_machine capture).number ≡ number
  handed is = ap (λ (j : Judged). (replayed_as j reset_machine capture).number) is

  -- number 0 is that of a replay that is done, and of no other
  done_by : (a b : Bool) → eqb (early_refusal reset_state capture (length capture)) 0 ≡ a → ltb (first_bad capture 0 (records capture)) (records capture) ≡ b → number ≡ 0
      → judged reset_state capture (length capture) ≡ Done
  done_by false b ea eb z =
      let some = eqb-false _ _ ea in absurd (some (handed (refused_early reset_state capture (length capture) refl some) ∙ z))
  done_by true true ea eb z =
      let none : early_refusal reset_state capture (length capture) ≡ 0 = eqb-true _ _ ea in
      let three : ◌≡◌ {A = ℕ} 3 0 = handed (refused_3 reset_state capture (length capture) refl none refl (ltb-true _ _ eb)) ∙ z in absurd (omega (arith, three))
  done_by true false ea eb z =
      let none : early_refusal reset_state capture (length capture) ≡ 0 = eqb-true _ _ ea in sym (done reset_state capture (length capture) refl none refl (ltb-false _ _ eb))

  is_done : number ≡ 0 → judged reset_state capture (length capture) ≡ Done
  is_done = done_by (eqb (early_refusal reset_state capture (length capture)) 0) (ltb (first_bad capture 0 (records capture)) (records capture)) refl refl

  module _ (ok : judged reset_state capture (length capture) ≡ Done) where
    no_number : number ≡ 0
    no_number = sym (handed (sym ok))

    room : judged reset_state capture (length (zeros (length capture))) ≡ Done
    room = ap (judged reset_state capture) (length-replicate (length capture) 0) ∙ ok

    -- as many answers as records
    as_many : records (answers_to capture) ≡ records capture
    as_many =
        let r = replay_is_run reset_machine capture (zeros (length capture)) room in
        let front = answers_of reset_machine (inputs_in capture) (records capture) in
        let back = drop (length capture) (zeros (length capture)) in
        let l : length (answers_to capture) ≡ length (front ++ back) = ap length r.writes in
        let z : length (zeros (length capture)) ≡ length capture = length-replicate (length capture) 0 in
        let n : length (answers_to capture) ≡ length capture = omega (arith, l, length-append front back, r.as_long, length-drop (length capture) (zeros (length capture)), z) in
        ap (λ (k : ℕ). k / 5) n

    module _ (o : ℕ) (less : o < 4) where
      in_place : (k : ℕ) → k < records capture → shown_at (answers_to capture) o k ≡ byte_at (answers_to capture) (5 * k + 1 + o)
      unfolding record_at
      in_place k h =
          let there : k < records (answers_to capture) = omega (arith, h, as_many) in
          let five = five_at (answers_to capture) (5 * k) in
          rw (lt-ltb k (records (answers_to capture)) there) (at o less)
        where
          at : (o : ℕ) → o < 4 → byte_at (five_at (answers_to capture) (5 * k)) (o + 1) ≡ byte_at (answers_to capture) (5 * k + 1 + o)
          at zero l = let e : 5 * k + 1 ≡ 5 * k + 1 + 0 = omega arith in ap (byte_at (answers_to capture)) e
          at (suc zero) l = let e : 5 * k + 2 ≡ 5 * k + 1 + 1 = omega arith in ap (byte_at (answers_to capture)) e
          at (suc (suc zero)) l = let e : 5 * k + 3 ≡ 5 * k + 1 + 2 = omega arith in ap (byte_at (answers_to capture)) e
          at (suc (suc (suc zero))) l = let e : 5 * k + 4 ≡ 5 * k + 1 + 3 = omega arith in ap (byte_at (answers_to capture)) e
          at (suc (suc (suc (suc o)))) l = absurd (omega (arith, l))

      in_cycle : (k : ℕ) → k < records capture → shown_at (answers_to capture) o k ≡ head (replay_run reset_machine capture) k o
      in_cycle k h = in_place k h ∙ (records_are_cycles reset_machine capture (zeros (length capture)) room k h).heads o less

      in_cycles : (n k : ℕ) → k + n ≤ records capture → shown_from (answers_to capture) o k n ≡ shows_from (replay_run reset_machine capture) o k n
      unfolding shown_from shows_from
      in_cycles zero k h = refl
      in_cycles (suc n) k h = two (λ (b : ℕ) (l : List ℕ). b ∷ l) (in_cycle k (omega (arith, h))) (in_cycles n (suc k) (omega (arith, h)))

      of_run : head_text (answers_to capture) o ≡ text_shown capture o
      of_run = ap without_zeros (ap (shown_from (answers_to capture) o 0) as_many ∙ in_cycles (records capture) 0 (omega arith))

pub heads_of_runs : HeadsOfRuns
heads_of_runs = of_run

pub same_means : SameMeans
same_means input = (
  λ e.
      let c = (four_same_lem input).0 e in
      let ok = is_done (capture_in input) c.done in
      record { texts = c.texts; done = ok; shown = λ o less. c.shown o less ∙ of_run (capture_in input) ok o less },
  λ d.
      (four_same_lem input).1 (record { texts = d.texts; done = no_number (capture_in input) d.done; shown = λ o less. d.shown o less ∙ sym (of_run (capture_in input) d.done o less) }),
)
