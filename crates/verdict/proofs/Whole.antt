-- What is printed of the bytes that are kept of a capture is what would be printed of the whole. Assumes nothing.
use mathlib.Core.Bool.{Bool, true, false}
use mathlib.Core.Path.{◌≡◌, refl, sym, ap, ◌∙◌}
use mathlib.Core.List.{List}
use Rattle.std.proofs.Common.{None}
use Prim.Native.Nat.{ℕ, ◌+◌, ◌%◌, ◌≤◌, ◌<◌}
use native.Mathlib.Omega.{arith}
use lib.Dec.{eqb, ltb}
use lib.ListN.{length, take, length-take, length-replicate}
use lib.Seq.{take_all, length-take-le}
use borrow.Author.Tests.{ltb-true, ltb-false, eqb-true, eqb-false}
use Rattle.routing.proofs.Equal.{two}
use Rattle.states.specs.State.{reset_state, state_refusal}
use Rattle.fabric.specs.Run.{reset_machine}
use Rattle.places.specs.Capture.{records}
use Rattle.capture.specs.Refusal.{Judged, limit, judged}
use Rattle.capture.specs.Replay.{replayed_as, written_as}
use Rattle.capture.proofs.Fates.{number_1, number_4, refused_early}
use Rattle.listing.specs.Listing.{listing}
use Rattle.listing.specs.Refusal.{refusal_line}
use Rattle.verdict.specs.Verdict.{outcome_text}
use Rattle.comparison.specs.Both.{zeros, kept_length, kept}
use Rattle.verdict.specs.Printed.{printed_by, printed, WholeInput}
use Rattle.comparison.proofs.Inputs.{kept_long, kept_whole}

module _ (said : List ℕ → List ℕ) (capture : List ℕ) where
  abbrev pub printed_as : Judged → List ℕ
  printed_as j = outcome_text said (replayed_as j reset_machine capture).number (replayed_as j reset_machine capture).index (written_as j reset_machine capture (zeros (length capture)))

  same_room : length (zeros (length capture)) ≡ length capture
  same_room = length-replicate (length capture) 0

  pub printed_by_lem : {j : Judged} → j ≡ judged reset_state capture (length capture) → printed_by said capture ≡ printed_as j
  unfolding printed_by
  printed_by_lem {j = j} is =
      let room : judged reset_state capture (length capture) ≡ judged reset_state capture (length (zeros (length capture))) = ap (judged reset_state capture) (sym same_room) in
      two (λ (r w : Judged). outcome_text said (replayed_as r reset_machine capture).number (replayed_as r reset_machine capture).index (written_as w reset_machine capture (zeros (length capture)))) (sym is) (sym room ∙ sym is)

  -- 1 goes before 4, and where one of the two is given nothing but the length counts
  pub bytes_left : ¬ (length capture % 5 ≡ 0) → printed_by said capture ≡ refusal_line 1 None
  unfolding outcome_text state_refusal
  bytes_left h = printed_by_lem (refused_early reset_state capture (length capture) (number_1 reset_state capture (length capture) refl refl h) (λ z. omega (arith, z)))

  pub too_many : length capture % 5 ≡ 0 → limit < records capture → printed_by said capture ≡ refusal_line 4 None
  unfolding outcome_text state_refusal
  too_many h over = printed_by_lem (refused_early reset_state capture (length capture) (number_4 reset_state capture (length capture) refl refl h over) (λ z. omega (arith, z)))

-- two captures over the limit that leave the same bytes over, whatever would be said of their answers
module _ (said other : List ℕ → List ℕ) where
  alike_by : (a b : List ℕ) (left : Bool) → eqb (length a % 5) 0 ≡ left → length a % 5 ≡ length b % 5 → limit < records a → limit < records b → printed_by said a ≡ printed_by other b
  alike_by a b true e same ha hb =
      let none : length a % 5 ≡ 0 = eqb-true _ _ e in too_many said a none ha ∙ sym (too_many other b (sym same ∙ none) hb)
  alike_by a b false e same ha hb =
      let some : ¬ (length a % 5 ≡ 0) = eqb-false _ _ e in bytes_left said a some ∙ sym (bytes_left other b (λ z. some (same ∙ z)))

  pub alike : (a b : List ℕ) → length a % 5 ≡ length b % 5 → limit < records a → limit < records b → printed_by said a ≡ printed_by other b
  alike a b = alike_by a b (eqb (length a % 5) 0) refl

-- the first bytes of a capture, at least 61,449 if it has so many, and what stands for it
module _ (said other : List ℕ → List ℕ) (start whole : List ℕ) where
  pub kept_over : 61449 < length whole → 61449 ≤ length start → printed_by said (kept start (length whole)) ≡ printed_by other whole
  kept_over more enough =
      let n = kept_length (length whole) in
      let is : n ≡ 61445 + length whole % 5 = sym (kept_long (length whole) more) in
      let l : length (take n start) ≡ n = length-take-le n start (omega (arith, is, enough)) in
      alike said other (take n start) whole (omega (arith, l, is)) (omega (arith, l, is)) (omega (arith, more))

pub kept_all : (whole : List ℕ) → length whole ≤ 61449 → kept whole (length whole) ≡ whole
kept_all whole few =
    let is : length whole ≡ kept_length (length whole) = kept_whole (length whole) few in take_all (kept_length (length whole)) whole (omega (arith, is))

module _ (whole : List ℕ) where
  by_size : (b : Bool) → ltb 61449 (length whole) ≡ b → printed (kept (take 65536 whole) (length whole)) ≡ printed whole
  by_size true e =
      let more : 61449 < length whole = ltb-true _ _ e in kept_over listing listing (take 65536 whole) whole more (omega (arith, more, length-take 65536 whole))
  by_size false e =
      let few : length whole ≤ 61449 = ltb-false _ _ e in
      ap printed (ap (λ (l : List ℕ). kept l (length whole)) (take_all 65536 whole (omega (arith, few))) ∙ kept_all whole few)

pub whole_input : WholeInput
whole_input whole = by_size whole (ltb 61449 (length whole)) refl
