-- What becomes of a replay: each refusal, and what a replay that is done has. Assumes nothing.
use mathlib.Core.Bool.{Bool, true, false, cond, not}
use mathlib.Core.Path.{◌≡◌, refl, sym, ap, ◌∙◌}
use mathlib.Core.List.{List}
use Prim.Native.Nat.{ℕ, ◌%◌, ◌<◌, ◌≤◌}
use native.Mathlib.Omega.{arith}
use lib.Dec.{eqb, ltb}
use lib.ListN.{length}
use borrow.Author.Tests.{eq-eqb, ne_eqb, eqb-true, lt-ltb, le-ltb, ltb-false}
use Rattle.states.specs.declared.state.State.{State}
use Rattle.states.specs.declared.refusal.Refusal.{Refusal}
use Rattle.states.specs.declared.refusal.Refusal.TheVariants.{CaptureCut, AnswersTooShort, SpareBitSet, TooManyRecords, SavedLength, SavedZerosSet, OpenWhileWaiting, HeldTwice, SavingTooShort, HolderAbove}
use Rattle.states.specs.Refusal.{number_of, place_of}
use Rattle.states.specs.State.{◌when◌otherwise◌, state_refusal}
use Rattle.states.proofs.States.{not_3}
use Rattle.states.proofs.Calls.{by_first, by_later, both_zero}
use Rattle.capture.specs.Refusal.{Refused, Done}
use Rattle.places.specs.Capture.{records}
use Rattle.capture.specs.Refusal.{limit, early_refusal, first_bad, judged}

abbrev later : List ℕ → ℕ → ℕ
later capture room =
    1 when not (eqb (length capture % 5) 0) otherwise 4 when ltb limit (records capture) otherwise 2 when ltb room (length capture) otherwise 0

-- the refusals before 3, one by one
module _ (s : State) (capture : List ℕ) (room : ℕ) {n : ℕ} (is : n ≡ state_refusal s) where
  pub number_14_7_8 : (n ≡ 0 → ⊥) → n ≡ early_refusal s capture room
  unfolding early_refusal
  number_14_7_8 h = by_first is (later capture room) h

  module _ (ok : n ≡ 0) where
    afterwards : later capture room ≡ early_refusal s capture room
    unfolding early_refusal
    afterwards = by_later is (later capture room) ok

    pub number_1 : (length capture % 5 ≡ 0 → ⊥) → 1 ≡ early_refusal s capture room
    number_1 h = rw (ne_eqb _ _ h) at afterwards

    module _ (whole : length capture % 5 ≡ 0) where
      pub number_4 : limit < records capture → 4 ≡ early_refusal s capture room
      number_4 h = rw (eq-eqb _ _ whole, lt-ltb _ _ h) at afterwards

      module _ (few : records capture ≤ limit) where
        pub number_2 : room < length capture → 2 ≡ early_refusal s capture room
        number_2 h = rw (eq-eqb _ _ whole, le-ltb _ _ few, lt-ltb _ _ h) at afterwards

        pub no_number : length capture ≤ room → 0 ≡ early_refusal s capture room
        no_number h = rw (eq-eqb _ _ whole, le-ltb _ _ few, le-ltb _ _ h) at afterwards

-- and none of them is 3, so that none gives a place
early_not_3 : (s : State) (capture : List ℕ) (room : ℕ) → 3 ≡ early_refusal s capture room → ⊥
unfolding early_refusal
early_not_3 s capture room e = go (eqb (state_refusal s) 0) e
  where
    rest : (a b c : Bool) → 3 ≡ (1 when not a otherwise 4 when b otherwise 2 when c otherwise 0) → ⊥
    rest false b c e = omega arith
    rest true true c e = omega arith
    rest true false true e = omega arith
    rest true false false e = omega arith

    go : (b : Bool) → 3 ≡ (state_refusal s when not b otherwise later capture room) → ⊥
    go true e = rest (eqb (length capture % 5) 0) (ltb limit (records capture)) (ltb room (length capture)) e
    go false e = not_3 s e

pub early_place : (s : State) (capture : List ℕ) (room : ℕ) (why : Refusal) → number_of why ≡ early_refusal s capture room → place_of why ≡ 0
early_place s capture room CaptureCut e = refl
early_place s capture room AnswersTooShort e = refl
early_place s capture room (SpareBitSet k) e = absurd (early_not_3 s capture room e)
early_place s capture room TooManyRecords e = refl
early_place s capture room SavedLength e = refl
early_place s capture room SavedZerosSet e = refl
early_place s capture room OpenWhileWaiting e = refl
early_place s capture room HeldTwice e = refl
early_place s capture room SavingTooShort e = refl
early_place s capture room HolderAbove e = refl

-- the judgement
module _ (s : State) (capture : List ℕ) (room : ℕ) {n : ℕ} (is : n ≡ early_refusal s capture room) where
  pub refused_early : (n ≡ 0 → ⊥) → Refused n 0 ≡ judged s capture room
  unfolding judged
  refused_early h = ap (λ (x : ℕ). Refused x 0) is ∙ rw (ne_eqb _ _ (λ z. h (is ∙ z)))

  module _ {k : ℕ} (ok : n ≡ 0) (found : k ≡ first_bad capture 0 (records capture)) where
    pub refused_3 : k < records capture → Refused 3 k ≡ judged s capture room
    unfolding judged
    refused_3 h = rw (eq-eqb _ _ (sym is ∙ ok), sym found, lt-ltb _ _ h)

    pub done : records capture ≤ k → Done ≡ judged s capture room
    unfolding judged
    done h = rw (eq-eqb _ _ (sym is ∙ ok), sym found, le-ltb _ _ h)

-- what a replay that is done has
pub record Doable (s : State) (capture : List ℕ) (room : ℕ) : Type 0 where
  pub accepted : state_refusal s ≡ 0
  pub whole : length capture % 5 ≡ 0
  pub few : records capture ≤ limit
  pub fits : length capture ≤ room
  pub good : records capture ≤ first_bad capture 0 (records capture)

-- the refusals before 3 come to 0 where none applies
none_early : (s : State) (capture : List ℕ) (room : ℕ) → early_refusal s capture room ≡ 0
    → (state_refusal s ≡ 0) × (length capture % 5 ≡ 0) × (records capture ≤ limit) × (length capture ≤ room)
unfolding early_refusal
none_early s capture room z =
    let b = both_zero (state_refusal s) (later capture room) z in
    let r = rest (eqb (length capture % 5) 0) (ltb limit (records capture)) (ltb room (length capture)) refl refl refl b.1 in
    (b.0, r.0, r.1, r.2)
  where
    rest : (a b c : Bool) → eqb (length capture % 5) 0 ≡ a → ltb limit (records capture) ≡ b → ltb room (length capture) ≡ c
        → (1 when not a otherwise 4 when b otherwise 2 when c otherwise 0) ≡ 0
        → (length capture % 5 ≡ 0) × (records capture ≤ limit) × (length capture ≤ room)
    rest false b c p q r e = absurd (omega arith)
    rest true true c p q r e = absurd (omega arith)
    rest true false true p q r e = absurd (omega arith)
    rest true false false p q r e = (eqb-true _ _ p, ltb-false _ _ q, ltb-false _ _ r)

pub doable : (s : State) (capture : List ℕ) (room : ℕ) → judged s capture room ≡ Done → Doable s capture room
unfolding judged
doable s capture room e = outer (eqb (early_refusal s capture room) 0) refl e
  where
    no : (n k : ℕ) → Refused n k ≡ Done → ⊥
    no n k e = let z : ◌≡◌ {A = ℕ} 0 1 = cc in omega arith

    inner : (b : Bool) → ltb (first_bad capture 0 (records capture)) (records capture) ≡ b
        → cond b (Refused 3 (first_bad capture 0 (records capture))) Done ≡ Done → records capture ≤ first_bad capture 0 (records capture)
    inner true p e = absurd (no _ _ e)
    inner false p e = ltb-false _ _ p

    outer : (b : Bool) → eqb (early_refusal s capture room) 0 ≡ b
        → cond b (cond (ltb (first_bad capture 0 (records capture)) (records capture)) (Refused 3 (first_bad capture 0 (records capture))) Done) (Refused (early_refusal s capture room) 0) ≡ Done
        → Doable s capture room
    outer false p e = absurd (no _ _ e)
    outer true p e =
        let z = none_early s capture room (eqb-true _ _ p) in
        record { accepted = z.0; whole = z.1; few = z.2; fits = z.3; good = inner (ltb (first_bad capture 0 (records capture)) (records capture)) refl e }

-- and that it is done where it has this
pub is_done : (s : State) (capture : List ℕ) (room : ℕ) → Doable s capture room → judged s capture room ≡ Done
is_done s capture room d =
    sym (done s capture room (no_number s capture room (sym d.accepted) refl d.whole d.few d.fits) refl refl d.good)
