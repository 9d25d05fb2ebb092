-- Both engines from reset: what two replays come to, that they agree, that what is told of them tells them, and how many bytes stand for a capture.
-- Assumes nothing.
use Rattle.std.proofs.Common.{◌≡◌, ℕ, ◌+◌, ◌%◌, ◌≤◌, ◌<◌, List, length, Option, None, Result, Ok, Err, refl, sym, ap, ◌∙◌}
use borrow.Author.Tests.{lt-ltb, le-ltb}
use Rattle.routing.proofs.Equal.{two}
use Rattle.states.specs.declared.state.State.{State}
use Rattle.states.specs.declared.refusal.Refusal.{Refusal}
use Rattle.states.specs.declared.refusal.Refusal.TheVariants.{CaptureCut, AnswersTooShort, SpareBitSet, TooManyRecords, SavedLength, SavedZerosSet, OpenWhileWaiting, HeldTwice, SavingTooShort, HolderAbove}
use Rattle.states.specs.State.{reset_state, reset_rows}
use Rattle.states.specs.Refusal.{number_of, index_of, place_of, number_in}
use Rattle.states.proofs.Refusals.{never_0, numbers_tell}
use Rattle.fabric.specs.Cycle.{Machine, machine}
use Rattle.fabric.specs.Run.{reset_machine}
use Rattle.capture.specs.Replay.{Replayed, replay_of, replay_writes}
use Rattle.comparison.specs.declared.both.Both.{Both as Compared}
use Rattle.comparison.specs.Agreement.{disagreement_of}
use Rattle.comparison.specs.Both.{Both, both_differ, both_of, place_in, index_given, ToldApart, kept_length}
use Rattle.comparison.proofs.Agreements.{agrees_with_itself}

pub kept_long : (n : ℕ) → 61449 < n → 61445 + n % 5 ≡ kept_length n
kept_long n h = rw (lt-ltb 61449 n h)

pub kept_whole : (n : ℕ) → n ≤ 61449 → n ≡ kept_length n
kept_whole n h = rw (le-ltb 61449 n h)

-- a replay from the state and the rows that reset gives is a replay from reset
pub from_reset : (capture buffer : List ℕ) {after : List ℕ} {s : State} {rows : List (List ℕ)} {t : Replayed} → s ≡ reset_state → rows ≡ reset_rows
    → (t ≡ replay_of (machine s rows) capture (length buffer)) × (after ≡ replay_writes (machine s rows) capture buffer)
    → (t ≡ replay_of reset_machine capture (length buffer)) × (after ≡ replay_writes reset_machine capture buffer)
from_reset capture buffer es er e =
    let m = two machine es er in
    (e.0 ∙ ap (λ (x : Machine). replay_of x capture (length buffer)) m, e.1 ∙ ap (λ (x : Machine). replay_writes x capture buffer) m)

-- number and index of one replay, with where it differs from another
pub compared : (capture plain gates : List ℕ) {p g : Replayed} {x y : List ℕ} {d : Option ℕ}
    → (p ≡ replay_of reset_machine capture (length plain)) × (x ≡ replay_writes reset_machine capture plain)
    → (g ≡ replay_of reset_machine capture (length gates)) × (y ≡ replay_writes reset_machine capture gates)
    → d ≡ disagreement_of p g x y
    → ◌≡◌ {A = Both} (record { number = p.number; index = p.index; difference = d }) (both_of capture plain gates)
compared capture plain gates {p = p} {g = g} {x = x} {y = y} {d = d} ep eg ed =
    let is : d ≡ both_differ capture plain gates = ed ∙ two (λ (a : Replayed) (l : List ℕ). disagreement_of a g l y) ep.0 ep.1 ∙ two (λ (a : Replayed) (l : List ℕ). disagreement_of (replay_of reset_machine capture (length plain)) a (replay_writes reset_machine capture plain) l) eg.0 eg.1 in
    two (λ (a : Replayed) (e : Option ℕ). record { number = a.number; index = a.index; difference = e }) ep.0 is

-- into equal buffers the two replays are the same
pub both_agree : (capture buffer : List ℕ) → both_differ capture buffer buffer ≡ None
both_agree capture buffer = agrees_with_itself (replay_of reset_machine capture (length buffer)) (replay_writes reset_machine capture buffer)

-- a refusal's number and place give its index
pub given_again : (r : Refusal) → index_of r ≡ index_given (number_of r) (place_of r)
given_again CaptureCut = refl
given_again AnswersTooShort = refl
given_again (SpareBitSet k) = refl
given_again TooManyRecords = refl
given_again SavedLength = refl
given_again SavedZerosSet = refl
given_again OpenWhileWaiting = refl
given_again HeldTwice = refl
given_again SavingTooShort = refl
given_again HolderAbove = refl

same_outcome : (r q : Result Unit Refusal) → number_in r ≡ number_in q → place_in r ≡ place_in q → r ≡ q
same_outcome (Ok a) (Ok b) n k = refl
same_outcome (Ok a) (Err q) n k = absurd (never_0 q (sym n))
same_outcome (Err r) (Ok b) n k = absurd (never_0 r n)
same_outcome (Err r) (Err q) n k = ap Err (numbers_tell r q n (given_again r ∙ two index_given n k ∙ sym (given_again q)))

abbrev both : Result Unit Refusal → Option ℕ → Compared
both r d = record { outcome = r; difference = d }

pub told_apart : ToldApart
told_apart b c e =
    two both (same_outcome b.outcome c.outcome (ap (λ (x : Both). x.number) e) (ap (λ (x : Both). x.index) e)) (ap (λ (x : Both). x.difference) e)
