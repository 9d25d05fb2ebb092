-- What a judgement and a replay answer can be told from the number, the index and the machine. Assumes nothing.
use mathlib.Core.Path.{◌≡◌, refl, sym, ap, ◌∙◌}
use mathlib.Core.Bool.{cond}
use Prim.Native.Nat.{ℕ}
use lib.Dec.{eqb}
use Rattle.std.specs.Prelude.{Option, Some, None, Result, Ok, Err}
use Rattle.routing.proofs.Equal.{two}
use Rattle.states.specs.declared.state.Machine.{Machine}
use Rattle.states.specs.declared.state.Refused.{Refused as Handed}
use Rattle.states.specs.declared.refusal.Refusal.{Refusal}
use Rattle.states.specs.declared.refusal.Refusal.TheVariants.{CaptureCut, AnswersTooShort, SpareBitSet, TooManyRecords, SavedLength, SavedZerosSet, OpenWhileWaiting, HeldTwice, SavingTooShort, HolderAbove}
use Rattle.states.specs.Refusal.{number_of, index_of, place_of}
use Rattle.states.proofs.Refusals.{never_0, numbers_tell}
use Rattle.capture.specs.Refusal.{Judged, Refused, Done, judged_as, JudgedApart}
use Rattle.capture.specs.Replay.{Replayed, replayed, ReplayedApart}

-- a number and a place give the index: 3 alone has one
abbrev index_with : ℕ → ℕ → Option ℕ
index_with n k = cond (eqb n 3) (Some k) None

index_back : (r : Refusal) → index_of r ≡ index_with (number_of r) (place_of r)
index_back CaptureCut = refl
index_back AnswersTooShort = refl
index_back (SpareBitSet k) = refl
index_back TooManyRecords = refl
index_back SavedLength = refl
index_back SavedZerosSet = refl
index_back OpenWhileWaiting = refl
index_back HeldTwice = refl
index_back SavingTooShort = refl
index_back HolderAbove = refl

pub place_tells : (r q : Refusal) → number_of r ≡ number_of q → place_of r ≡ place_of q → r ≡ q
place_tells r q n k = numbers_tell r q n (index_back r ∙ two index_with n k ∙ sym (index_back q))

-- the two numbers of a judgement; one that is done has no number
abbrev number : Judged → ℕ
number (Refused n k) = n
number Done = 0

abbrev place : Judged → ℕ
place (Refused n k) = k
place Done = 0

pub judged_apart : JudgedApart
judged_apart (Ok a) (Ok b) e = refl
judged_apart (Ok a) (Err q) e = absurd (never_0 q (sym (ap number e)))
judged_apart (Err r) (Ok b) e = absurd (never_0 r (ap number e))
judged_apart (Err r) (Err q) e = ap Err (place_tells r q (ap number e) (ap place e))

abbrev handed : Refusal → Machine → Handed
handed why m = record { why = why; machine = m }

pub replayed_apart : ReplayedApart
replayed_apart (Ok a) (Ok b) e = ap (λ (x : Replayed). Ok x.machine) e
replayed_apart (Ok a) (Err q) e = absurd (never_0 q.why (sym (ap (λ (x : Replayed). x.number) e)))
replayed_apart (Err r) (Ok b) e = absurd (never_0 r.why (ap (λ (x : Replayed). x.number) e))
replayed_apart (Err r) (Err q) e =
    ap Err
    (two handed (place_tells r.why q.why (ap (λ (x : Replayed). x.number) e) (ap (λ (x : Replayed). x.index) e)) (ap (λ (x : Replayed). x.machine) e))
