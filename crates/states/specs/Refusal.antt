-- The refusals of calls over a machine, with document 01's numbers.
use Rattle.std.specs.Prelude.{Bool, ◌||◌, ◌≡◌, eqb, ℕ, Option, Some, None, Result, Ok, Err, unwrap_or}
use Rattle.states.specs.State.{state_refusal}
use Rattle.states.specs.declared.state.State.{State}
use Rattle.states.specs.declared.refusal.Refusal.{Refusal}
use Rattle.states.specs.declared.refusal.Refusal.TheVariants.{CaptureCut, AnswersTooShort, SpareBitSet, TooManyRecords, SavedLength, SavedZerosSet, OpenWhileWaiting, HeldTwice, SavingTooShort, HolderAbove}

abbrev pub number_of : Refusal → ℕ
number_of CaptureCut = 1
number_of AnswersTooShort = 2
number_of (SpareBitSet k) = 3
number_of TooManyRecords = 4
number_of SavedLength = 5
number_of SavedZerosSet = 6
number_of OpenWhileWaiting = 7
number_of HeldTwice = 8
number_of SavingTooShort = 9
number_of HolderAbove = 14

-- 3 gives the place of the record, no other does
abbrev pub index_of : Refusal → Option ℕ
index_of CaptureCut = None
index_of AnswersTooShort = None
index_of (SpareBitSet k) = Some k
index_of TooManyRecords = None
index_of SavedLength = None
index_of SavedZerosSet = None
index_of OpenWhileWaiting = None
index_of HeldTwice = None
index_of SavingTooShort = None
index_of HolderAbove = None

-- the index as document 01 gives it: 0 where there is none
abbrev pub place_of : Refusal → ℕ
place_of r = unwrap_or (index_of r) 0

-- the numbers that give an index, of all refusals: a bad record, a wrong gate word, a net read too early
abbrev pub indexed : ℕ → Bool
indexed number = eqb number 3 || eqb number 11 || eqb number 12

-- the number of what a call says that may refuse: 0 is done
abbrev pub number_in : {A : Type 0} → Result A Refusal → ℕ
number_in (Ok a) = 0
number_in (Err r) = number_of r

-- A number and a place tell the refusal: two that agree in both are the same.
abbrev pub NumbersTell : Type 0
NumbersTell = (r q : Refusal) → number_of r ≡ number_of q → index_of r ≡ index_of q → r ≡ q

-- The number alone tells what a check answers, since no state is refused by 3: two results that tell a state's number are the same.
abbrev pub CheckSettles : Type 0
CheckSettles = (s : State) (a b : Result (Unit {0}) Refusal) → number_in a ≡ state_refusal s → number_in b ≡ state_refusal s → a ≡ b
