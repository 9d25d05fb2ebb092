-- What becomes of a replay: refusals 14, 7, 8, 1, 4, 2, 3 in this order, or done.
use Rattle.std.specs.Prelude.{◌≡◌, Bool, cond, not, List, ℕ, zero, suc, ◌%◌, eqb, ltb, length, Result, Ok, Err}
use Rattle.states.specs.declared.state.State.{State}
use Rattle.states.specs.State.{◌when◌otherwise◌, ◌or_else◌, state_refusal}
use Rattle.records.specs.Record.{byte_at, spare_set}
use Rattle.states.specs.declared.refusal.Refusal.{Refusal}
use Rattle.states.specs.Refusal.{number_of, place_of}
use Rattle.places.specs.Capture.{records, record_at}

-- a number and an index, 0 where none is given, or done
pub data Judged : Type 0 where
  Refused : ℕ → ℕ → Judged
  Done : Judged

-- refusal 4's limit
abbrev pub limit : ℕ
limit = 12288

-- the refusals that come before 3
unfoldable pub early_refusal : State → List ℕ → ℕ → ℕ
early_refusal s capture room =
    state_refusal s or_else
    1 when not (eqb (length capture % 5) 0) otherwise
    4 when ltb limit (records capture) otherwise
    2 when ltb room (length capture) otherwise
    0

-- 3: record k has a bit 6..4 set
abbrev pub bad : List ℕ → ℕ → Bool
bad capture k = spare_set (byte_at (record_at capture k) 0)

-- the first such record from record k on, with n records to go; where none is bad, the place past the last
unfoldable pub first_bad : List ℕ → ℕ → ℕ → ℕ
first_bad capture k zero = k
first_bad capture k (suc n) = cond (bad capture k) k (first_bad capture (suc k) n)

unfoldable pub judged : State → List ℕ → ℕ → Judged
judged s capture room =
    cond (eqb (early_refusal s capture room) 0)
    (cond (ltb (first_bad capture 0 (records capture)) (records capture)) (Refused 3 (first_bad capture 0 (records capture))) Done)
    (Refused (early_refusal s capture room) 0)

-- the code's answer in document 01's words
abbrev pub judged_as : {A : Type 0} → Result A Refusal → Judged
judged_as (Ok a) = Done
judged_as (Err r) = Refused (number_of r) (place_of r)

-- They settle it: two answers that are told alike are the same.
abbrev pub JudgedApart : Type 0
JudgedApart = (a b : Result (Unit {0}) Refusal) → judged_as a ≡ judged_as b → a ≡ b
