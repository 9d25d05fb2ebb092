-- The saved state, 18 bytes, most significant first: a 16-bit word, high byte first, then the four rows.
use Rattle.std.specs.Prelude.{◌≡◌, cond, not, List, [], ◌∷◌, ◌++◌, ℕ, ◌+◌, ◌*◌, ◌/◌, ◌%◌, ◌^◌, eqb, ltb, length, drop, Result, Ok, Err}
use Rattle.states.specs.declared.state.State.{State}
use Rattle.states.specs.declared.state.Refused.{Refused}
use Rattle.routing.specs.Four.{four, bit, bit_at}
use Rattle.routing.specs.Port.{input}
use Rattle.states.specs.State.{shut_at, holder_at, first_row, second_row, switch_row, head_row, ◌when◌otherwise◌, ◌or_else◌, state_refusal}
use Rattle.states.specs.declared.refusal.Refusal.{Refusal}
use Rattle.states.specs.Refusal.{number_of, number_in}
use Rattle.fabric.specs.Cycle.{Machine, machine}
use Rattle.fabric.specs.Run.{reset_machine}
use Rattle.records.specs.Record.{byte_at}

-- bit 15 waiting, 14..11 shut flags of outputs 3..0, 10..3 holders of outputs 3..0 (two bits each), 2..0 zero
unfoldable pub word_of : State → ℕ
word_of s =
    32768 * bit s.waiting
    + 16384 * bit (shut_at s 3) + 8192 * bit (shut_at s 2) + 4096 * bit (shut_at s 1) + 2048 * bit (shut_at s 0)
    + 512 * holder_at s 3 + 128 * holder_at s 2 + 32 * holder_at s 1 + 8 * holder_at s 0

-- then first latches, second latches, switch bytes and head bytes, 0..3 each
abbrev pub row_bytes : List ℕ → List ℕ
row_bytes row = four (byte_at row)

abbrev pub saved_bytes : ℕ → List (List ℕ) → List ℕ
saved_bytes w rows =
    (w / 256 ∷ w % 256 ∷ [])
    ++ row_bytes (first_row rows) ++ row_bytes (second_row rows) ++ row_bytes (switch_row rows) ++ row_bytes (head_row rows)

abbrev pub saved_of : Machine → List ℕ
saved_of m = saved_bytes (word_of m.state) m.rows

-- saving: refusals 14, 7, 8, 9
unfoldable pub save_refusal : State → ℕ → ℕ
save_refusal s room = state_refusal s or_else 9 when ltb room 18 otherwise 0

-- the buffer after saving: the 18 bytes and, beyond them, what stood there; a refusal leaves all
unfoldable pub save_writes : Machine → List ℕ → List ℕ
save_writes m buffer = cond (eqb (save_refusal m.state (length buffer)) 0) (saved_of m ++ drop 18 buffer) buffer

-- the word of saved bytes, and the state that it holds
abbrev pub word_in : List ℕ → ℕ
word_in saved = 256 * byte_at saved 0 + byte_at saved 1

unfoldable pub state_in : ℕ → State
state_in w = record {
  waiting = bit_at 15 w;
  shut = four (λ o. bit_at (11 + o) w);
  holders = four (λ o. input (w / 2 ^ (3 + 2 * o) % 4));
}

-- the row of four bytes at a place
abbrev pub row_in : List ℕ → ℕ → List ℕ
row_in saved at = four (λ i. byte_at saved (at + i))

-- taking up: refusals 5, 6, 7, 8
unfoldable pub take_up_refusal : List ℕ → ℕ
take_up_refusal saved =
    5 when not (eqb (length saved) 18) otherwise 6 when not (eqb (word_in saved % 8) 0) otherwise state_refusal (state_in (word_in saved))

-- What document 01 says that taking up answers: a number, 0 where it is done, and the state with its rows.
pub record TakenUp : Type 0 where
  pub number : ℕ
  pub machine : Machine

abbrev pub machine_in : List ℕ → Machine
machine_in saved = machine (state_in (word_in saved)) (row_in saved 2 ∷ row_in saved 6 ∷ row_in saved 10 ∷ row_in saved 14 ∷ [])

abbrev pub taken_up : List ℕ → TakenUp
taken_up saved = record { number = 0; machine = machine_in saved }

-- a refusal gives the reset state
abbrev pub not_taken_up : ℕ → TakenUp
not_taken_up n = record { number = n; machine = reset_machine }

abbrev pub take_up_of : List ℕ → TakenUp
take_up_of saved = cond (eqb (take_up_refusal saved) 0) (taken_up saved) (not_taken_up (take_up_refusal saved))

-- the code's answer in document 01's words
abbrev pub taken_as : Result Machine Refused → TakenUp
taken_as (Ok m) = record { number = 0; machine = m }
taken_as (Err r) = record { number = number_of r.why; machine = r.machine }

-- What is told settles what was answered, of saving and of taking up: two results that tell the same are the same.
abbrev pub SaveSettles : Type 0
SaveSettles = (s : State) (room : ℕ) (a b : Result (Unit {0}) Refusal) → number_in a ≡ save_refusal s room → number_in b ≡ save_refusal s room → a ≡ b

abbrev pub TakeUpSettles : Type 0
TakeUpSettles = (saved : List ℕ) (a b : Result Machine Refused) → taken_as a ≡ take_up_of saved → taken_as b ≡ take_up_of saved → a ≡ b
