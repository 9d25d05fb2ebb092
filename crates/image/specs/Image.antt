-- A state and its rows as 25 bytes: waiting, four shut flags, four holders, then the four rows. A flag is 1 or 0; read back, any byte but 0 is 1.
use Rattle.std.specs.Prelude.{Bool, not, List, [], ◌∷◌, ◌++◌, ℕ, ◌+◌, eqb}
use Rattle.states.specs.declared.state.State.{State}
use Rattle.routing.specs.Four.{four, bit}
use Rattle.routing.specs.Port.{input}
use Rattle.states.specs.State.{shut_at, holder_at, first_row, second_row, switch_row, head_row}
use Rattle.fabric.specs.Cycle.{Machine, machine}
use Rattle.records.specs.Record.{byte_at}

abbrev pub flags_of : State → List ℕ
flags_of s = bit s.waiting ∷ four (λ o. bit (shut_at s o))

abbrev pub row_bytes : List (List ℕ) → List ℕ
row_bytes rows = four (byte_at (first_row rows)) ++ four (byte_at (second_row rows)) ++ four (byte_at (switch_row rows)) ++ four (byte_at (head_row rows))

abbrev pub image_of : Machine → List ℕ
image_of m = flags_of m.state ++ four (holder_at m.state) ++ row_bytes m.rows

-- byte k stands for a flag
abbrev pub set : List ℕ → ℕ → Bool
set bytes k = not (eqb (byte_at bytes k) 0)

abbrev pub state_from : List ℕ → State
state_from bytes = record { waiting = set bytes 0; shut = four (λ o. set bytes (1 + o)); holders = four (λ o. input (byte_at bytes (5 + o))) }

abbrev pub row_from : List ℕ → ℕ → List ℕ
row_from bytes k = byte_at bytes k ∷ byte_at bytes (k + 1) ∷ byte_at bytes (k + 2) ∷ byte_at bytes (k + 3) ∷ []

abbrev pub rows_from : List ℕ → List (List ℕ)
rows_from bytes = row_from bytes 9 ∷ row_from bytes 13 ∷ row_from bytes 17 ∷ row_from bytes 21 ∷ []

abbrev pub machine_from : List ℕ → Machine
machine_from bytes = machine (state_from bytes) (rows_from bytes)
