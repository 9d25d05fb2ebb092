-- What is on its way to a head: a byte that is not zero and that the head will show if nothing more is sent.
use Rattle.std.specs.Prelude.{Bool, false, not, ◌||◌, List, ℕ, eqb, get_or}
use Rattle.routing.specs.Four.{four, some}
use Rattle.states.specs.State.{zero_row}
use Rattle.fabric.specs.declared.cycle.Inputs.{Inputs}
use Rattle.fabric.specs.Cycle.{Machine, shown}
use Rattle.fabric.specs.Run.{run_of}

-- a quiet cycle: no frame start, four zero bytes, no acknowledgement
abbrev pub quiet_cycle : Inputs
quiet_cycle = record { frame = false; bytes = zero_row; acks = four (λ o. false) }

-- every cycle quiet
abbrev pub quiet : ℕ → Inputs
quiet k = quiet_cycle

-- the byte that head h shows in cycle k if nothing more is sent to the machine m
abbrev pub later_byte : Machine → ℕ → ℕ → ℕ
later_byte m h k = get_or (shown (run_of m quiet k)) h 0

-- one of the next four is not zero: the head byte, the switch byte, what the second latches bring, what the first latches bring
unfoldable pub on_its_way : Machine → ℕ → Bool
on_its_way m h = some (λ k. not (eqb (later_byte m h k) 0))

-- ---- for the parts of the code

-- at place h one of four rows has a byte that is not zero
abbrev pub some_shown : List ℕ → List ℕ → List ℕ → List ℕ → ℕ → Bool
some_shown a b c d h = not (eqb (get_or a h 0) 0) || not (eqb (get_or b h 0) 0) || not (eqb (get_or c h 0) 0) || not (eqb (get_or d h 0) 0)
