-- Something is on its way to a head exactly if the head will show it.
use Rattle.std.specs.Prelude.{true, false, ◌≡◌, ◌↔◌, [], ◌∷◌, ℕ, ◌<◌}
use Rattle.routing.specs.Port.{input}
use Rattle.routing.specs.Four.{four}
use Rattle.states.specs.State.{zero_row}
use Rattle.fabric.specs.Cycle.{Machine, machine}
use Rattle.settled.specs.Ahead.{later_byte, on_its_way}

-- in some cycle head h shows a byte that is not zero, if nothing more is sent
pub record ShownLater (m : Machine) (h : ℕ) : Type 0 where
  pub cycle : ℕ
  pub shows : later_byte m h cycle ≡ 0 → ⊥

-- Of every machine, whatever its state and its rows.
abbrev pub OnItsWayExactly : Type 0
OnItsWayExactly = (m : Machine) (h : ℕ) → h < 4 → (on_its_way m h ≡ true) ↔ ShownLater m h

-- A machine with the 0 of 2.50 in the first latch of input 1, which holds head 2: it is on its way there and nowhere else.
abbrev pub last_byte_inside : Machine
last_byte_inside =
    machine (record { waiting = false; shut = true ∷ true ∷ false ∷ true ∷ []; holders = input 0 ∷ input 0 ∷ input 1 ∷ input 0 ∷ [] })
    ((0 ∷ 48 ∷ 0 ∷ 0 ∷ []) ∷ zero_row ∷ zero_row ∷ zero_row ∷ [])

abbrev pub OnItsWayThere : Type 0
OnItsWayThere = four (on_its_way last_byte_inside) ≡ (false ∷ false ∷ true ∷ false ∷ [])
