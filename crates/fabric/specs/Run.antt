-- A run of cycles: `ins k` are the inputs of cycle k, and cycle 0 starts from the machine m.
use Rattle.std.specs.Prelude.{ℕ, zero, suc}
use Rattle.states.specs.State.{reset_state, reset_rows}
use Rattle.fabric.specs.declared.cycle.Inputs.{Inputs}
use Rattle.fabric.specs.Cycle.{Machine, machine, stepped}

-- reset, with its rows
abbrev pub reset_machine : Machine
reset_machine = machine reset_state reset_rows

-- the machine at the start of cycle k
unfoldable pub run_of : Machine → (ℕ → Inputs) → ℕ → Machine
run_of m ins zero = m
run_of m ins (suc k) = stepped (run_of m ins k) (ins k)
