-- The answers of a run of cycles.
use Rattle.std.specs.Prelude.{List, [], ◌++◌, ℕ, zero, suc}
use Rattle.fabric.specs.declared.cycle.Inputs.{Inputs}
use Rattle.routing.specs.Four.{four}
use Rattle.fabric.specs.Cycle.{Machine, shown, acked}
use Rattle.fabric.specs.Run.{run_of}
use Rattle.records.specs.Record.{answer_bytes}

-- a cycle's answer record
abbrev pub answer_of : Machine → Inputs → List ℕ
answer_of m i = answer_bytes (four (acked m.state i.acks)) (shown m)

-- the answer records of the first n cycles, one after the other
unfoldable pub answers_of : Machine → (ℕ → Inputs) → ℕ → List ℕ
answers_of m ins zero = []
answers_of m ins (suc n) = answers_of m ins n ++ answer_of (run_of m ins n) (ins n)
