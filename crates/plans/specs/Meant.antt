-- What the program's plan means: its cells are lent, and the plan holds their bytes.
use Rattle.std.specs.Prelude.{List, ℕ, map}
use Rattle.std.specs.Borrow.{Bor}
use Rattle.plans.specs.Plan.{Plan, planned}
use Rattle.plans.specs.declared.plan.Plan.{Plan as Lent}

abbrev pub cells_of : Lent → List (List ℕ)
cells_of p = map (λ (cell : Bor (List ℕ)). cell.now) p.cells

abbrev pub meant : Lent → Plan
meant p = planned p.gap p.cycles p.acks (cells_of p)
