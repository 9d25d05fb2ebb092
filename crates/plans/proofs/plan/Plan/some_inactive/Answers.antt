use Rattle.std.proofs.Common.{arith, rules, ◌∙◌, List, ℕ, Bor}
use borrow.Author.Tests.{tests}
use Rattle.std.proofs.lemmas.Iterator.{YieldsList-from_slice}
use Rattle.std.proofs.lemmas.Iterator.Search.{any_from_yields_List}
use Rattle.plans.specs.Refusal.{header_inactive}
use Rattle.plans.proofs.Cells.{any_cell}
use Rattle.plans.proofs.plan.Plan.some_inactive.Goals as goal

pub returns : goal.returns
returns c =
    let p = c.args.self.now in
    any_from_yields_List (λ (cell : Bor (List ℕ)). header_inactive cell.now) _ _ _ c.any.ensures.ran (YieldsList-from_slice p.cells cc) (λ x b q k. search (rules, tests))
    ∙ any_cell header_inactive p.cells (omega arith)
