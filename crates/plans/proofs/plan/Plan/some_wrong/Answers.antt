use Rattle.std.proofs.Common.{arith, rules, ◌∙◌, List, ℕ, Bor}
use borrow.Author.Tests.{tests}
use Rattle.std.proofs.lemmas.Iterator.{YieldsList-from_slice}
use Rattle.std.proofs.lemmas.Iterator.Search.{any_from_yields_List}
use Rattle.plans.specs.Refusal.{body_wrong}
use Rattle.plans.proofs.Cells.{any_cell}
use Rattle.plans.proofs.plan.Plan.some_wrong.Goals as goal

pub returns : goal.returns
returns c =
    let p = c.args.self.now in
    any_from_yields_List (λ (cell : Bor (List ℕ)). body_wrong cell.now) _ _ _ c.any.ensures.ran (YieldsList-from_slice p.cells cc) (λ x b q k. search (rules, tests))
    ∙ any_cell body_wrong p.cells (omega arith)
