use Rattle.std.proofs.Common.{ℕ, ◌+◌, ◌-◌, List, sym, ap, ◌∙◌}
use Rattle.due.specs.Texts.{behind}
use Rattle.due.proofs.Behind.{one_passed, all_passed}
use Rattle.due.proofs.texts.behind.Goals as goal

pub loop-preserved : goal.loop-preserved
loop-preserved c =
    let l = c.loop in
    ap (λ (rest : List ℕ). behind rest (c.args.h - (l.counter + 1))) c.behind_text-rest.ensures ∙ one_passed _ _ _ c.loop-test.true ∙ l.invariant

pub returns : goal.returns
returns c = sym (all_passed _ c.args.h _ c.loop-test.false) ∙ c.loop.invariant
