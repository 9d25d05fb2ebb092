use mathlib.Core.Path.{sym, ◌∙◌}
use Rattle.gates.proofs.Loops.{fault_start, found_11, found_12, fault_again, none_found}
use Rattle.gates.proofs.evaluator.first_fault.Goals as goal

pub returns-then-wrong : goal.returns-then-wrong
returns-then-wrong c =
    found_11 _ _ _ c.loop-i.invariant c.loop-i-test.true (sym c.wrong.ensures ∙ c.if-wrong.true)

pub returns-then-late : goal.returns-then-late
returns-then-late c =
    found_12 _ _ _ c.loop-i.invariant c.loop-i-test.true
    (sym c.wrong.ensures ∙ c.if-wrong.false) (sym c.late.ensures ∙ c.if-late.true)

pub loop-i-preserved : goal.loop-i-preserved
loop-i-preserved c =
    fault_again _ _ _ c.loop-i.invariant c.loop-i-test.true
    (sym c.wrong.ensures ∙ c.if-wrong.false) (sym c.late.ensures ∙ c.if-late.false)

pub returns : goal.returns
returns c = none_found _ _ _ c.loop-i.invariant c.loop-i-test.false
