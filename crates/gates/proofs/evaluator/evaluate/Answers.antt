use mathlib.Core.Path.{◌≡◌, ap, ◌∙◌}
use borrow.Author.Rules.{rules}
use Rattle.std.specs.Prelude.{Err}
use Rattle.gates.specs.Evaluation.{done}
use Rattle.gates.specs.Refusals.{answered}
use Rattle.gates.proofs.Limits.{fits, input_below}
use Rattle.gates.proofs.Values.{early_answered, early_passed, word_answered, value_answered}
use Rattle.gates.proofs.evaluator.evaluate.Goals as goal

pub returns-in_err-early_refusal : goal.returns-in_err-early_refusal
returns-in_err-early_refusal c =
    let r = c.in_err-early_refusal.field-0.0 in
    let is : c.from_residual.result ≡ Err r = search rules in
    ap answered is ∙ early_answered _ _ _ r c.in_err-early_refusal.ensures

pub first_fault-requires : goal.first_fault-requires
first_fault-requires c = fits _ _ _ (early_passed _ _ _ c.in_ok-early_refusal.ensures)

pub returns-in_err-first_fault : goal.returns-in_err-first_fault
returns-in_err-first_fault c =
    let r = c.in_err-first_fault.field-0.0 in
    let is : c.from_residual-in_err-first_fault.result ≡ Err r = search rules in
    ap answered is ∙ word_answered _ _ _ (early_passed _ _ _ c.in_ok-early_refusal.ensures) r c.in_err-first_fault.ensures

pub run-requires : goal.run-requires
run-requires c =
    let ok = early_passed _ _ _ c.in_ok-early_refusal.ensures in (fits _ _ _ ok, input_below _ _ _ ok)

pub returns : goal.returns
returns c =
    ap done c.run.ensures ∙ value_answered _ _ _ (early_passed _ _ _ c.in_ok-early_refusal.ensures) c.in_ok-first_fault.ensures
