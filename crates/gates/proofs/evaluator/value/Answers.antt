use mathlib.Core.Path.{sym, ◌∙◌}
use Rattle.gates.proofs.Limits.{fits, input_below}
use Rattle.gates.proofs.Values.{early_passed, early_value, value_of_lem}
use Rattle.gates.proofs.evaluator.value.Goals as goal

pub run-requires : goal.run-requires
run-requires c =
    let ok = early_passed _ _ _ c.in-Ok.ensures in (fits _ _ _ ok, input_below _ _ _ ok)

pub returns-in-Ok : goal.returns-in-Ok
returns-in-Ok c = c.run.ensures ∙ sym (value_of_lem _ _ _ (early_passed _ _ _ c.in-Ok.ensures))

pub returns-in-Err : goal.returns-in-Err
returns-in-Err c = early_value _ _ _ _ c.in-Err.ensures
