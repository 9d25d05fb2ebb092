use mathlib.Core.Path.{sym, ap, ◌∙◌}
use Prim.Native.Nat.{ℕ}
use Rattle.std.specs.Prelude.{Option, unwrap_or}
use Rattle.text.proofs.Pages.{spelt}
use Rattle.routing.proofs.Equal.{two}
use Rattle.gates.specs.Evaluation.{refused}
use Rattle.gates.specs.Refusals.{answered}
use Rattle.call_gates.specs.Evaluate.{evaluated_text}
use Rattle.call_gates.proofs.evaluate.put_evaluated.Goals as goal

pub returns-in-Err : goal.returns-in-Err
returns-in-Err c =
    let index = c.unwrap_or.ensures ∙ ap (λ (o : Option ℕ). unwrap_or o 0) c.index.ensures in
    spelt c.put_answer-in-Err.ensures (ap evaluated_text (two refused c.number.ensures index ∙ ap answered (sym c.in-Err.is)))
