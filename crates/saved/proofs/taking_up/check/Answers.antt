use mathlib.Core.Path.{ap, ◌∙◌}
use Rattle.states.specs.State.{state_refusal}
use Rattle.saved.proofs.Keeps.{number_5, number_6, number_7_8}
use Rattle.saved.proofs.taking_up.check.Goals as goal

pub returns-then-b-ne-SAVED_LEN : goal.returns-then-b-ne-SAVED_LEN
returns-then-b-ne-SAVED_LEN c = number_5 _ c.if-b-ne-SAVED_LEN.true

pub returns-then-w-ne0 : goal.returns-then-w-ne0
returns-then-w-ne0 c = number_6 _ c.if-b-ne-SAVED_LEN.false c.word_in-w.ensures c.if-w-ne0.true

pub returns : goal.returns
returns c =
    c.check.ensures ∙ ap state_refusal c.state_in.ensures ∙ number_7_8 _ c.if-b-ne-SAVED_LEN.false c.word_in-w.ensures c.if-w-ne0.false
