use mathlib.Core.Path.{sym, ◌∙◌}
use Rattle.states.proofs.States.{refused_14, refused_7, refused_8, accepted}
use Rattle.states.proofs.state.check.Goals as goal

pub returns-then-holder_above : goal.returns-then-holder_above
returns-then-holder_above c = refused_14 _ (sym c.holder_above.ensures ∙ c.if-holder_above.true)

pub returns-then-open_while_waiting : goal.returns-then-open_while_waiting
returns-then-open_while_waiting c = refused_7 _ (sym c.holder_above.ensures ∙ c.if-holder_above.false) (sym c.open_while_waiting.ensures ∙ c.if-open_while_waiting.true)

pub returns-then-held_twice : goal.returns-then-held_twice
returns-then-held_twice c = refused_8 _ (sym c.holder_above.ensures ∙ c.if-holder_above.false) (sym c.open_while_waiting.ensures ∙ c.if-open_while_waiting.false) (sym c.held_twice.ensures ∙ c.if-held_twice.true)

pub returns : goal.returns
returns c = accepted _ (sym c.holder_above.ensures ∙ c.if-holder_above.false) (sym c.open_while_waiting.ensures ∙ c.if-open_while_waiting.false) (sym c.held_twice.ensures ∙ c.if-held_twice.false)
