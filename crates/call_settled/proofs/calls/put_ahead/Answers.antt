use mathlib.Core.Path.{ap, ◌∙◌}
use mathlib.Core.List.{List}
use Prim.Native.Nat.{ℕ}
use borrow.Author.Tests.{eq-eqb}
use Rattle.text.proofs.Pages.{spelt}
use Rattle.routing.specs.Four.{four}
use Rattle.routing.proofs.Equal.{two}
use Rattle.states.specs.declared.state.State.{State}
use Rattle.fabric.specs.Cycle.{machine}
use Rattle.settled.specs.Ahead.{on_its_way}
use Rattle.call_settled.specs.Calls.{heads_text, ahead_line}
use Rattle.call_settled.proofs.calls.put_ahead.Goals as goal

pub returns : goal.returns
unfolding ahead_line
returns c =
    let heads = c.on_its_way.ensures ∙ two (λ (s : State) (rows : List (List ℕ)). four (on_its_way (machine s rows))) c.state_from-s.ensures c.rows_from-rows.ensures in
    spelt c.put_heads.ensures (ap heads_text heads ∙ rw (eq-eqb _ _ c.if-payload-ne25.false))
