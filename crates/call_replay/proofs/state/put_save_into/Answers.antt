use Rattle.std.proofs.Common.{◌≡◌, ◌∙◌, ap, length, arith}
use Rattle.std.proofs.lemmas.Grind.{common_steps}
use Rattle.routing.proofs.Equal.{two}
use Rattle.states.specs.declared.state.State.{State}
use Rattle.states.specs.Refusal.{number_in}
use Rattle.fabric.specs.Cycle.{Machine, machine}
use Rattle.saved.specs.Saved.{save_refusal, save_writes}
use Rattle.parts.specs.Parts.{buffer_text}
use Rattle.text.proofs.Pages.{spelt}
use Rattle.call_replay.proofs.state.put_save_into.Goals as goal

pub returns : goal.returns
returns c =
    let buffer = c.args.buffer.now in
    let s = c.state_from-s.ensures in
    let saved = c.save.ensures in
    let number : c.from.result ≡ number_in c.save.result = grind (arith, common_steps) in
    let told = number ∙ saved.number ∙ ap (λ (x : State). save_refusal x (length buffer)) s in
    let bytes = saved.writes ∙ ap (λ (x : Machine). save_writes x buffer) (two machine s c.rows_from-rows.ensures) in
    spelt c.put_buffer.ensures (two buffer_text told bytes)
