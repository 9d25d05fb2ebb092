use Rattle.std.proofs.Common.{◌≡◌, ◌∙◌, arith}
use Rattle.std.proofs.lemmas.Grind.{common_steps}
use Rattle.text.proofs.Pages.{spelt}
use Rattle.plans.specs.Refused.{refused_as}
use Rattle.call_frames.proofs.Payloads.{written}
use Rattle.call_frames.proofs.calls.put_write_into.Goals as goal

pub returns : goal.returns
returns c =
    let a = c.args in
    let w = c.write_order.ensures in
    let number : c.from.result ≡ refused_as c.write_order.result = grind (arith, common_steps) in
    spelt c.put_buffer.ensures (written a.payload.now a.buffer.now (number ∙ w.number, w.writes))
