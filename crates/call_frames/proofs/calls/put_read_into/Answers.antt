use Rattle.text.proofs.Pages.{spelt}
use Rattle.call_frames.proofs.Payloads.{read}
use Rattle.call_frames.proofs.calls.put_read_into.Goals as goal

pub returns : goal.returns
returns c =
    let a = c.args in
    spelt c.put_buffer.ensures (read a.payload.now a.buffer.now c.word_at-input.ensures.0 (c.read_cell-n.ensures.bytes, c.read_cell-n.ensures.writes))
