use Rattle.text.proofs.Pages.{spelt}
use Rattle.call_numerals.proofs.Payloads.{texts_missing, texts_there}
use Rattle.call_numerals.proofs.calls.put_piece.Goals as goal

pub returns-then-payload-n : goal.returns-then-payload-n
returns-then-payload-n c = spelt c.put_text.ensures (texts_missing c.args.payload.now c.word_at-n.ensures.0 c.if-payload-n.true)

pub returns : goal.returns
returns c = spelt c.put_found.ensures (texts_there c.args.payload.now c.word_at-n.ensures.0 c.if-payload-n.false)
