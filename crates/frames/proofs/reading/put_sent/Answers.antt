use Rattle.std.proofs.Common.{ap, [], ◌∷◌, ℕ}
use Rattle.text.proofs.Pages.{went_on, ended, spelt}
use Rattle.frames.specs.Reading.{sent_by}
use Rattle.frames.proofs.Lists.{listed_next, listed_none}
use Rattle.frames.proofs.reading.put_sent.Goals as goal

pub loop-k-preserved : goal.loop-k-preserved
loop-k-preserved c =
    let l = c.loop-k in
    let a = c.args in
    let byte = ap (λ (x : ℕ). x ∷ []) c.sent_at.ensures in
    went_on l.invariant (listed_next (sent_by a.frame.now a.input) l.k a.end c.loop-k-test.true) (spelt c.put_byte.ensures byte)

pub returns : goal.returns
returns c = ended c.loop-k.invariant (listed_none _ _ _ c.loop-k-test.false)
