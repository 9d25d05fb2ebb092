use Rattle.std.proofs.Common.{ap}
use Rattle.states.specs.Refusal.{number_in}
use Rattle.listing.specs.Listing.{listing}
use Rattle.text.proofs.Pages.{spelt}
use Rattle.verdict.proofs.Verdicts.{done_text, refusal_said}
use Rattle.verdict.proofs.said.put_outcome.Goals as goal

pub returns-in-Ok : goal.returns-in-Ok
returns-in-Ok c = spelt c.put_listing.ensures (done_text listing _ _ _ (ap number_in c.in-Ok.is))

pub returns-in-Err : goal.returns-in-Err
returns-in-Err c = spelt c.put_refusal.ensures (refusal_said listing _ _ c.in-Err.is c.number.ensures c.index.ensures)
