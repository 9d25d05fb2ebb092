use Rattle.std.proofs.Common.{ap, rules}
use Rattle.text.proofs.Pages.{spelt}
use Rattle.listing.specs.Refusal.{refusal_line_any_index}
use Rattle.listing.proofs.refusal.put_refusal.Goals as goal

pub returns : goal.returns
returns c = spelt c.put_refusal_any_index.ensures (ap (refusal_line_any_index c.args.number) (search rules))
