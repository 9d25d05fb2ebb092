use Rattle.listing.specs.Listing.{listing}
use Rattle.comparison.specs.Both.{told}
use Rattle.verdict.proofs.Verdicts.{said_by}
use Rattle.verdict.proofs.said.put_verdict.Goals as goal

pub returns-in-None-clause-writes : goal.returns-in-None-clause-writes
returns-in-None-clause-writes c = said_by listing (told c.args.b) _ c.in-None.is c.put_outcome.ensures

pub returns-in-Some-clause-writes : goal.returns-in-Some-clause-writes
returns-in-Some-clause-writes c = said_by listing (told c.args.b) _ c.in-Some.is c.put_difference.ensures
