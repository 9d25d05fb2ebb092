use Rattle.listing.specs.Listing.{listing}
use Rattle.verdict.proofs.Verdicts.{said_of}
use Rattle.verdict.proofs.program.replay_into.Goals as goal

pub returns-clause-writes : goal.returns-clause-writes
returns-clause-writes c = said_of listing c.replay_both-b.ensures.both c.replay_both-b.ensures.plain c.put_verdict.ensures.writes
