use Rattle.listing.specs.Listing.{listing}
use Rattle.verdict.proofs.Inputs.{as_zeros, both_said}
use Rattle.verdict.proofs.program.replay_by_both.Goals as goal

pub returns : goal.returns
returns c =
    let kept = c.kept-capture in
    let few = kept.ensures.1 in
    let capture = kept.result.now in
    let e = both_said listing capture _ _ _ (as_zeros capture few) (as_zeros capture few) kept.ensures.0 (c.replay_into.ensures.agreed, c.replay_into.ensures.writes) in
    record { agreed = e.0; writes = e.1 }
