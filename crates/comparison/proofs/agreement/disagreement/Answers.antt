use Rattle.std.proofs.Common.{◌∙◌}
use Rattle.comparison.proofs.Agreements.{bytes_differ, by_ends}
use Rattle.comparison.proofs.agreement.disagreement.Goals as goal

pub returns-in-Some : goal.returns-in-Some
returns-in-Some c = bytes_differ _ _ _ _ c.first_difference.ensures c.in-Some.is

pub returns-in-None : goal.returns-in-None
returns-in-None c = c.then_some.ensures ∙ by_ends _ _ _ _ c.first_difference.ensures c.in-None.is c.same_end.ensures
