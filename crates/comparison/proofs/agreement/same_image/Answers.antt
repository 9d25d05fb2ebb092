use Rattle.std.proofs.Common.{eqb, ◌∙◌}
use lib.Pointwise.{pointwise}
use Rattle.routing.proofs.Equal.{two}
use Rattle.comparison.proofs.Agreements.{equal_by}
use Rattle.comparison.proofs.agreement.same_image.Goals as goal

pub returns : goal.returns
returns c = c.eq.ensures ∙ two (pointwise eqb) c.image_of.ensures c.image_of-2.ensures ∙ equal_by 0 _ _
