use Rattle.routing.proofs.Decisions.{reports, reports_none}
use Rattle.routing.proofs.route.reported.Goals as goal

pub returns-then-routes : goal.returns-then-routes
returns-then-routes c = reports _ _ _ c.routes.ensures c.if-routes.true c.outcomes_of.ensures

pub returns-else-routes : goal.returns-else-routes
returns-else-routes c = reports_none _ _ _ c.routes.ensures c.if-routes.false
