-- Demand 3, from its parts. Assumes nothing.
use Rattle.runs.specs.Demand.{DemandThree}
use Rattle.runs.proofs.Accepting.{from_accepted}
use Rattle.runs.proofs.Opening.{opening, shutting}
use Rattle.runs.proofs.Winning.{winning}
use Rattle.runs.proofs.Reporting.{reporting}
use Rattle.runs.proofs.Holding.{holding, apart}
use Rattle.runs.proofs.Showing.{showing}
use Rattle.runs.proofs.Routings.{four_routings}

pub demand_3 : DemandThree
demand_3 r start =
    let ok = from_accepted r start in
    record {
      opening = opening r ok;
      shutting = shutting r ok;
      winning = winning r;
      reporting = reporting r;
      holding = holding r ok;
      apart = apart r ok;
      showing = showing r start;
      four_routings = four_routings r;
    }
