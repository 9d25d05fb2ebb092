-- Demand 3, of a run from reset, whatever its inputs.
use Rattle.runs.specs.Run.{Run, FromReset}
use Rattle.runs.specs.Opening.{Opening, Shutting}
use Rattle.runs.specs.Winning.{Winning, Reporting}
use Rattle.runs.specs.Holding.{Holding, Apart}
use Rattle.runs.specs.Showing.{Showing}
use Rattle.runs.specs.Routings.{FourRoutings}

-- Openings (with what shuts an output), the winner (with what the report says of it), the winner fixed while the output is open, no input with
-- two open outputs, each head byte's source, four routings in a row.
pub record Demand (r : Run) : Type 0 where
  pub opening : Opening r
  pub shutting : Shutting r
  pub winning : Winning r
  pub reporting : Reporting r
  pub holding : Holding r
  pub apart : Apart r
  pub showing : Showing r
  pub four_routings : FourRoutings r

abbrev pub DemandThree : Type 0
DemandThree = (r : Run) → FromReset r → Demand r
