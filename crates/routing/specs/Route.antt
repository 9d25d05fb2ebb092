-- Rules 3 and 4: whether a routing happens, what it decides for each output, and the report.
use Rattle.std.specs.Prelude.{Bool, cond, ◌&&◌, List, ℕ, ◌-◌}
use Rattle.routing.specs.declared.route.Outcome.{Outcome}
use Rattle.routing.specs.declared.route.Outcome.TheVariants.{Quiet, Won}
use Rattle.routing.specs.declared.route.Outcomes.{Outcomes}
use Rattle.routing.specs.declared.route.Report.{Report}
use Rattle.routing.specs.declared.route.Report.TheVariants.{NoRouting, Routing}
use Rattle.routing.specs.Four.{some, count}
use Rattle.routing.specs.Header.{asker, high_asker, some_active}
use Rattle.routing.specs.Turn.{in_turn}
use Rattle.routing.specs.declared.port.Input.{Input}
use Rattle.routing.specs.Port.{input, holder_in}

-- output o is asked for by somebody; in the high class
abbrev pub asked : List ℕ → ℕ → Bool
asked headers o = some (asker headers o)

abbrev pub asked_high : List ℕ → ℕ → Bool
asked_high headers o = some (high_asker headers o)

-- input i asks for output o and is not set aside: where one of o's askers is in the high class, only such askers remain
abbrev pub remains : List ℕ → ℕ → ℕ → Bool
remains headers o i = cond (asked_high headers o) (high_asker headers o i) (asker headers o i)

-- rule 4: the new holder of an output that is asked for, from its old holder h
abbrev pub winner : List ℕ → ℕ → ℕ → ℕ
winner headers o h = in_turn (remains headers o) h

-- rule 3: a routing happens exactly if the phase is waiting and some header is active
abbrev pub routes : Bool → List ℕ → Bool
routes waiting headers = waiting && some_active headers

-- how many askers are turned away, low ones counted: all but the winner
abbrev pub turned_away_of : List ℕ → ℕ → ℕ
turned_away_of headers o = count (asker headers o) - 1

-- The report: no routing, or for each output either quiet or the winner and how many were turned away.
unfoldable pub decided : List ℕ → ℕ → ℕ → Outcome
decided headers o h = cond (asked headers o) (Won (input (winner headers o h)) (turned_away_of headers o)) Quiet

abbrev pub outcomes : List Input → List ℕ → Outcomes
outcomes holders headers = record {
  output0 = decided headers 0 (holder_in holders 0).0;
  output1 = decided headers 1 (holder_in holders 1).0;
  output2 = decided headers 2 (holder_in holders 2).0;
  output3 = decided headers 3 (holder_in holders 3).0;
}

unfoldable pub reported : Bool → List Input → List ℕ → Report
reported waiting holders headers = cond (routes waiting headers) (Routing (outcomes holders headers)) NoRouting
