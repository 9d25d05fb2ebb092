-- C: a state and a record; the number, the state after, the answer record, the report. D: the same by the gates, which report nothing.
use Rattle.std.specs.Prelude.{Bool, cond, List, ◌++◌, ℕ, eqb, length, Option, Some, None}
use Rattle.text.specs.Ascii.{ascii}
use Rattle.text.specs.Digits.{decimal, hexes}
use Rattle.routing.specs.declared.route.Outcome.{Outcome}
use Rattle.routing.specs.declared.route.Outcome.TheVariants.{Quiet, Won}
use Rattle.routing.specs.declared.route.Outcomes.{Outcomes}
use Rattle.routing.specs.declared.route.Report.{Report}
use Rattle.routing.specs.declared.route.Report.TheVariants.{NoRouting, Routing}
use Rattle.fabric.specs.declared.cycle.Moved.{Moved}
use Rattle.fabric.specs.Cycle.{CycleAnswer, cycle_of}
use Rattle.records.specs.Record.{answer_bytes}
use Rattle.places.specs.Capture.{inputs_in}
use Rattle.engine.specs.Cycle.{GateAnswer, without_report}
use Rattle.image.specs.Image.{machine_from}
use Rattle.parts.specs.Parts.{number_text, state_text, malformed}
use Rattle.call_cycle.specs.declared.cycle.Asked.{Asked}

abbrev pub outcome_text : Outcome → List ℕ
outcome_text Quiet = ascii "-"
outcome_text (Won winner turned_away_of) = decimal winner.0 ++ ascii ":" ++ decimal turned_away_of

-- an outcome that stands behind another
abbrev pub next_text : Outcome → List ℕ
next_text o = ascii "," ++ outcome_text o

abbrev pub outcomes_text : Outcomes → List ℕ
outcomes_text os = outcome_text os.output0 ++ next_text os.output1 ++ next_text os.output2 ++ next_text os.output3

abbrev pub report_text : Report → List ℕ
report_text NoRouting = ascii "none"
report_text (Routing os) = outcomes_text os

-- number, state and answer record
abbrev pub cycled_text : GateAnswer → List ℕ
cycled_text t = number_text t.number ++ state_text t.machine ++ ascii " " ++ hexes (answer_bytes t.acks t.shown)

abbrev pub plain_text : CycleAnswer → List ℕ
plain_text t = cycled_text (without_report t) ++ ascii " " ++ report_text t.report ++ ascii "\n"

abbrev pub gates_text : GateAnswer → List ℕ
gates_text t = cycled_text t ++ ascii "\n"

-- the record stands behind the 25 bytes of the state, where record 5 of a capture would
abbrev pub asked : List ℕ → CycleAnswer
asked payload = cycle_of (machine_from payload) (inputs_in payload 5)

unfoldable pub cycle_line : List ℕ → Bool → List ℕ
cycle_line payload byGates =
    cond (eqb (length payload) 30) (cond byGates (gates_text (without_report (asked payload))) (plain_text (asked payload))) malformed

-- ---- for the parts of the code

-- a number beside what a cycle leaves
abbrev pub numbered : ℕ → Moved → GateAnswer
numbered n m = record { number = n; acks = m.acks; shown = m.shown; machine = m.machine }

-- what a payload asks for; nothing where it is malformed
abbrev pub asked_in : List ℕ → Option Asked
asked_in payload = cond (eqb (length payload) 30) (Some (record { machine = machine_from payload; inputs = inputs_in payload 5 })) None
