-- Rules 1, 2, 5, 6 and 7, and a cycle.
use Rattle.std.specs.Prelude.{◌≡◌, Bool, true, false, cond, not, ◌&&◌, List, [], ◌∷◌, ℕ, eqb, get_or, Result, Ok, Err}
use Rattle.routing.specs.declared.port.Input.{Input}
use Rattle.states.specs.declared.state.State.{State}
use Rattle.routing.specs.declared.route.Report.{Report}
use Rattle.routing.specs.declared.route.Report.TheVariants.{NoRouting}
use Rattle.fabric.specs.declared.cycle.Inputs.{Inputs}
use Rattle.fabric.specs.declared.cycle.Moved.{Moved}
use Rattle.fabric.specs.declared.cycle.Cycled.{Cycled}
use Rattle.states.specs.declared.state.Refused.{Refused}
use Rattle.states.specs.Refusal.{number_of}
pub use Rattle.states.specs.declared.state.Machine.{Machine}
pub use Rattle.states.specs.State.{machine}
use Rattle.routing.specs.Four.{four, some}
use Rattle.routing.specs.Port.{input}
use Rattle.states.specs.State.{shut_at, holder_of, holder_at, first_row, second_row, switch_row, head_row, zero_row, state_refusal}
use Rattle.routing.specs.Route.{asked, winner, routes, reported}

-- rule 1: the shown head bytes
abbrev pub shown : Machine → List ℕ
shown m = head_row m.rows

-- rule 2: output o passes its acknowledgement on to input i; input i is acknowledged
abbrev pub passes : State → List Bool → ℕ → ℕ → Bool
passes s acks i o = not (shut_at s o) && eqb (holder_at s o) i && get_or acks o false

abbrev pub acked : State → List Bool → ℕ → Bool
acked s acks i = some (passes s acks i)

-- rules 3 and 4, as the cycle reports them
abbrev pub report : Machine → Report
report m = reported m.state.waiting m.state.holders (second_row m.rows)

-- rule 4: where no routing happens, and where nobody asks for the output, it keeps its holder
abbrev pub holder_after : Bool → List ℕ → ℕ → Input → Input
holder_after routing headers o h = cond (routing && asked headers o) (input (winner headers o h.0)) h

-- rule 5: waiting on a frame start; otherwise running after a routing; otherwise unchanged
abbrev pub waiting_after : Bool → Bool → Bool → Bool
waiting_after frameStart routing waiting = cond frameStart true (cond routing false waiting)

-- rule 6: shut on a frame start; otherwise open if a routing happened and the output was asked for; otherwise unchanged
abbrev pub shut_after : Bool → Bool → Bool → Bool
shut_after frameStart opening shut = cond frameStart true (cond opening false shut)

-- rules 4, 5 and 6 together; the headers are the second latches
unfoldable pub state_after : State → List ℕ → Bool → State
state_after s headers frameStart = record {
  waiting = waiting_after frameStart (routes s.waiting headers) s.waiting;
  shut = four (λ o. shut_after frameStart (routes s.waiting headers && asked headers o) (shut_at s o));
  holders = four (λ o. holder_after (routes s.waiting headers) headers o (holder_of s o));
}

-- rule 7: 0 if the output is shut, otherwise the second latch of its holder
abbrev pub switch_byte : Bool → ℕ → List ℕ → ℕ
switch_byte shut holder second = cond shut 0 (get_or second holder 0)

abbrev pub switch_after : State → List ℕ → ℕ → ℕ
switch_after s second o = switch_byte (shut_at s o) (holder_at s o) second

-- rule 7: each row moves on by one
unfoldable pub rows_after : State → List (List ℕ) → List ℕ → List (List ℕ)
rows_after s rows bytes = bytes ∷ first_row rows ∷ four (switch_after s (second_row rows)) ∷ switch_row rows ∷ []

-- One cycle: all rules read the state at the cycle's start.
abbrev pub stepped : Machine → Inputs → Machine
stepped m i = machine (state_after m.state (second_row m.rows) i.frame) (rows_after m.state m.rows i.bytes)

-- What a cycle leaves where the state is accepted: the answers, and the machine at the start of the next cycle; and with it the report
abbrev pub moved_of : Machine → Inputs → Moved
moved_of m i = record { acks = four (acked m.state i.acks); shown = shown m; machine = stepped m i }

abbrev pub step_of : Machine → Inputs → Cycled
step_of m i = record { report = report m; moved = moved_of m i }

-- What document 01 says that a single cycle answers: a number, 0 where it is done, the report, the acknowledgements, the shown head bytes, the machine.
pub record CycleAnswer : Type 0 where
  pub number : ℕ
  pub report : Report
  pub acks : List Bool
  pub shown : List ℕ
  pub machine : Machine

-- where the state is accepted
abbrev pub done_cycle : Cycled → CycleAnswer
done_cycle c = record { number = 0; report = c.report; acks = c.moved.acks; shown = c.moved.shown; machine = c.moved.machine }

-- and where it is refused: the number, no routing, zeros for answers, the state and the rows as given
abbrev pub refused_cycle : ℕ → Machine → CycleAnswer
refused_cycle n m = record { number = n; report = NoRouting; acks = four (λ i. false); shown = zero_row; machine = m }

-- a single cycle: refusals 14, 7, 8
abbrev pub cycle_of : Machine → Inputs → CycleAnswer
cycle_of m i = cond (eqb (state_refusal m.state) 0) (done_cycle (step_of m i)) (refused_cycle (state_refusal m.state) m)

-- the code's answer in document 01's words
abbrev pub cycle_answer : Result Cycled Refused → CycleAnswer
cycle_answer (Ok c) = done_cycle c
cycle_answer (Err r) = refused_cycle (number_of r.why) r.machine

-- What is told settles what was answered: two results that tell one cycle are the same.
abbrev pub CycleSettles : Type 0
CycleSettles = (m : Machine) (i : Inputs) (a b : Result Cycled Refused) → cycle_answer a ≡ cycle_of m i → cycle_answer b ≡ cycle_of m i → a ≡ b
