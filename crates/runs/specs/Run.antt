-- A run: the machine at the start of each cycle from 0 on, and the inputs of each cycle. Each machine follows from the one before it by the
-- cycle rules. In what follows r is a run, t a cycle, i an input and o an output.
use Rattle.std.specs.Prelude.{Bool, true, false, ◌≡◌, refl, List, ℕ, suc, get_or}
use Rattle.routing.specs.declared.route.Report.{Report}
use Rattle.routing.specs.Header.{some_active}
use Rattle.states.specs.State.{shut_at, holder_at, first_row, second_row, state_refusal}
use Rattle.states.specs.declared.state.State.{State}
use Rattle.fabric.specs.declared.cycle.Inputs.{Inputs}
use Rattle.fabric.specs.Cycle.{Machine, shown, acked, report, stepped}
use Rattle.fabric.specs.Run.{reset_machine, run_of}

pub record Run : Type 0 where
  pub at : ℕ → Machine
  pub ins : ℕ → Inputs
  pub steps : (t : ℕ) → at (suc t) ≡ stepped (at t) (ins t)

-- the run of any inputs from any machine
pub run_steps : (m : Machine) (ins : ℕ → Inputs) (t : ℕ) → run_of m ins (suc t) ≡ stepped (run_of m ins t) (ins t)
unfolding run_of
run_steps m ins t = refl

abbrev pub run_from : Machine → (ℕ → Inputs) → Run
run_from m ins = record { at = run_of m ins; ins = ins; steps = run_steps m ins }

-- a run starts from reset
abbrev pub FromReset : Run → Type 0
FromReset r = r.at 0 ≡ reset_machine

-- a call to which a state is handed accepts it: it is refused by none of 14, 7 and 8
abbrev pub Accepted : State → Type 0
Accepted s = state_refusal s ≡ 0

-- a run starts from a state that is accepted, of which reset is one
abbrev pub FromAccepted : Run → Type 0
FromAccepted r = Accepted (r.at 0).state

-- ---- what is seen from outside in cycle t

-- the byte that input i sends; some input sends an active bit, or none does
abbrev pub sent : Run → ℕ → ℕ → ℕ
sent r t i = get_or (r.ins t).bytes i 0

abbrev pub SomeActiveAt : Run → ℕ → Type 0
SomeActiveAt r t = some_active (r.ins t).bytes ≡ true

abbrev pub NoneActiveAt : Run → ℕ → Type 0
NoneActiveAt r t = some_active (r.ins t).bytes ≡ false

-- a frame start falls in cycle t, or none does
abbrev pub FrameStartAt : Run → ℕ → Type 0
FrameStartAt r t = (r.ins t).frame ≡ true

abbrev pub NoFrameStartAt : Run → ℕ → Type 0
NoFrameStartAt r t = (r.ins t).frame ≡ false

-- output o's acknowledgement is 1
abbrev pub AcknowledgedBy : Run → ℕ → ℕ → Type 0
AcknowledgedBy r t o = get_or (r.ins t).acks o false ≡ true

-- the byte that head o shows; the acknowledgement to input i; the report
abbrev pub head : Run → ℕ → ℕ → ℕ
head r t o = get_or (shown (r.at t)) o 0

abbrev pub ack : Run → ℕ → ℕ → Bool
ack r t i = acked (r.at t).state (r.ins t).acks i

abbrev pub report_at : Run → ℕ → Report
report_at r t = report (r.at t)

-- ---- what is kept inside at the start of cycle t

-- output o's holder; output o is shut, or open
abbrev pub holder : Run → ℕ → ℕ → ℕ
holder r t o = holder_at (r.at t).state o

abbrev pub Shut : Run → ℕ → ℕ → Type 0
Shut r t o = shut_at (r.at t).state o ≡ true

abbrev pub Open : Run → ℕ → ℕ → Type 0
Open r t o = shut_at (r.at t).state o ≡ false

-- the headers, which are the second latches
abbrev pub headers_at : Run → ℕ → List ℕ
headers_at r t = second_row (r.at t).rows

-- no active bit was sent in the cycle before the run's first: what was sent there stands in the first latches; from reset they are zeros
abbrev pub NoneActiveBeforeRun : Run → Type 0
NoneActiveBeforeRun r = some_active (first_row (r.at 0).rows) ≡ false
