-- The replay of a capture: the run of its records, from any machine handed in.
use Rattle.std.specs.Prelude.{List, ◌++◌, ℕ, ◌*◌, length, drop, Result, Ok, Err, ◌≡◌}
use Rattle.fabric.specs.Cycle.{Machine}
use Rattle.fabric.specs.Run.{run_of}
use Rattle.records.specs.Answers.{answers_of}
use Rattle.states.specs.declared.state.Refused.{Refused as Handed}
use Rattle.states.specs.Refusal.{number_of, place_of}
use Rattle.places.specs.Capture.{records, inputs_in}
use Rattle.capture.specs.Refusal.{Judged, Refused, Done, judged}

-- the machine after all records, and their answers
abbrev pub end_of : Machine → List ℕ → Machine
end_of m capture = run_of m (inputs_in capture) (records capture)

abbrev pub answers : Machine → List ℕ → List ℕ
answers m capture = answers_of m (inputs_in capture) (records capture)

-- What document 01 says that a replay hands back: number, index, the state with its rows.
pub record Replayed : Type 0 where
  pub number : ℕ
  pub index : ℕ
  pub machine : Machine

abbrev pub handed_back : ℕ → ℕ → Machine → Replayed
handed_back n k m = record { number = n; index = k; machine = m }

-- a refusal hands back the state and the rows as given
abbrev pub replayed_as : Judged → Machine → List ℕ → Replayed
replayed_as (Refused n k) m capture = handed_back n k m
replayed_as Done m capture = handed_back 0 0 (end_of m capture)

abbrev pub replay_of : Machine → List ℕ → ℕ → Replayed
replay_of m capture room = replayed_as (judged m.state capture room) m capture

-- the answer buffer: a refusal leaves it; otherwise only the answers' length is written
abbrev pub written_as : Judged → Machine → List ℕ → List ℕ → List ℕ
written_as (Refused n k) m capture buffer = buffer
written_as Done m capture buffer = answers m capture ++ drop (5 * records capture) buffer

abbrev pub replay_writes : Machine → List ℕ → List ℕ → List ℕ
replay_writes m capture buffer = written_as (judged m.state capture (length buffer)) m capture buffer

-- the code's answer in document 01's words
abbrev pub replayed : Result Machine Handed → Replayed
replayed (Ok m) = handed_back 0 0 m
replayed (Err r) = handed_back (number_of r.why) (place_of r.why) r.machine

-- They settle it: two answers that are told alike are the same.
abbrev pub ReplayedApart : Type 0
ReplayedApart = (a b : Result Machine Handed) → replayed a ≡ replayed b → a ≡ b
