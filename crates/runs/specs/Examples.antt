-- The words are met: document 01's replay, with a frame start added in cycle 11, is a well-formed frame; and three routings in a row are not
-- enough.
use Rattle.std.specs.Prelude.{true, false, ◌||◌, ◌≡◌, List, [], ◌∷◌, ℕ, ◌+◌, ◌<◌, eqb, get_or}
use Rattle.routing.specs.Four.{four}
use Rattle.states.specs.State.{zero_row}
use Rattle.fabric.specs.declared.cycle.Inputs.{Inputs}
use Rattle.fabric.specs.Run.{reset_machine}
use Rattle.runs.specs.Run.{Run, run_from, FromReset, head}
use Rattle.runs.specs.Routing.{InHighestClass, Wins}
use Rattle.runs.specs.Routings.{InARow}
use Rattle.runs.specs.Frame.{ActiveFrame}

-- Cycles 2 to 5 bring bytes, all others zeros; frame starts in cycles 0 and 11; output 1 acknowledges always.
abbrev pub worked_bytes : List (List ℕ)
worked_bytes =
    zero_row
    ∷ zero_row
    ∷ (0x05 ∷ 0x07 ∷ 0x0D ∷ 0x00 ∷ [])
    ∷ (0x32 ∷ 0x32 ∷ 0x31 ∷ 0x00 ∷ [])
    ∷ (0x39 ∷ 0x2E ∷ 0x30 ∷ 0x00 ∷ [])
    ∷ (0x39 ∷ 0x35 ∷ 0x34 ∷ 0x00 ∷ [])
    ∷ []

abbrev pub worked_inputs : ℕ → Inputs
worked_inputs t = record { frame = eqb t 0 || eqb t 11; bytes = get_or worked_bytes t zero_row; acks = four (eqb 1) }

abbrev pub worked : Run
worked = run_from reset_machine worked_inputs

-- its frame is active, with the header in cycle 2; input 1 wins output 1 and input 2 wins output 3
pub record WorkedFrame : Type 0 where
  pub active : ActiveFrame worked 0 2 11
  pub won_1 : Wins worked (2 + 2) 1 1
  pub won_3 : Wins worked (2 + 2) 2 3

-- so the theorem about frames gives each byte of its heads: in cycle 8 head 1 shows 0x2E, the point in the text 2.5 that input 1 sends
abbrev pub ThePoint : Type 0
ThePoint = head worked 8 1 ≡ 0x2E

-- An input that asks for an output at three routings in a row, each time in the highest class asking, and wins none of them.
pub record NoneOfThree (r : Run) : Type 0 where
  pub from_reset : FromReset r
  pub input : ℕ
  pub output : ℕ
  pub is_input : input < 4
  pub is_output : output < 4
  pub first : ℕ
  pub cycle : ℕ → ℕ
  pub row : InARow r 3 first cycle
  pub asks : (j : ℕ) → j < 3 → InHighestClass r (cycle j) input output
  pub loses : (j : ℕ) → j < 3 → Wins r (cycle j) input output → ⊥

-- a frame start in every cycle, and every input asks for output 0 in every cycle
abbrev pub crowd : Run
crowd = run_from reset_machine (λ t. record { frame = true; bytes = four (λ i. 1); acks = four (λ o. false) })

abbrev pub ThreeAreNotEnough : Type 0
ThreeAreNotEnough = NoneOfThree crowd
