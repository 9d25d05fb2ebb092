-- The refusals of the evaluator as its answers show them: by number, and by index where a word is refused.
use Rattle.std.specs.Prelude.{◌≡◌, ℕ, Option, Some, None, Result, Ok, Err, unwrap_or}
use Rattle.gates.specs.declared.refusal.Refusal.{Refusal}
use Rattle.gates.specs.declared.refusal.Refusal.TheVariants.{OutsideLimits, WrongWord, LateWord, BitAbove}
use Rattle.gates.specs.Evaluation.{Evaluated, Fault, fault, refused, done}

abbrev pub number_of : Refusal → ℕ
number_of OutsideLimits = 10
number_of (WrongWord i) = 11
number_of (LateWord i) = 12
number_of BitAbove = 13

abbrev pub index_of : Refusal → Option ℕ
index_of OutsideLimits = None
index_of (WrongWord i) = Some i
index_of (LateWord i) = Some i
index_of BitAbove = None

-- a test's answer: number 0 where nothing is wrong, index 0 where no word is
abbrev pub fault_in : Result (Unit {0}) Refusal → Fault
fault_in (Ok u) = fault 0 0
fault_in (Err r) = fault (number_of r) (unwrap_or (index_of r) 0)

-- the evaluator's answer
abbrev pub answered : Result ℕ Refusal → Evaluated
answered (Ok value) = done value
answered (Err r) = refused (number_of r) (unwrap_or (index_of r) 0)

-- no two answers look alike
abbrev pub OneAnswer : Type 0
OneAnswer = (r s : Result ℕ Refusal) → answered r ≡ answered s → r ≡ s
