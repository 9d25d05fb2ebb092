-- An answer of the evaluator can be read back from what it shows. Assumes nothing.
use mathlib.Core.Bool.{cond}
use mathlib.Core.Path.{◌≡◌, refl, sym, ap, ◌∙◌}
use Prim.Native.Nat.{ℕ}
use lib.Dec.{eqb}
use Rattle.std.specs.Prelude.{Result, Ok, Err}
use Rattle.gates.specs.declared.refusal.Refusal.{Refusal}
use Rattle.gates.specs.declared.refusal.Refusal.TheVariants.{OutsideLimits, WrongWord, LateWord, BitAbove}
use Rattle.gates.specs.Evaluation.{Evaluated}
use Rattle.gates.specs.Refusals.{answered, OneAnswer}

abbrev refusal_of : ℕ → ℕ → Refusal
refusal_of number index = cond (eqb number 10) OutsideLimits (cond (eqb number 11) (WrongWord index) (cond (eqb number 12) (LateWord index) BitAbove))

abbrev read_back : Evaluated → Result ℕ Refusal
read_back e = cond (eqb e.number 0) (Ok e.value) (Err (refusal_of e.number e.index))

as_shown : (r : Result ℕ Refusal) → read_back (answered r) ≡ r
as_shown (Ok value) = refl
as_shown (Err OutsideLimits) = refl
as_shown (Err (WrongWord i)) = refl
as_shown (Err (LateWord i)) = refl
as_shown (Err BitAbove) = refl

pub one_answer : OneAnswer
one_answer r s e = sym (as_shown r) ∙ ap read_back e ∙ as_shown s
