-- The numbers of the refusals, and of a result that refuses or does not: 0 where nothing is refused.
use Rattle.std.specs.Prelude.{◌≡◌, ℕ, Result, Ok, Err}
use Rattle.plans.specs.declared.refusal.Refusal.{Refusal}
use Rattle.plans.specs.declared.refusal.Refusal.TheVariants.{OffLimits, HeaderInactive, BodyWrong, TooLate, NoRoom}

abbrev pub number_of : Refusal → ℕ
number_of OffLimits = 20
number_of HeaderInactive = 21
number_of BodyWrong = 22
number_of TooLate = 23
number_of NoRoom = 24

abbrev pub refused_as : Result (Unit {0}) Refusal → ℕ
refused_as (Ok done) = 0
refused_as (Err refusal) = number_of refusal

-- The number says all of the result.
abbrev pub NumberSettles : Type 0
NumberSettles = (a b : Result (Unit {0}) Refusal) → refused_as a ≡ refused_as b → a ≡ b
