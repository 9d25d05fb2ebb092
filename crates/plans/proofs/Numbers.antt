-- The number of a refusal says all of it. Assumes nothing.
use mathlib.Core.Bool.{cond}
use mathlib.Core.Path.{◌≡◌, refl, sym, ap, ◌∙◌}
use Prim.Native.Nat.{ℕ}
use native.Mathlib.Omega.{arith}
use lib.Dec.{eqb}
use Rattle.std.specs.Prelude.{Result, Ok, Err}
use Rattle.plans.specs.declared.refusal.Refusal.{Refusal}
use Rattle.plans.specs.declared.refusal.Refusal.TheVariants.{OffLimits, HeaderInactive, BodyWrong, TooLate, NoRoom}
use Rattle.plans.specs.Refused.{number_of, refused_as, NumberSettles}

said_by : ℕ → Result (Unit {0}) Refusal
said_by n =
    cond (eqb n 20) (Err OffLimits)
    (cond (eqb n 21) (Err HeaderInactive)
    (cond (eqb n 22) (Err BodyWrong)
    (cond (eqb n 23) (Err TooLate)
    (cond (eqb n 24) (Err NoRoom)
    (Ok tt)))))

back : (a : Result (Unit {0}) Refusal) → said_by (refused_as a) ≡ a
unfolding said_by
back (Ok done) = refl
back (Err OffLimits) = refl
back (Err HeaderInactive) = refl
back (Err BodyWrong) = refl
back (Err TooLate) = refl
back (Err NoRoom) = refl

pub number_settles : NumberSettles
number_settles a b e = sym (back a) ∙ ap said_by e ∙ back b

-- no refusal has the number that says that nothing is refused
pub some_number : (refusal : Refusal) → number_of refusal ≡ 0 → ⊥
some_number OffLimits e = omega (arith, e)
some_number HeaderInactive e = omega (arith, e)
some_number BodyWrong e = omega (arith, e)
some_number TooLate e = omega (arith, e)
some_number NoRoom e = omega (arith, e)
