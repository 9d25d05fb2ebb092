-- A flag that the library turns into a number is the bit that specs/ speak of. Assumes nothing.
use mathlib.Core.Bool.{Bool, true, false}
use mathlib.Core.Path.{◌≡◌, refl}
use Prim.Native.Nat.{◌≤◌}
use mir.Val.{bool_byte}
use Rattle.routing.specs.Four.{bit}
use Rattle.routing.proofs.Masks.{bit_le}

pub bit_is : (b : Bool) → bool_byte b ≡ bit b
bit_is true = refl
bit_is false = refl

pub flag_le : (b : Bool) → bool_byte b ≤ 1
flag_le true = bit_le true
flag_le false = bit_le false
