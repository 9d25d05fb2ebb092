-- What an answer says settles it. Assumes nothing.
use mathlib.Core.Bool.{Bool, cond}
use mathlib.Core.Path.{◌≡◌, refl, sym, ◌∙◌}
use Prim.Native.Nat.{ℕ}
use Rattle.std.specs.Prelude.{Result, Ok, Err}
use Rattle.routing.proofs.Equal.{two}
use Rattle.orders.specs.declared.words.LastLine.{LastLine}
use Rattle.orders.specs.Said.{written_by, length_by, SaidSettles}

said : Bool → ℕ → Result ℕ LastLine
said written n = cond written (Ok n) (Err (record { length = n }))

back : (a : Result ℕ LastLine) → said (written_by a) (length_by a) ≡ a
unfolding said
back (Ok n) = refl
back (Err line) = refl

pub said_settles : SaidSettles
said_settles a b w n = sym (back a) ∙ two said w n ∙ back b
