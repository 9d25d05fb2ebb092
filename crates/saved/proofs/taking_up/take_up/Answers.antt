use mathlib.Core.Path.{refl, sym, ap, ◌∙◌}
use native.Mathlib.Omega.{arith}
use Rattle.states.proofs.Calls.{answered, refused}
use Rattle.states.proofs.Refusals.{when_ok, when_err, never_0}
use Rattle.saved.specs.Saved.{TakenUp, not_taken_up}
use Rattle.saved.proofs.Keeps.{take_up_done}
use Rattle.saved.proofs.taking_up.take_up.Goals as goal

pub taken_up-requires : goal.taken_up-requires
taken_up-requires c = omega (arith, (take_up_done _ (sym (when_ok c.check.ensures c.in-Ok.is))).0)
