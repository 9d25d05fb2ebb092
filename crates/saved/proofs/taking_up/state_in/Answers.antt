use mathlib.Core.Path.{refl}
use Rattle.states.proofs.Equal.{state_of}
use Rattle.saved.specs.Saved.{state_in}
use Rattle.saved.proofs.taking_up.state_in.Goals as goal

pub returns : goal.returns
unfolding state_in
returns c = state_of refl c.shut_in.ensures c.holders_in.ensures
