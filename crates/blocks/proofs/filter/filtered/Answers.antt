use mathlib.Core.List.{[], ◌∷◌}
use Rattle.blocks.specs.Filter.{filtered}
use Rattle.blocks.proofs.Reading.{nets_of}
use Rattle.blocks.proofs.filter.filtered.Goals as goal

pub returns : goal.returns
unfolding filtered
returns c = nets_of c.nets-v.ensures (10 ∷ 13 ∷ 16 ∷ 19 ∷ []) c.four_nets.ensures
