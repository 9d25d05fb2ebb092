use mathlib.Core.List.{[], ◌∷◌}
use Rattle.ways.specs.Select.{selected}
use Rattle.blocks.proofs.Reading.{nets_of}
use Rattle.ways.proofs.select.selected.Goals as goal

pub returns : goal.returns
unfolding selected
returns c = nets_of c.nets-v.ensures (5 ∷ 6 ∷ 7 ∷ 8 ∷ []) c.four_nets.ensures
