use mathlib.Core.List.{[], ◌∷◌}
use Rattle.blocks.specs.Decode.{decoded}
use Rattle.blocks.proofs.Reading.{eight_nets}
use Rattle.blocks.proofs.decode.decoded.Goals as goal

pub returns : goal.returns
unfolding decoded
returns c =
    eight_nets c.nets-v.ensures (λ h a. record { high = h; asks = a }) (6 ∷ 7 ∷ 8 ∷ 9 ∷ []) (10 ∷ 11 ∷ 12 ∷ 13 ∷ []) c.four_nets.ensures c.four_nets-2.ensures
