use Rattle.std.proofs.Common.{arith, ◌≡◌, ◌∙◌, ap, ℕ, not, ◌^◌, bit_and}
use Rattle.std.proofs.lemmas.Grind.{common_steps}
use lib.Dec.{eqb}
use Rattle.routing.specs.Four.{four, bit_at}
use Rattle.routing.proofs.Equal.{row_of}
use Rattle.orders.proofs.Places.{set_bit}
use Rattle.orders.proofs.order.acks_in.Goals as goal

pub returns : goal.returns
returns c =
    let b = c.byte_at-b.result in
    let e : c.map.result ≡ four (λ o. not (eqb (bit_and b (2 ^ o)) 0)) = grind (arith, common_steps) in
    e ∙ row_of (set_bit b 0) (set_bit b 1) (set_bit b 2) (set_bit b 3) ∙ ap (λ (x : ℕ). four (λ o. bit_at o x)) c.byte_at-b.ensures
