use Prim.Native.Nat.{ℕ}
use borrow.Author.Rules.{rules}
use Rattle.routing.specs.Four.{bit_at}
use Rattle.words.proofs.Rows.{map_at}
use Rattle.wiring.proofs.wires.bits.Goals as goal

pub returns : goal.returns
returns c = map_at _ (λ (x : ℕ). bit_at c.args.k x) _ (λ x y q k. search rules) 0 c.map.ensures.items
