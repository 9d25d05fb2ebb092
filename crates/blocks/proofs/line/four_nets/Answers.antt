use Prim.Native.Nat.{ℕ}
use borrow.Author.Rules.{rules}
use Rattle.routing.specs.Four.{bit_at}
use Rattle.words.proofs.Rows.{map_at}
use Rattle.blocks.proofs.line.four_nets.Goals as goal

pub returns : goal.returns
returns c = map_at _ (λ (n : ℕ). bit_at n c.args.v) _ (λ x y q k. search rules) 0 c.map.ensures.items
