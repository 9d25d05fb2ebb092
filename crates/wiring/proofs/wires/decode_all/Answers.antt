use borrow.Author.Rules.{rules}
use Rattle.wiring.specs.Wiring.{decoding}
use Rattle.words.proofs.Rows.{map_at}
use Rattle.wiring.proofs.wires.decode_all.Goals as goal

pub returns : goal.returns
returns c = map_at _ (decoding) _ (λ x y q k. search rules) 0 c.map.ensures.items
