use borrow.Author.Rules.{rules}
use Rattle.wiring.specs.Wiring.{requests_of, filtering}
use Rattle.words.proofs.Rows.{made_of}
use Rattle.wiring.proofs.wires.filter_all.Goals as goal

pub returns : goal.returns
returns c =
    let a = c.args in
    made_of _ (filtering (requests_of a.d)) _ 4 (λ i y q l k. search rules) c.from_fn.ensures.items
