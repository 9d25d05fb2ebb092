use Rattle.std.proofs.Common.{rules, tests, ◌≡◌, length, take, reverse, take_while}
use Rattle.std.proofs.lemmas.Iterator.Adapters.{YieldsList-from_rev_slice}
use Rattle.std.proofs.lemmas.Iterator.Consumers.{YieldsList-at, count_from_yields_List}
use Rattle.std.proofs.lemmas.Iterator.Search.{YieldsList-from_take_while}
use Rattle.numerals.specs.Numeral.{numeral}
use Rattle.numerals.proofs.Runs.{begins_by}
use Rattle.numerals.proofs.numeral.run_begins.Goals as goal

pub returns : goal.returns
returns c =
    let front = take c.args.k c.args.text.now in
    let n : c.count.result ≡ length (take_while numeral (reverse front)) =
    count_from_yields_List c.take_while.result c.count.result c.count.ensures.ran (YieldsList-from_take_while _ numeral (YieldsList-at c.take_while.ensures.source (YieldsList-from_rev_slice front cc)) c.take_while.ensures.closure c.take_while.ensures.done (λ x b q k. search (rules, tests))) in
    begins_by c.args.text.now c.args.k c.requires n
