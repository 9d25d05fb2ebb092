use Rattle.std.proofs.Common.{◌≡◌, position, zip, rules, tests}
use Rattle.std.proofs.lemmas.Iterator.{YieldsList-from_slice, YieldsList-from_zip}
use Rattle.std.proofs.lemmas.Iterator.Search.{position_from_yields_List}
use Rattle.text.proofs.Differences.{differ, by_position}
use Rattle.text.proofs.difference.first_difference.Goals as goal

pub returns : goal.returns
returns c =
    let a = c.args.a.now in
    let b = c.args.b.now in
    let inside : c.position-inside.result ≡ position differ (zip a b) =
    position_from_yields_List differ c.position-inside.new.self _ c.position-inside.result c.position-inside.ensures.ran (YieldsList-from_zip (YieldsList-from_slice a cc) (YieldsList-from_slice b cc)) (λ x b q k. search (rules, tests)) in
    cc (by_position a b)
