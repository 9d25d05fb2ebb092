use mathlib.Core.Bool.{false}
use mathlib.Core.Path.{◌∙◌}
use mathlib.Core.List.{[]}
use lib.ListN.{get_or}
use borrow.Author.Rules.{rules}
use Rattle.routing.proofs.Equal.{two}
use Rattle.words.proofs.Rows.{map_at}
use Rattle.blocks.specs.declared.decode.Requests.{Requests}
use Rattle.blocks.specs.Filter.{filtered}
use Rattle.wiring.proofs.wires.filter.Goals as goal

pub returns : goal.returns
returns c =
    let o = c.args.o in
    let none : Requests = record { high = []; asks = [] } in
    let high = map_at _ (λ (r : Requests). get_or r.high o false) _ (λ x y q k. search rules) none c.map.ensures.items in
    let asks = map_at _ (λ (r : Requests). get_or r.asks o false) _ (λ x y q k. search rules) none c.map-2.ensures.items in
    c.filtered.ensures ∙ two filtered high asks
