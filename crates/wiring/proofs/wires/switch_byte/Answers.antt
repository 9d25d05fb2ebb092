use mathlib.Core.Path.{ap, ◌∙◌}
use borrow.Author.Rules.{rules}
use lib.ListN.{take}
use mathlib.Core.Bool.{Bool}
use mathlib.Core.List.{List}
use Rattle.words.proofs.Rows.{made_of}
use Rattle.blocks.specs.Lines.{lines}
use Rattle.wiring.specs.Wiring.{choosing, switching}
use Rattle.wiring.proofs.wires.switch_byte.Goals as goal

pub returns : goal.returns
unfolding switching
returns c =
    let a = c.args in
    let each = made_of _ (choosing a.second a.lets) _ 8 (λ i y q l k. search rules) c.from_fn-byte.ensures.items in
    c.lines.ensures ∙ ap (λ (bs : List Bool). lines (take 8 bs)) each
