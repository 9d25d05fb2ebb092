use mathlib.Core.Path.{◌≡◌, ap, ◌∙◌}
use Prim.Native.Nat.{ℕ}
use lib.ListN.{length}
use borrow.Author.Rules.{rules}
use Rattle.gates.specs.Evaluation.{value_of}
use Rattle.blocks.proofs.Numbers.{eight_enough}
use Rattle.blocks.proofs.line.nets.Goals as goal

pub returns : goal.returns
returns c =
    let table = c.args.table.now in
    let bits = c.args.inputs.now in
    let fed : c.from.result ≡ c.lines.result = search rules in
    c.value.ensures ∙ ap (λ (x : ℕ). value_of table (length bits) x) (fed ∙ c.lines.ensures) ∙ eight_enough table bits
