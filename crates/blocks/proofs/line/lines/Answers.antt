use mathlib.Core.Path.{◌≡◌, ap, ◌∙◌}
use Prim.Native.Nat.{ℕ, ◌≤◌, min}
use native.Mathlib.Omega.{arith}
use lib.ListN.{length, take}
use Rattle.std.proofs.lemmas.List.{length-take, take_all, take_min}
use Rattle.blocks.specs.Lines.{lines}
use Rattle.blocks.proofs.Numbers.{added}
use Rattle.blocks.proofs.line.lines.Goals as goal

pub overflow_add-n : goal.overflow_add-n
overflow_add-n c =
    let first = take c.min.result c.args.bits.now in
    let few : length first ≤ 8 = omega (arith, length-take c.min.result c.args.bits.now, c.min.ensures) in
    record { fits = (added first c.loop-i.i c.loop-i-test.true few c.loop-i.invariant c.from.ensures).1 }

pub loop-i-preserved : goal.loop-i-preserved
loop-i-preserved c =
    let first = take c.min.result c.args.bits.now in
    let few : length first ≤ 8 = omega (arith, length-take c.min.result c.args.bits.now, c.min.ensures) in
    (added first c.loop-i.i c.loop-i-test.true few c.loop-i.invariant c.from.ensures).0
