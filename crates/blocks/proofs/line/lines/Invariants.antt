use mathlib.Core.Path.{◌≡◌}
use lib.ListN.{take}
use Rattle.blocks.specs.Lines.{lines}
use Rattle.blocks.proofs.line.lines.Given as goal

abbrev pub invariant-loop-i : goal.invariant-loop-i
invariant-loop-i l = l.n ≡ lines (take l.i l.first)
