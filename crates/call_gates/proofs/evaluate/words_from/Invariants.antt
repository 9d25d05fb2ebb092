use mathlib.Core.Path.{◌≡◌}
use lib.ListN.{length, take}
use Rattle.call_gates.specs.Evaluate.{gate_words}
use Rattle.call_gates.proofs.evaluate.words_from.Given as goal

abbrev pub invariant-loop-i : goal.invariant-loop-i
invariant-loop-i l = (take l.i l.words ≡ gate_words l.payload l.i) × (128 ≡ length l.words)
