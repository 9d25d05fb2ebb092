use Rattle.frames.proofs.Searches.{Trimmed}
use Rattle.frames.proofs.reading.cell_end.Given as goal

abbrev pub invariant-loop-k : goal.invariant-loop-k
invariant-loop-k l = Trimmed l.frame l.input l.at l.k
