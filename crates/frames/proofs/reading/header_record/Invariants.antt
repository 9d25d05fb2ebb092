use mathlib.Core.Path.{◌≡◌}
use Rattle.frames.specs.Reading.{rows_sent, from_header}
use Rattle.frames.proofs.reading.header_record.Given as goal

abbrev pub invariant-loop-k : goal.invariant-loop-k
invariant-loop-k l = from_header (rows_sent l.frame 0) ≡ from_header (rows_sent l.frame l.k)
