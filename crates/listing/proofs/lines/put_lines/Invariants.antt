use Prim.Native.Nat.{◌-◌}
use Rattle.text.proofs.Pages.{Ahead}
use Rattle.places.specs.Capture.{records}
use Rattle.listing.specs.Listing.{lines_from}
use Rattle.listing.proofs.lines.put_lines.Given as goal

abbrev pub invariant-loop-k : goal.invariant-loop-k
invariant-loop-k l = Ahead l.initial.page (lines_from l.answers 0 (records l.answers)) l.page (lines_from l.answers l.k (records l.answers - l.k))
