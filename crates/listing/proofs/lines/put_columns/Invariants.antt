use lib.ListN.{drop}
use Rattle.text.proofs.Pages.{Ahead}
use Rattle.listing.specs.Listing.{columns}
use Rattle.listing.proofs.lines.put_columns.Given as goal

abbrev pub invariant-loop-b : goal.invariant-loop-b
invariant-loop-b l = Ahead l.initial.page (columns l.bytes) l.page (columns (drop l.b-index l.bytes))
