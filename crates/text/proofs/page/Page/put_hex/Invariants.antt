use lib.ListN.{drop}
use Rattle.text.specs.Digits.{hexes}
use Rattle.text.proofs.Pages.{Ahead}
use Rattle.text.proofs.page.Page.put_hex.Given as goal

abbrev pub invariant-loop-b : goal.invariant-loop-b
invariant-loop-b l = Ahead l.initial.self (hexes l.bytes) l.self (hexes (drop l.b-index l.bytes))
