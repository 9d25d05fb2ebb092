use lib.ListN.{drop}
use Rattle.text.proofs.Pages.{Ahead}
use Rattle.text.proofs.page.Page.put_text.Given as goal

abbrev pub invariant-loop-b : goal.invariant-loop-b
invariant-loop-b l = Ahead l.initial.self l.text l.self (drop l.b-index l.text)
