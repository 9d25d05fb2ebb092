use Rattle.places.specs.Capture.{records}
use Rattle.text.proofs.Pages.{Ahead}
use Rattle.heads.specs.Shown.{head_text}
use Rattle.heads.proofs.Shows.{left}
use Rattle.heads.proofs.shown.put_shown.Given as goal

abbrev pub invariant-loop-k : goal.invariant-loop-k
invariant-loop-k l = Ahead l.initial.page (head_text l.answers l.head.0) l.page (left l.answers l.head.0 (records l.answers) l.k)
