use Rattle.text.specs.Page.{Put}
use Rattle.plans.specs.Meant.{meant}
use Rattle.frames.specs.Writing.{records_of}
use Rattle.frames.proofs.writing.put_records.Given as goal

abbrev pub invariant-loop-k : goal.invariant-loop-k
invariant-loop-k l =
    Put l.initial.page (records_of (meant l.plan) l.k) l.page
