use Rattle.text.specs.Page.{Put}
use Rattle.readings.proofs.Saids.{first_lines}
use Rattle.readings.proofs.lines.put_lines.Given as goal

abbrev pub invariant-loop-h : goal.invariant-loop-h
invariant-loop-h l = Put l.initial.page (first_lines l.input l.answers l.h) l.page
