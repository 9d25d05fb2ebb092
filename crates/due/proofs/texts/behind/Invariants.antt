use Rattle.std.proofs.Common.{◌≡◌, ◌-◌}
use Rattle.due.specs.Texts.{behind}
use Rattle.due.proofs.texts.behind.Given as goal

abbrev pub invariant-loop : goal.invariant-loop
invariant-loop l = behind l.rest (l.h - l.counter) ≡ behind l.input l.h
