-- Two values that equal a third are equal. Assumes nothing.
use mathlib.Core.Path.{sym, ◌∙◌}
use Rattle.promises.specs.Settled.{OneAnswer}

pub one_answer : OneAnswer
one_answer A settled one other p q = p ∙ sym q
