use mathlib.Core.Path.{sym, ap}
use native.Mathlib.Omega.{arith}
use Rattle.words.specs.Word.{right_count}
use Rattle.words.proofs.Counts.{one_net, several_nets, two_nets, no_count}
use Rattle.words.proofs.word.right_count.Goals as goal

pub returns-in-0 : goal.returns-in-0
returns-in-0 c = one_net _ _ (omega arith)

pub returns-in-2-to-5 : goal.returns-in-2-to-5
returns-in-2-to-5 c = several_nets _ _ (omega arith) (omega arith)

pub returns-in-6 : goal.returns-in-6
returns-in-6 c = two_nets _ _ (omega arith) (omega arith)

pub returns-in-8 : goal.returns-in-8
unfolding right_count
returns-in-8 c = ap (λ k. right_count k c.args.n) (sym c.in-8.is)

pub returns-in_default : goal.returns-in_default
returns-in_default c = no_count _ _ (omega arith)
