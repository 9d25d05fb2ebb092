use mathlib.Core.Bool.{not, ◌&&◌, ◌||◌, beq}
use mathlib.Core.Path.{ap}
use Rattle.routing.proofs.Equal.{two}
use Rattle.words.specs.Word.{made}
use Rattle.words.proofs.Counts.{carried, made_unknown, past_four, past_eight}
use Rattle.words.proofs.word.made.Goals as goal

pub returns-in-0 : goal.returns-in-0
unfolding made
returns-in-0 c = carried c.args.read.now c.in-0.is c.at-x.ensures

pub returns-in-1 : goal.returns-in-1
unfolding made
returns-in-1 c = carried c.args.read.now c.in-1.is (ap not c.at-x.ensures)

pub returns-in-2 : goal.returns-in-2
unfolding made
returns-in-2 c = carried c.args.read.now c.in-2.is c.every-all.ensures

pub returns-in-3 : goal.returns-in-3
unfolding made
returns-in-3 c = carried c.args.read.now c.in-3.is (ap not c.every-all.ensures)

pub returns-in-4 : goal.returns-in-4
unfolding made
returns-in-4 c = carried c.args.read.now c.in-4.is c.any-some.ensures

pub returns-in-5 : goal.returns-in-5
unfolding made
returns-in-5 c = carried c.args.read.now c.in-5.is (ap not c.any-some.ensures)

pub returns-in-6 : goal.returns-in-6
unfolding made
returns-in-6 c = carried c.args.read.now c.in-6.is (ap not (two beq c.at-x.ensures c.at-y.ensures))

pub returns-in-7 : goal.returns-in-7
unfolding made
returns-in-7 c = carried c.args.read.now c.in-7.is (ap not (ap not (two beq c.at-x.ensures c.at-y.ensures)))

pub returns-in-8 : goal.returns-in-8
unfolding made
returns-in-8 c =
    carried c.args.read.now c.in-8.is (two ◌||◌ (two ◌&&◌ c.at-x.ensures c.at-y.ensures) (two ◌&&◌ c.at.ensures c.at-in-8.ensures))

pub returns-in_default : goal.returns-in_default
returns-in_default c =
    let r = c.in_default.in_default-own.rest in
    made_unknown _ _
    (past_eight (past_four r.0.0.0.0.0.0.0.0.1 r.0.0.0.0.0.0.0.1 r.0.0.0.0.0.0.1 r.0.0.0.0.0.1 r.0.0.0.0.1) r.0.0.0.1 r.0.0.1 r.0.1 r.1)
