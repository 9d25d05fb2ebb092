use Rattle.std.proofs.Common.{◌≡◌, ap, ◌∙◌, arith}
use Rattle.text.proofs.Pages.{nothing, spelt}
use Rattle.readings.proofs.Saids.{first_lines, one_more, all_four}
use Rattle.readings.proofs.lines.put_lines.Goals as goal

pub loop-h-init : goal.loop-h-init
unfolding first_lines
loop-h-init c = nothing _

pub loop-h-preserved : goal.loop-h-preserved
loop-h-preserved c = one_more _ _ _ c.loop-h.invariant c.put_head.ensures

pub returns : goal.returns
returns c = let end : c.loop-h.h ≡ 4 = omega arith in
    spelt c.loop-h.invariant (ap (first_lines c.args.input.now c.args.answers.now) end ∙ all_four _ _)
