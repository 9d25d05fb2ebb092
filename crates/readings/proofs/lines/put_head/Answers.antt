use Rattle.std.proofs.Common.{◌∙◌}
use Rattle.text.proofs.Pages.{spelt}
use Rattle.routing.proofs.Equal.{two}
use Rattle.numerals.specs.Line.{head_line}
use Rattle.readings.proofs.Saids.{collected}
use Rattle.readings.proofs.lines.put_head.Goals as goal

pub returns : goal.returns
returns c =
    let a = c.args in
    let shown = collected a.answers.now a.head.0 c.requires c.new-shown.ensures.blank c.put_shown.ensures in
    spelt c.put_line.ensures (two (head_line a.head.0) c.text_due.ensures (c.text.ensures ∙ shown))
