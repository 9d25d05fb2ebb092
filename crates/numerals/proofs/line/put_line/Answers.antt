use Rattle.std.proofs.Common.{ap}
use Rattle.text.specs.Digits.{decimal}
use Rattle.text.proofs.Pages.{◌then◌, spelt}
use Rattle.numerals.specs.Line.{head_line}
use Rattle.numerals.proofs.line.put_line.Goals as goal

pub returns : goal.returns
unfolding head_line
returns c = spelt c.put_decimal.ensures (ap decimal c.from.ensures) then c.put_found.ensures then c.put_byte.ensures
