use mathlib.Core.Path.{◌≡◌, ap}
use borrow.Author.Rules.{rules}
use Rattle.text.proofs.Pages.{◌then◌, spelt}
use Rattle.text.specs.Digits.{hexes}
use Rattle.parts.specs.Parts.{number_text}
use Rattle.call_gates.proofs.evaluate.put_answer.Goals as goal

pub returns : goal.returns
returns c =
    let is : c.from.result ≡ c.args.number = search rules in
    spelt c.put_number.ensures (ap number_text is)
    then c.put_number-2.ensures
    then spelt c.put_hex.ensures (ap hexes c.to_be_bytes.ensures)
    then c.put_byte.ensures
