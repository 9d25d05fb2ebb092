use mathlib.Core.Path.{ap}
use Rattle.text.proofs.Pages.{◌then◌, spelt}
use Rattle.parts.specs.Parts.{number_text}
use Rattle.call_replay.proofs.replay.put_handed_back.Goals as goal

pub returns : goal.returns
returns c =
    spelt c.put_number.ensures (ap number_text c.from.ensures)
    then c.put_number-2.ensures
    then c.put_state.ensures
    then c.put_byte.ensures
    then c.put_bytes.ensures
    then c.put_byte-2.ensures
