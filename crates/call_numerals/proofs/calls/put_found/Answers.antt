use mathlib.Core.Path.{ap}
use Rattle.text.proofs.Pages.{spelt, ◌then◌}
use Rattle.parts.specs.Parts.{bytes_text}
use Rattle.call_numerals.proofs.calls.put_found.Goals as goal

pub returns : goal.returns
returns c = c.put_place.ensures then spelt c.put_bytes.ensures (ap bytes_text c.piece.ensures) then c.put_byte.ensures
