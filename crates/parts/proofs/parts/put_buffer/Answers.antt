use Rattle.text.proofs.Pages.{◌then◌}
use Rattle.parts.proofs.parts.put_buffer.Goals as goal

pub returns : goal.returns
returns c = c.put_number.ensures then c.put_bytes.ensures then c.put_byte.ensures
