use mathlib.Core.Path.{ap}
use Rattle.text.proofs.Pages.{spelt}
use Rattle.call_replay.specs.State.{taken_up_text}
use Rattle.call_replay.proofs.state.put_take_up.Goals as goal

pub returns : goal.returns
returns c = spelt c.put_taken_up.ensures (ap taken_up_text c.take_up.ensures)
