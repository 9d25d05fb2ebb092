-- When an output opens, and when it shuts.
use Rattle.std.specs.Prelude.{◌↔◌, ℕ, suc, ◌<◌}
use Rattle.runs.specs.Run.{Run, FrameStartAt, NoFrameStartAt, Shut, Open}
use Rattle.runs.specs.Routing.{RoutingAt, AskedFor}

-- An output that is shut opens exactly if a routing happens at which it is asked for, and no frame start falls in that cycle. So after a
-- routing an output is open exactly if it was asked for and no frame start fell in that cycle.
pub record Opening (r : Run) : Type 0 where
  pub opens : (t o : ℕ) → o < 4 → Shut r t o → Open r (suc t) o ↔ (RoutingAt r t × AskedFor r t o × NoFrameStartAt r t)
  pub after_routing : (t o : ℕ) → o < 4 → RoutingAt r t → Open r (suc t) o ↔ (AskedFor r t o × NoFrameStartAt r t)

-- At a routing every output is shut. An output that is open shuts exactly on a frame start.
pub record Shutting (r : Run) : Type 0 where
  pub at_routing : (t o : ℕ) → o < 4 → RoutingAt r t → Shut r t o
  pub on_frame_start : (t o : ℕ) → o < 4 → Open r t o → Shut r (suc t) o ↔ FrameStartAt r t
