-- A replay's two endings: what a call hands back and what it leaves in the buffer, by what became of it. Replays by the rules and by the gates go by
-- them. Assumes nothing.
use mathlib.Core.Path.{◌≡◌, sym, ap, ◌∙◌}
use mathlib.Core.List.{List, ◌++◌}
use Prim.Native.Nat.{ℕ, ◌*◌}
use lib.ListN.{length, drop}
use Rattle.fabric.specs.Cycle.{Machine}
use Rattle.places.specs.Capture.{records}
use Rattle.capture.specs.Refusal.{Judged, Refused, Done, judged}
use Rattle.capture.specs.Replay.{Replayed, end_of, answers, handed_back, replayed_as, replay_of, written_as, replay_writes}

module _ (m : Machine) (capture buffer : List ℕ) {j : Judged} (is : j ≡ judged m.state capture (length buffer)) {r : Replayed} where
  pub ends_refused : {n k : ℕ} → j ≡ Refused n k → r ≡ handed_back n k m
      → (r ≡ replay_of m capture (length buffer)) × (buffer ≡ replay_writes m capture buffer)
  ends_refused told e =
      (e ∙ ap (λ (x : Judged). replayed_as x m capture) (sym told ∙ is), ap (λ (x : Judged). written_as x m capture buffer) (sym told ∙ is))

  pub ends_done : {l : List ℕ} → j ≡ Done → (r ≡ handed_back 0 0 (end_of m capture)) × (l ≡ answers m capture ++ drop (5 * records capture) buffer)
      → (r ≡ replay_of m capture (length buffer)) × (l ≡ replay_writes m capture buffer)
  ends_done told e =
      (e.0 ∙ ap (λ (x : Judged). replayed_as x m capture) (sym told ∙ is), e.1 ∙ ap (λ (x : Judged). written_as x m capture buffer) (sym told ∙ is))
