use mathlib.Core.Path.{sym, ap, ◌∙◌}
use Prim.Native.Nat.{ℕ}
use Rattle.std.specs.Prelude.{Option, unwrap_or}
use Rattle.routing.proofs.Equal.{two}
use Rattle.text.proofs.Pages.{spelt}
use Rattle.capture.specs.Replay.{Replayed, handed_back, replayed}
use Rattle.call_replay.specs.Replay.{replayed_text}
use Rattle.call_replay.proofs.replay.put_replayed.Goals as goal

pub returns-in-Err : goal.returns-in-Err
returns-in-Err c =
    let a = c.args in
    let m = c.in-Err.refused.machine in
    let index = c.unwrap_or-index.ensures ∙ ap (λ (o : Option ℕ). unwrap_or o 0) c.index.ensures in
    let same = two (λ (n k : ℕ). handed_back n k m) c.number.ensures index ∙ ap replayed (sym c.in-Err.is) in
    spelt c.put_handed_back-in-Err.ensures (ap (λ (t : Replayed). replayed_text t a.buffer.now) same)
