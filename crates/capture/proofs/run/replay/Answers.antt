use Rattle.std.proofs.Common.{◌≡◌, ◌∙◌, ap, sym, length}
use Rattle.capture.specs.Refusal.{Done, judged, judged_as}
use Rattle.states.proofs.States.{held}
use Rattle.capture.proofs.Fates.{doable}
use Rattle.capture.proofs.run.replay.Goals as goal

pub run-requires : goal.run-requires
run-requires g c =
    let a = c.args in
    let told : judged a.s a.capture.now (length a.buffer.now) ≡ Done = sym c.judge.ensures ∙ ap judged_as c.in-Ok.is in
    let d = doable _ _ _ told in (held _ d.accepted, d.fits)
