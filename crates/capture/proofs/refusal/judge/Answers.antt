use Rattle.std.proofs.Common.{◌≡◌, ◌∙◌, refl, sym, ap, rules, arith}
use Prim.Native.Nat.{◌-◌}
use Rattle.records.specs.Record.{spare_set}
use Rattle.places.specs.Capture.{records}
use Rattle.states.specs.Refusal.{number_of, place_of}
use Rattle.capture.specs.Refusal.{Refused, first_bad, judged_as}
use Rattle.states.proofs.Refusals.{never_0}
use Rattle.places.proofs.Records.{first_byte}
use Rattle.capture.proofs.Bads.{found, passed, none}
use Rattle.capture.proofs.Fates.{refused_early, refused_3, done, early_place}
use Rattle.capture.proofs.refusal.judge.Goals as goal

pub returns-in_err-check_early : goal.returns-in_err-check_early
returns-in_err-check_early c =
    let why = c.in_err-check_early.field-0.0 in
    let e : judged_as c.from_residual.result ≡ Refused (number_of why) (place_of why) = search rules in
    e ∙ ap (Refused (number_of why)) (early_place _ _ _ why c.in_err-check_early.ensures) ∙ refused_early _ _ _ c.in_err-check_early.ensures (never_0 _)

pub returns-then-spare_set : goal.returns-then-spare_set
returns-then-spare_set c =
    let more = c.loop-at-test.true in
    refused_3 _ _ _ c.in_ok-check_early.ensures refl
    (found _ _ _ c.loop-at.invariant more (ap spare_set (first_byte _ _ more) ∙ sym c.spare_set.ensures ∙ c.if-spare_set.true)) more

pub loop-at-preserved : goal.loop-at-preserved
loop-at-preserved c =
    let more = c.loop-at-test.true in
    passed _ _ _ c.loop-at.invariant more (ap spare_set (first_byte _ _ more) ∙ sym c.spare_set.ensures ∙ c.if-spare_set.false)

pub returns : goal.returns
returns c =
    let past = c.loop-at-test.false in done _ _ _ c.in_ok-check_early.ensures refl (none _ _ _ c.loop-at.invariant past) past
