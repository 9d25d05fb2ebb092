use Rattle.std.proofs.Common.{◌≡◌, ◌∙◌, refl, rules}
use Rattle.states.specs.Refusal.{number_of, number_in}
use Rattle.states.proofs.Refusals.{never_0}
use Rattle.capture.proofs.Fates.{number_14_7_8, number_1, number_4, number_2, no_number}
use Rattle.capture.proofs.refusal.check_early.Goals as goal

pub returns-in_err-check : goal.returns-in_err-check
returns-in_err-check c =
    let e : number_in c.from_residual.result ≡ number_of c.in_err-check.field-0.0 = search rules in
    e ∙ number_14_7_8 _ _ _ c.in_err-check.ensures (never_0 _)

pub returns-then-capture-ne0 : goal.returns-then-capture-ne0
returns-then-capture-ne0 c = number_1 _ _ _ c.in_ok-check.ensures refl c.if-capture-ne0.true

pub returns-then-capture-gt-LIMIT : goal.returns-then-capture-gt-LIMIT
returns-then-capture-gt-LIMIT c = number_4 _ _ _ c.in_ok-check.ensures refl c.if-capture-ne0.false c.if-capture-gt-LIMIT.true

pub returns-then-room-capture : goal.returns-then-room-capture
returns-then-room-capture c =
    number_2 _ _ _ c.in_ok-check.ensures refl c.if-capture-ne0.false c.if-capture-gt-LIMIT.false c.if-room-capture.true

pub returns : goal.returns
returns c =
    no_number _ _ _ c.in_ok-check.ensures refl c.if-capture-ne0.false c.if-capture-gt-LIMIT.false c.if-room-capture.false
