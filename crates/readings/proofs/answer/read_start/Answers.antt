use Rattle.std.proofs.Common.{sym, ◌∙◌}
use Rattle.text.proofs.Pages.{spelt}
use Rattle.verdict.proofs.Inputs.{as_zeros, both_said}
use Rattle.readings.specs.Lines.{four_lines}
use Rattle.readings.proofs.Saids.{always_25, cut_short_by, not_cut_short}
use Rattle.readings.proofs.answer.read_start.Goals as goal

pub returns-in-Err-clause-writes : goal.returns-in-Err-clause-writes
returns-in-Err-clause-writes c =
    spelt c.put_refusal.ensures (cut_short_by c.args.input.now _ (c.number.ensures ∙ always_25 _) (sym c.in-Err.ensures.refused))

pub returns-in-Ok : goal.returns-in-Ok
returns-in-Ok c =
    let given = c.in-Ok.ensures in
    let few = given.kept.1 in
    let said = both_said (four_lines c.args.input.now) _ _ _ _ (as_zeros _ few) (as_zeros _ few) given.kept.0 (c.read_into.ensures.agreed, c.read_into.ensures.writes) in
    record { agreed = said.0; writes = spelt said.1 (not_cut_short c.args.input.now _ (sym given.refused)) }
