use Rattle.std.proofs.Common.{◌≡◌}
use Rattle.text.proofs.Pages.{spelt}
use Rattle.comparison.specs.Both.{told}
use Rattle.verdict.specs.Verdict.{verdict_of, verdict_text}
use Rattle.verdict.proofs.Verdicts.{said_of}
use Rattle.readings.specs.Lines.{four_lines}
use Rattle.readings.proofs.Saids.{lines_said, differ_said, refused_said}
use Rattle.readings.proofs.answer.read_into.Goals as goal

pub returns-in-Ok-None-clause-writes : goal.returns-in-Ok-None-clause-writes
returns-in-Ok-None-clause-writes c =
    let said = four_lines c.args.input.now in
    let both = c.replay_both-b.ensures in
    said_of said both.both both.plain (spelt c.put_lines.ensures (lines_said said c.replay_both-b.result _ c.in-Ok-None.is-0 c.in-Ok-None.is-1))

pub returns-in_default-clause-writes : goal.returns-in_default-clause-writes
returns-in_default-clause-writes c =
    let said = four_lines c.args.input.now in
    let b = c.replay_both-b in
    let same : verdict_text (told b.result) b.new.plain ≡ verdict_of said (told b.result) b.new.plain =
    elim c.in_default.branch [
      | goal.in_default-via-in-Ok+in_default w ↦ differ_said said b.result _ w.in_default.is-1
      | goal.in_default-via-in_default w ↦ refused_said said b.result _ w.in_default.is-0
    ] in
    said_of said b.ensures.both b.ensures.plain (spelt c.put_verdict.ensures.writes same)
