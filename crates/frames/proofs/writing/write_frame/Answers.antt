use Rattle.std.proofs.Common.{refl, rules}
use Rattle.plans.specs.Meant.{meant}
use Rattle.frames.proofs.Buffers.{frame_written, from_start}
use Rattle.frames.proofs.writing.write_frame.Goals as goal

pub returns-clause-writes : goal.returns-clause-writes
returns-clause-writes c =
    frame_written (meant c.args.plan.now) c.args.out.now c.in_ok-check.ensures refl (from_start c.new.ensures.blank c.put_records.ensures (search rules))
