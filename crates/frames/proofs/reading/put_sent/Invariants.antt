use Rattle.std.proofs.Common.{◌-◌}
use Rattle.text.proofs.Pages.{Ahead}
use Rattle.frames.specs.Reading.{sent_from}
use Rattle.frames.proofs.reading.put_sent.Given as goal

abbrev pub invariant-loop-k : goal.invariant-loop-k
invariant-loop-k l =
    Ahead l.initial.page (sent_from l.frame l.input l.at (l.end - l.at)) l.page (sent_from l.frame l.input l.k (l.end - l.k))
