use mathlib.Core.Path.{◌≡◌, ap}
use borrow.Author.Rules.{rules}
use Rattle.text.proofs.Pages.{◌then◌, spelt}
use Rattle.fabric.specs.Cycle.{cycle_answer}
use Rattle.engine.specs.Cycle.{gate_answer, without_report}
use Rattle.call_cycle.specs.Cycle.{cycled_text, report_text}
use Rattle.call_cycle.proofs.cycle.put_plain.Goals as goal

pub returns : goal.returns
returns c =
    let t = cycle_answer c.args.t in
    let moved : gate_answer c.map.result ≡ without_report t = search rules in
    let report : c.map_or.result ≡ t.report = search rules in
    spelt c.put_moved.ensures (ap cycled_text moved)
    then c.put_byte.ensures
    then spelt c.put_report.ensures (ap report_text report)
    then c.put_byte-2.ensures
