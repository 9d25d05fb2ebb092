use Rattle.std.proofs.Common.{◌≡◌, ◌∙◌, sym, ap, arith, length, ◌/◌}
use Rattle.routing.specs.Header.{some_active}
use Rattle.fabric.specs.declared.cycle.Inputs.{Inputs}
use Rattle.places.specs.Capture.{records, inputs_in}
use Rattle.frames.specs.Reading.{rows_sent}
use Rattle.frames.proofs.Searches.{found, passed, none}
use Rattle.frames.proofs.reading.header_record.Goals as goal

pub returns-then-routes : goal.returns-then-routes
returns-then-routes c =
    let frame = c.args.frame.now in
    let l = c.loop-k in
    l.invariant ∙ found (λ j. (inputs_in frame j).bytes) (records frame) l.k c.loop-k-test.true (ap (λ (x : Inputs). some_active x.bytes) (sym c.inputs_at-i.ensures) ∙ sym c.routes.ensures ∙ c.if-routes.true)

pub loop-k-preserved : goal.loop-k-preserved
loop-k-preserved c =
    let frame = c.args.frame.now in
    let l = c.loop-k in
    l.invariant ∙ passed (λ j. (inputs_in frame j).bytes) (records frame) l.k c.loop-k-test.true (ap (λ (x : Inputs). some_active x.bytes) (sym c.inputs_at-i.ensures) ∙ sym c.routes.ensures ∙ c.if-routes.false)

pub returns : goal.returns
returns c =
    let frame = c.args.frame.now in
    let all : c.loop-k.k ≡ length frame / 5 = omega (arith, c.loop-k.auto.k-end, c.loop-k-test.false) in
    c.loop-k.invariant ∙ none (λ j. (inputs_in frame j).bytes) (records frame) _ c.loop-k-test.false ∙ ap (rows_sent frame) all
