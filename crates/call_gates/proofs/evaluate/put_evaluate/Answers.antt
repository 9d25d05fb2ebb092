use mathlib.Core.Path.{sym, ap, ◌∙◌}
use native.Mathlib.Omega.{arith}
use lib.Seq.{length-take-le}
use Rattle.text.proofs.Pages.{spelt}
use Rattle.call_gates.specs.Evaluate.{evaluated_text, evaluate_line}
use Rattle.call_gates.proofs.Words.{fitted, evaluated_by}
use Rattle.call_gates.proofs.evaluate.put_evaluate.Goals as goal

pub overflow_sub-n : goal.overflow_sub-n
overflow_sub-n c = (fitted c.args.payload.now (sym c.fits.ensures ∙ c.if-not-fits.false)).0

pub words_from-words-requires : goal.words_from-words-requires
words_from-words-requires c = (fitted c.args.payload.now (sym c.fits.ensures ∙ c.if-not-fits.false)).1

pub slice_bounds-words-end : goal.slice_bounds-words-end
slice_bounds-words-end c = omega (arith, c.words_from-words.ensures.1, (fitted c.args.payload.now (sym c.fits.ensures ∙ c.if-not-fits.false)).1)

pub slice_bounds-evaluate-end : goal.slice_bounds-evaluate-end
slice_bounds-evaluate-end c = sym (length-take-le _ c.words_from-words.result (omega (arith, c.words_from-words.ensures.1, (fitted c.args.payload.now (sym c.fits.ensures ∙ c.if-not-fits.false)).1)))

pub returns-then-not-fits : goal.returns-then-not-fits
unfolding evaluate_line
returns-then-not-fits c = spelt c.put_text.ensures rw (sym c.fits.ensures ∙ c.if-not-fits.true)

pub returns : goal.returns
unfolding evaluate_line
returns c =
    spelt c.put_evaluated.ensures
    (ap evaluated_text (c.evaluate.ensures ∙ evaluated_by c.words_from-words.ensures.0 c.long_at-inputs.ensures c.long_at-input.ensures)
    ∙ rw (sym c.fits.ensures ∙ c.if-not-fits.false))
