use mathlib.Core.Path.{◌≡◌, refl, sym, ap, ◌∙◌}
use Prim.Native.Nat.{ℕ}
use native.Mathlib.Omega.{arith}
use lib.ListN.{take, length-set}
use Rattle.call_gates.specs.Evaluate.{gate_words}
use Rattle.call_gates.proofs.Words.{next_word}
use Rattle.call_gates.proofs.evaluate.words_from.Goals as goal

pub loop-i-init : goal.loop-i-init
unfolding gate_words
loop-i-init c = (refl, refl)

pub loop-i-preserved : goal.loop-i-preserved
loop-i-preserved c =
    let l = c.loop-i in (
      next_word c.args.payload.now l.words l.i l.invariant.0 c.word_at.ensures.0 (omega (arith, c.loop-i-test.true, c.requires, l.invariant.1)),
      l.invariant.1 ∙ sym (length-set l.words l.i _),
    )

pub returns : goal.returns
returns c =
    let l = c.loop-i in
    let all : l.i ≡ c.args.n = omega arith in
    (ap (λ (j : ℕ). take j l.words) (sym all) ∙ l.invariant.0 ∙ ap (gate_words c.args.payload.now) all, l.invariant.1)
