use Rattle.std.proofs.Common.{◌≡◌, ◌∙◌, sym, ap, ℕ, ◌+◌, ◌-◌, ◌%◌, arith}
use Rattle.frames.proofs.Searches.{no_cell_here, begin, shorter, ended}
use Rattle.frames.proofs.reading.cell_end.Goals as goal

pub returns-then-sent_at-ne1 : goal.returns-then-sent_at-ne1
returns-then-sent_at-ne1 c =
    let a = c.args in
    (omega arith, no_cell_here a.frame.now a.input a.at (λ on. c.if-sent_at-ne1.true (ap (λ (x : ℕ). x % 2) c.sent_at.ensures ∙ on)))

pub loop-k-init : goal.loop-k-init
loop-k-init c =
    let a = c.args in begin a.frame.now a.input a.at (sym (ap (λ (x : ℕ). x % 2) c.sent_at.ensures) ∙ c.if-sent_at-ne1.false)

pub returns-then-sent_at-ne0 : goal.returns-then-sent_at-ne0
returns-then-sent_at-ne0 c =
    let a = c.args in
    let t = c.loop-k.invariant in
    let behind : c.loop-k.k - 1 + 1 ≡ c.loop-k.k = omega (arith, t.more) in
    rw behind (omega (arith, t.more), ended a.frame.now a.input a.at t (λ z. c.if-sent_at-ne0.true (c.sent_at-in-loop-k.ensures ∙ z)))

pub loop-k-preserved : goal.loop-k-preserved
loop-k-preserved c =
    let a = c.args in
    let on = sym (ap (λ (x : ℕ). x % 2) c.sent_at.ensures) ∙ c.if-sent_at-ne1.false in
    shorter a.frame.now a.input a.at on c.loop-k.invariant (sym c.sent_at-in-loop-k.ensures ∙ c.if-sent_at-ne0.false)
