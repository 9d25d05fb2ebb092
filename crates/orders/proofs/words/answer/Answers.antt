use Rattle.std.proofs.Common.{ap, ◌∙◌, ◌*◌, refl, length, sym, rules}
use borrow.Author.Tests.{tests, eqb-false}
use Rattle.plans.specs.Plan.{Plan, te}
use Rattle.plans.specs.Refusal.{write_refusal}
use Rattle.plans.proofs.Numbers.{some_number}
use Rattle.frames.specs.Writing.{frame_writes}
use Rattle.frames.proofs.Buffers.{from_start}
use Rattle.orders.proofs.Answers.{none_left, cut, refused, done}
use Rattle.orders.proofs.words.answer.Goals as goal

pub returns-then-is_empty : goal.returns-then-is_empty
returns-then-is_empty c =
    let a = c.args in
    let e = none_left a.order.now a.k a.out.now (search (rules, tests)) in
    record { written = e.0; text = e.1 }

pub returns-then-order-order_size : goal.returns-then-order-order_size
returns-then-order-order_size c =
    let a = c.args in
    let some = eqb-false _ _ (sym c.is_empty.ensures ∙ c.if-is_empty.false) in
    let e = cut a.order.now a.k a.out.now some c.order_size.ensures.0 c.if-order-order_size.true (from_start c.new-page.ensures.blank c.put_cut_short.ensures (search rules)) in
    record { written = e.0; text = e.1 }

pub returns-in-Ok : goal.returns-in-Ok
returns-in-Ok c =
    let a = c.args in
    let some = eqb-false _ _ (sym c.is_empty.ensures ∙ c.if-is_empty.false) in
    let w = c.in-Ok.ensures in
    let e = done a.order.now a.k a.out.now some c.order_size.ensures.0 c.if-order-order_size.false (w.number, w.writes) refl (c.size.ensures ∙ ap (λ (p : Plan). 5 * te p) c.plan_in.ensures) in
    record { written = e.0; text = e.1 }

pub returns-in-Err : goal.returns-in-Err
returns-in-Err c =
    let a = c.args in
    let some = eqb-false _ _ (sym c.is_empty.ensures ∙ c.if-is_empty.false) in
    let w = c.in-Err.ensures in
    let e = refused a.order.now a.k a.out.now some c.order_size.ensures.0 c.if-order-order_size.false (w.number, w.writes) (some_number c.in-Err.refusal) (from_start c.new-page-in-Err.ensures.blank c.put_refused.ensures (search rules)) in
    record { written = e.0; text = e.1 }
