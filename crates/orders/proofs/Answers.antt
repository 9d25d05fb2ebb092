-- What is said to an order, case by case. Assumes nothing.
use mathlib.Core.Bool.{Bool, true, false}
use mathlib.Core.Path.{◌≡◌, refl, sym, ap, subst, ◌∙◌}
use mathlib.Core.List.{List, []}
use Prim.Native.Nat.{ℕ, ◌*◌, ◌<◌, ◌≤◌}
use native.Mathlib.Omega.{arith}
use lib.ListN.{length}
use borrow.Author.Tests.{eq-eqb, ne_eqb, lt-ltb, le-ltb}
use Rattle.text.specs.Ascii.{ascii}
use Rattle.text.specs.Page.{Page, page, puts, Wrote}
use Rattle.text.proofs.Pages.{other_words}
use Rattle.plans.specs.Refusal.{write_refusal}
use Rattle.frames.specs.Writing.{frame_records, frame_writes}
use Rattle.frames.proofs.Buffers.{frame_stands, frame_refused}
use Rattle.orders.specs.Order.{order_size, order_cycles, plan_of}
use Rattle.orders.specs.Answer.{line_about, refused_text, Words, as_records, as_line, answer_to}

module _ (order : List ℕ) (k : ℕ) (buffer : List ℕ) where
  abbrev answer : Words
  answer = answer_to order k (length buffer)

  -- what a call leaves that says these words
  abbrev Says : Bool → Page → Type 0
  Says written q = (written ≡ answer.written) × Wrote (page buffer 0) answer.text q

  says : {q : Page} (w : Words) → w ≡ answer → Wrote (page buffer 0) w.text q → Says w.written q
  says w e put = (ap (λ (x : Words). x.written) e, other_words put (ap (λ (x : Words). x.text) e))

  pub none_left : length order ≡ 0 → Says false (page buffer 0)
  unfolding answer_to puts
  none_left z = says (as_line []) (rw (eq-eqb _ _ z)) (record { left = refl })

  -- and on every page on which nothing more was put
  pub none_left_any_page : {q : Page} → length order ≡ 0 → Wrote (page buffer 0) [] q → Says false q
  unfolding answer_to
  none_left_any_page z put = says (as_line []) (rw (eq-eqb _ _ z)) put

  module _ (some : length order ≡ 0 → ⊥) {size : ℕ} (is : size ≡ order_size order) where
    pub cut : {q : Page} → length order < size → Wrote (page buffer 0) (line_about (ascii "cut short") k) q → Says false q
    unfolding answer_to
    cut less put =
        let short : length order < order_size order = omega (arith, less, is) in
        says (as_line (line_about (ascii "cut short") k)) (rw (ne_eqb _ _ some, lt-ltb _ _ short)) put

    module _ (whole : size ≤ length order) {number : ℕ} {after : List ℕ}
        (wrote : (number ≡ write_refusal (plan_of order) (length buffer)) × (after ≡ frame_writes (plan_of order) buffer)) where
      all : order_size order ≤ length order
      all = omega (arith, whole, is)

      pub refused : {q : Page} → (number ≡ 0 → ⊥) → Wrote (page after 0) (line_about (refused_text number) k) q → Says false q
      unfolding answer_to
      refused {q = q} h put =
          let n = wrote.0 in
          let stays : after ≡ buffer = wrote.1 ∙ sym (frame_refused (plan_of order) buffer n h) in
          let same : as_line (line_about (refused_text number) k) ≡ answer =
          ap (λ (x : ℕ). as_line (line_about (refused_text x) k)) n ∙ rw (ne_eqb _ _ some, le-ltb _ _ all, ne_eqb _ _ (λ z. h (n ∙ z))) in
          says (as_line (line_about (refused_text number) k)) same (subst (λ (l : List ℕ). Wrote (page l 0) (line_about (refused_text number) k) q) stays put)

      pub done : {bytes : ℕ} → number ≡ 0 → bytes ≡ 5 * order_cycles order → Says true (page after bytes)
      unfolding answer_to
      done z e =
          let same : as_records (frame_records (plan_of order)) ≡ answer = rw (ne_eqb _ _ some, le-ltb _ _ all, eq-eqb _ _ (sym wrote.0 ∙ z)) in
          says (as_records (frame_records (plan_of order))) same
          (subst (λ (n : ℕ). Wrote (page buffer 0) (frame_records (plan_of order)) (page after n)) (sym e) (frame_stands (plan_of order) buffer wrote.0 z wrote.1))
