-- The records of a frame, one after the other, and the buffer that they stand in. Assumes nothing.
use mathlib.Core.Path.{◌≡◌, refl, sym, ap, ◌∙◌}
use mathlib.Core.List.{List, [], ◌∷◌, ◌++◌}
use Prim.Native.Nat.{ℕ, ◌+◌, ◌-◌, ◌*◌, ◌<◌, ◌≤◌, suc, zero}
use native.Mathlib.Numerals.{add-one}
use native.Mathlib.Omega.{arith}
use lib.Dec.{eqb}
use lib.ListN.{length, length-append}
use borrow.Author.Tests.{lt-ltb, le-ltb}
use Rattle.routing.proofs.Equal.{row_of}
use Rattle.text.specs.declared.page.Page.{Page as Sheet}
use Rattle.text.specs.Page.{Page, Put, Wrote}
use Rattle.text.proofs.Pages.{◌then◌, spelt, nothing, both, other_words, nothing_any_page}
use Rattle.records.specs.Record.{byte_at, record_of}
use Rattle.plans.specs.Plan.{Plan, sent_of, sends, inputs_of}
use Rattle.frames.specs.Writing.{records_of}

-- before the header nothing is sent, from it on the cell
pub quiet : (first : ℕ) (cell : List ℕ) (k : ℕ) → k < first → 0 ≡ sent_of first cell k
quiet first cell k h = rw (lt-ltb _ _ h)

pub sending : (first : ℕ) (cell : List ℕ) (k : ℕ) → first ≤ k → byte_at cell (k - first) ≡ sent_of first cell k
sending first cell k h = rw (le-ltb _ _ h)

module _ (p : Plan) where
  -- a record made of what the four inputs send
  pub made : (k : ℕ) {a b c d : ℕ} → a ≡ sends p k 0 → b ≡ sends p k 1 → c ≡ sends p k 2 → d ≡ sends p k 3
      → record_of (record { frame = eqb k 0; bytes = a ∷ b ∷ c ∷ d ∷ []; acks = p.acks }) ≡ record_of (inputs_of p k)
  made k ea eb ec ed = ap (λ (l : List ℕ). record_of (record { frame = eqb k 0; bytes = l; acks = p.acks })) (row_of ea eb ec ed)

  pub none_yet : (q : Sheet) → Put q (records_of p 0) q
  unfolding records_of
  none_yet q = nothing q

  pub one_more : (k : ℕ) {q r s : Sheet} {five : List ℕ} → Put q (records_of p k) r → five ≡ record_of (inputs_of p k) → Put r five s → Put q (records_of p (k + 1)) s
  unfolding records_of
  one_more k so_far e next =
      spelt (so_far then next) (ap (λ (l : List ℕ). records_of p k ++ l) e ∙ ap (records_of p) (sym (add-one k)))

  -- the same of any page, the code's or not
  pub none_yet_any_page : (q : Page) → Wrote q (records_of p 0) q
  unfolding records_of
  none_yet_any_page q = nothing_any_page q

  pub one_more_any_page : (k : ℕ) {q r s : Page} {five : List ℕ} → Wrote q (records_of p k) r → five ≡ record_of (inputs_of p k) → Wrote r five s → Wrote q (records_of p (k + 1)) s
  unfolding records_of
  one_more_any_page k so_far e next =
      other_words (both so_far next) (ap (λ (l : List ℕ). records_of p k ++ l) e ∙ ap (records_of p) (sym (add-one k)))

  pub records_length : (n : ℕ) → length (records_of p n) ≡ 5 * n
  unfolding records_of
  records_length zero = refl
  records_length (suc n) = let e = records_length n in simp length-append (omega arith)
