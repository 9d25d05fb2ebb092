-- Where each head byte comes from. Assumes nothing.
use mathlib.Core.Bool.{Bool, true, cond}
use mathlib.Core.Path.{◌≡◌, refl, sym, ap, ◌∙◌}
use mathlib.Core.List.{List}
use Prim.Native.Nat.{ℕ, zero, suc, ◌+◌, ◌-◌}
use native.Mathlib.Omega.{arith}
use lib.ListN.{get_or}
use borrow.Author.Tests.{le-ltb}
use Rattle.states.specs.State.{shut_at, first_row, second_row, switch_row, head_row, zero_row, reset_rows}
use Rattle.fabric.specs.Cycle.{Machine, switch_byte}
use Rattle.runs.specs.Run.{Run, FromReset, sent, holder}
use Rattle.runs.specs.Showing.{before, holder_two_before, sent_four_before, Showing}
use Rattle.runs.proofs.Cycles.{second_is, second_two, head_one, head_two}

before_is : {A : Type 0} (n : ℕ) (d : A) (f : ℕ → A) (t k : ℕ) → t ≡ k + n → before n d f t ≡ f k
before_is n d f t k e = ap (λ (b : Bool). cond b d (f (t - n))) (le-ltb t n (omega arith)) ∙ ap f (omega arith)

pub zero_row_lem : (o : ℕ) → get_or zero_row o 0 ≡ 0
zero_row_lem zero = refl
zero_row_lem (suc zero) = refl
zero_row_lem (suc (suc zero)) = refl
zero_row_lem (suc (suc (suc zero))) = refl
zero_row_lem (suc (suc (suc (suc o)))) = refl

-- a byte that is switched while all latches hold zeros
no_byte : (b : Bool) (h : ℕ) {row : List ℕ} → row ≡ zero_row → switch_byte b h row ≡ cond b 0 0
no_byte b h e = ap (switch_byte b h) e ∙ ap (cond b 0) (zero_row_lem h)

module _ (r : Run) (start : FromReset r) where
  row_at : (f : List (List ℕ) → List ℕ) → f (r.at 0).rows ≡ f reset_rows
  row_at f = ap (λ (m : Machine). f m.rows) start

  pub showing : Showing r
  showing zero o l = ap (λ (row : List ℕ). get_or row o 0) (row_at head_row) ∙ zero_row_lem o
  showing (suc zero) o l = head_one r 0 o ∙ ap (λ (row : List ℕ). get_or row o 0) (row_at switch_row) ∙ zero_row_lem o
  showing (suc (suc zero)) o l = head_two r 0 o l ∙ no_byte (shut_at (r.at 0).state o) (holder r 0 o) (row_at second_row)
  showing (suc (suc (suc zero))) o l = head_two r 1 o l ∙ no_byte (shut_at (r.at 1).state o) (holder r 1 o) (second_is r 0 ∙ row_at first_row)
  showing (suc (suc (suc (suc t)))) o l =
      let now = suc (suc (suc (suc t))) in
      let then = suc (suc t) in
      let s : before 2 true (λ k. shut_at (r.at k).state o) now ≡ shut_at (r.at then).state o = before_is 2 true (λ k. shut_at (r.at k).state o) now then (omega arith) in
      let h : holder_two_before r now o ≡ holder r then o = before_is 2 0 (λ k. holder r k o) now then (omega arith) in
      let b : sent_four_before r now (holder r then o) ≡ sent r t (holder r then o) = before_is 4 0 (λ k. sent r k (holder r then o)) now t (omega arith) in
      head_two r then o l
      ∙ ap (λ (row : List ℕ). switch_byte (shut_at (r.at then).state o) (holder r then o) row) (second_two r t)
      ∙ sym (rw (s, h, b))
