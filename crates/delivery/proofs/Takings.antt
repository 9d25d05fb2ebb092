-- What a frame that is not refused has in each cell, and what it sends. Assumes nothing.
use mathlib.Core.Bool.{Bool, true, false, ◌&&◌}
use mathlib.Core.Path.{◌≡◌, refl, sym, ap, ◌∙◌}
use mathlib.Core.List.{List, [], ◌∷◌}
use Prim.Native.Nat.{ℕ, suc, ◌+◌, ◌-◌, ◌<◌, ◌≤◌}
use native.Mathlib.Omega.{arith}
use lib.Dec.{ltb}
use lib.ListN.{length, get_or-eq_default}
use borrow.Author.Tests.{ltb-true, ltb-false, leb-false, eqb-true, eqb-false, not-false}
use Rattle.routing.specs.Four.{four, some}
use Rattle.routing.specs.Header.{active, some_active}
use Rattle.routing.proofs.Fours.{or_left, or_right, none_of, no_at, at_four, not_both, yes_unless, no_unless}
use Rattle.records.specs.Record.{byte_at}
use Rattle.plans.specs.Plan.{Plan, cell_of, is_cell, header_in, body_in, th, te, sends}
use Rattle.plans.specs.Refusal.{outside, ends_in_zero}
use Rattle.plans.proofs.Refusals.{Taken}
use Rattle.plans.proofs.Cells.{body_length}
use Rattle.frames.proofs.Writes.{quiet, sending}

-- no cell: no bytes
pub no_bytes : (cell : List ℕ) → is_cell cell ≡ false → cell ≡ []
no_bytes [] e = refl
no_bytes (h ∷ b) e = absurd (none (eqb-true _ _ (not-false _ e)))
  where
    none : suc (length b) ≡ 0 → ⊥
    none z = omega (arith, z)

-- a test that finds nothing in a cell that is there
in_cell : {cell b : Bool} → cell ≡ true → (cell && b) ≡ false → b ≡ false
in_cell {cell = true} {b = b} there e = e
in_cell {cell = false} {b = b} there e = cc

pub record Good (p : Plan) (cell : List ℕ) : Type 0 where
  pub header : active (header_in cell) ≡ true
  pub some_body : 1 ≤ length (body_in cell)
  pub last : byte_at (body_in cell) (length (body_in cell) - 1) ≡ 0 → ⊥
  pub in_time : th p + length (body_in cell) < te p - 1

module _ {p : Plan} {room : ℕ} (t : Taken p room) (i : ℕ) (is : i < 4) where
  pub good : is_cell (cell_of p i) ≡ true → Good p (cell_of p i)
  good there =
      let body = in_cell there (t.bodies i is) in
      let b = body_in (cell_of p i) in
      record {
        header = not-false _ (in_cell there (t.headers i is));
        some_body = ltb-false _ _ (or_left (ltb (length b) 1) (ltb 64 (length b)) (or_left (outside 1 64 (length b)) (ends_in_zero b) body));
        last = eqb-false _ _ (or_right (outside 1 64 (length b)) (ends_in_zero b) body);
        in_time = leb-false _ _ (in_cell there (t.in_time i is));
      }

-- the bytes that a frame's inputs send in cycle k
abbrev pub row : Plan → ℕ → List ℕ
row p k = four (sends p k)

module _ (p : Plan) where
  -- where no input sends anything there is no active bit
  all_zero : (k : ℕ) → ((i : ℕ) → i < 4 → sends p k i ≡ 0) → some_active (row p k) ≡ false
  all_zero k z = none_of (λ i. active (byte_at (row p k) i)) (λ i h. ap active (at_four (sends p k) 0 i h ∙ z i h))

  pub quiet_before : (k : ℕ) → k < th p → some_active (row p k) ≡ false
  quiet_before k h = all_zero k (λ i is. sym (quiet (th p) (cell_of p i) k h))

  -- behind its cell an input sends nothing
  after_cell : (k i : ℕ) → th p ≤ k → length (cell_of p i) ≤ k - th p → sends p k i ≡ 0
  after_cell k i h past = sym (sending (th p) (cell_of p i) k h) ∙ get_or-eq_default (cell_of p i) 0 past

  -- without cells there is no active bit in any cycle
  pub silent : some (λ i. is_cell (cell_of p i)) ≡ false → (k : ℕ) → some_active (row p k) ≡ false
  silent none k = all_zero k each
    where
      each : (i : ℕ) → i < 4 → sends p k i ≡ 0
      each i is = go (ltb k (th p)) refl
        where
          nothing : length (cell_of p i) ≡ 0
          nothing = ap length (no_bytes (cell_of p i) (no_at (λ j. is_cell (cell_of p j)) none i is))

          go : (b : Bool) → ltb k (th p) ≡ b → sends p k i ≡ 0
          go true e = sym (quiet (th p) (cell_of p i) k (ltb-true _ _ e))
          go false e = after_cell k i (ltb-false _ _ e) (omega (arith, nothing))

module _ {p : Plan} {room : ℕ} (t : Taken p room) where
  -- a cell's length, header and body together
  pub fits : (i : ℕ) → i < 4 → length (cell_of p i) < te p - th p
  fits i is = go (is_cell (cell_of p i)) refl
    where
      go : (b : Bool) → is_cell (cell_of p i) ≡ b → length (cell_of p i) < te p - th p
      go true there = omega (arith, (good t i is there).in_time, body_length (cell_of p i))
      go false none =
          let nothing : length (cell_of p i) ≡ 0 = ap length (no_bytes (cell_of p i) none) in omega (arith, nothing, t.limits.cycles_some)

  -- a cell's header is active, so that in a frame with a cell some header is
  active_at : (i : ℕ) → i < 4 → is_cell (cell_of p i) ≡ true → active (byte_at (row p (th p)) i) ≡ true
  active_at i is there =
      let first : th p - th p ≡ 0 = omega arith in
      let sent : sends p (th p) i ≡ header_in (cell_of p i) = sym (sending (th p) (cell_of p i) (th p) (omega arith)) ∙ ap (byte_at (cell_of p i)) first in
      ap active (at_four (sends p (th p)) 0 i is ∙ sent) ∙ (good t i is there).header

  pub loud : some (λ i. is_cell (cell_of p i)) ≡ true → some_active (row p (th p)) ≡ true
  loud there =
      yes_unless
      (λ none. not_both there
      (none_of (λ i. is_cell (cell_of p i)) (λ i is. no_unless (λ c. not_both (active_at i is c) (no_at (λ j. active (byte_at (row p (th p)) j)) none i is)))))

  -- nothing is sent in the frame's last cycle
  pub quiet_end : some_active (row p (te p - 1)) ≡ false
  quiet_end = all_zero p (te p - 1) (λ i is. after_cell p (te p - 1) i (omega (arith, t.limits.cycles_some)) (omega (arith, fits i is, t.limits.cycles_some)))
