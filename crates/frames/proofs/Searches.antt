-- The search for the header, and for the end of a cell. Assumes nothing.
use mathlib.Core.Bool.{Bool, true, false, cond}
use mathlib.Core.Path.{◌≡◌, refl, sym, ap, ◌∙◌}
use mathlib.Core.List.{List, [], ◌∷◌}
use mathlib.Core.Logic.{⊎_elim}
use Prim.Native.Nat.{ℕ, zero, suc, ◌+◌, ◌-◌, ◌%◌, ◌<◌, ◌≤◌}
use native.Mathlib.Nat.{eq-or-lt_of_le}
use native.Mathlib.Numerals.{add-one}
use native.Mathlib.Omega.{arith}
use lib.Dec.{ltb}
use borrow.Author.Tests.{ne_eqb, eq-eqb, ltb-true, ltb-false}
use Rattle.routing.specs.Header.{active, some_active}
use Rattle.states.specs.State.{zero_row}
use Rattle.records.specs.Record.{byte_at, inputs_from}
use Rattle.places.specs.Capture.{records, inputs_in}
use Rattle.places.proofs.Records.{record_past}
use Rattle.frames.specs.Listed.{listed, trimmed}
use Rattle.frames.specs.Reading.{sent_by, sent_from, rows_sent, from_header, column_of, as_cell}
use Rattle.frames.proofs.Lists.{listed_next, listed_none, listed_last, listed_map, trimmed_zero, trimmed_end, trimmed_first}

zero_at : (i : ℕ) → byte_at zero_row i ≡ 0
zero_at zero = refl
zero_at (suc zero) = refl
zero_at (suc (suc zero)) = refl
zero_at (suc (suc (suc zero))) = refl
zero_at (suc (suc (suc (suc i)))) = refl

-- zero has no bit set
odd : {x : ℕ} → x ≡ 0 → x % 2 ≡ 1 → ⊥
odd e h = omega (arith, e, h)

-- the search for the first row with an active bit, in rows from k on up to n
module _ (row : ℕ → List ℕ) (n : ℕ) where
  abbrev from : ℕ → List (List ℕ)
  from k = listed row k (n - k)

  pub found : (k : ℕ) → k < n → some_active (row k) ≡ true → from_header (from k) ≡ from k
  unfolding from_header
  found k h e =
      let next = listed_next row k n h in ap from_header next ∙ ap (λ (b : Bool). cond b (row k ∷ from (k + 1)) (from_header (from (k + 1)))) e ∙ sym next

  pub passed : (k : ℕ) → k < n → some_active (row k) ≡ false → from_header (from k) ≡ from_header (from (k + 1))
  unfolding from_header
  passed k h e =
      ap from_header (listed_next row k n h) ∙ ap (λ (b : Bool). cond b (row k ∷ from (k + 1)) (from_header (from (k + 1)))) e

  pub none : (k : ℕ) → n ≤ k → from_header (from k) ≡ from k
  unfolding from_header
  none k h = let e = listed_none row k n h in ap from_header e ∙ sym e

  -- it passes all rows that have none
  pub passed_all : (d : ℕ) → d ≤ n → ((k : ℕ) → k < d → some_active (row k) ≡ false) → from_header (from 0) ≡ from_header (from d)
  passed_all zero h e = refl
  passed_all (suc d) h e =
      passed_all d (omega (arith, h)) (λ k l. e k (omega (arith, l)))
      ∙ passed d (omega (arith, h)) (e d (omega arith))
      ∙ ap (λ (k : ℕ). from_header (from k)) (add-one d)

module _ (frame : List ℕ) where
  abbrev row : ℕ → List ℕ
  row k = (inputs_in frame k).bytes

  module _ (i at : ℕ) where
    abbrev f : ℕ → ℕ
    f = sent_by frame i

    abbrev sent : List ℕ
    sent = column_of i (rows_sent frame at)

    column : sent ≡ sent_from frame i at (records frame - at)
    column = listed_map (λ (r : List ℕ). byte_at r i) row at (records frame - at)

    -- past the last record nothing is sent
    past : records frame ≤ at → f at ≡ 0
    past h = ap (λ (b : List ℕ). byte_at (inputs_from b).bytes i) (record_past frame at h) ∙ zero_at i

    pub there : f at % 2 ≡ 1 → at < records frame
    there on = go (ltb at (records frame)) refl
      where
        go : (b : Bool) → ltb at (records frame) ≡ b → at < records frame
        go true e = ltb-true _ _ e
        go false e = absurd (odd (past (ltb-false _ _ e)) on)

    -- the header and what is sent behind it
    abbrev behind : List ℕ
    behind = sent_from frame i (at + 1) (records frame - (at + 1))

    as_cell_lem : at < records frame → as_cell sent ≡ cond (active (f at)) (f at ∷ trimmed behind) []
    as_cell_lem h = ap as_cell (column ∙ listed_next f at (records frame) h)

    -- without an active bit in its first record there is no cell
    pub no_cell_here : (f at % 2 ≡ 1 → ⊥) → as_cell sent ≡ sent_from frame i at (at - at)
    no_cell_here off = go (ltb at (records frame)) refl ∙ sym (listed_none f at at (omega arith))
      where
        go : (b : Bool) → ltb at (records frame) ≡ b → as_cell sent ≡ []
        go true e = as_cell_lem (ltb-true _ _ e) ∙ ap (λ (b : Bool). cond b (f at ∷ trimmed behind) []) (ne_eqb _ _ off)
        go false e = ap as_cell (column ∙ listed_none f at (records frame) (ltb-false _ _ e))

    -- what the loop knows: the bytes from record `end` on are zeros
    pub record Trimmed (end : ℕ) : Type 0 where
      pub more : at < end
      pub same : as_cell sent ≡ trimmed (sent_from frame i at (end - at))

    pub ended : {end : ℕ} → Trimmed end → (f (end - 1) ≡ 0 → ⊥) → as_cell sent ≡ sent_from frame i at (end - at)
    ended {end = end} t h =
        let last = listed_last f at end t.more in t.same ∙ ap trimmed last ∙ trimmed_end (sent_from frame i at (end - 1 - at)) h ∙ sym last

    module _ (on : f at % 2 ≡ 1) where
      some : f at ≡ 0 → ⊥
      some e = odd e on

      pub begin : Trimmed (records frame)
      begin = record {
        more = there on;
        same =
            as_cell_lem (there on)
            ∙ ap (λ (b : Bool). cond b (f at ∷ trimmed behind) []) (eq-eqb _ _ on)
            ∙ sym (trimmed_first (f at) behind some)
            ∙ ap trimmed (sym (listed_next f at (records frame) (there on)));
      }

      pub shorter : {end : ℕ} → Trimmed end → f (end - 1) ≡ 0 → Trimmed (end - 1)
      shorter {end = end} t e = record {
        more = not_first;
        same = t.same ∙ ap trimmed (listed_last f at end t.more) ∙ trimmed_zero (sent_from frame i at (end - 1 - at)) e;
      }
        where
          not_first : at < end - 1
          not_first =
              let last : at ≤ end - 1 = omega (arith, t.more) in
              ⊎_elim (λ same. absurd (some (ap f same ∙ e))) (λ less. less) (eq-or-lt_of_le last)
