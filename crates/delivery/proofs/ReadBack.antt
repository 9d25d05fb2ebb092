-- Reading gives back what was written. Assumes nothing.
use mathlib.Core.Bool.{Bool, true, false, cond, not}
use mathlib.Core.Path.{◌≡◌, refl, sym, ap, ◌∙◌}
use mathlib.Core.List.{List, [], ◌∷◌, ◌++◌, append-nil}
use Prim.Native.Nat.{ℕ, zero, suc, ◌+◌, ◌-◌, ◌*◌, ◌<◌}
use native.Mathlib.Nat.{zero-add}
use native.Mathlib.Omega.{arith}
use lib.ListN.{length, drop, replicate, take}
use lib.Seq.{take_at}
use borrow.Author.Tests.{eq-eqb, ne_eqb}
use Rattle.routing.specs.Four.{some}
use Rattle.routing.specs.Header.{some_active}
use Rattle.routing.proofs.Fours.{at_four, no_at}
use Rattle.fabric.specs.declared.cycle.Inputs.{Inputs}
use Rattle.records.specs.Record.{byte_at}
use Rattle.places.specs.Capture.{records, inputs_in}
use Rattle.frames.specs.Listed.{listed, trimmed}
use Rattle.plans.specs.Plan.{Plan, cell_of, is_cell, th, te, sends}
use Rattle.frames.specs.Writing.{frame_records, frame_writes}
use Rattle.frames.specs.Reading.{from_header, column_of, as_cell, cell_in}
use Rattle.delivery.specs.ReadBack.{CellsReadBack}
use Rattle.frames.proofs.Lists.{listed_none, listed_map, listed_as, trimmed_back}
use Rattle.plans.proofs.Refusals.{Taken, taken}
use Rattle.frames.proofs.Writes.{records_length, sending}
use Rattle.delivery.proofs.Placed.{frame_here}
use Rattle.frames.proofs.Searches.{found, none, passed_all}
use Rattle.delivery.proofs.Takings.{Good, good, no_bytes, row, quiet_before, silent, fits, loud}

-- a cell with zeros behind it is that cell
as_cell_lem : (p : Plan) (cell : List ℕ) (n : ℕ) → (is_cell cell ≡ true → Good p cell) → as_cell (cell ++ replicate n 0) ≡ cell
as_cell_lem p [] zero g = refl
as_cell_lem p [] (suc n) g = refl
as_cell_lem p (h ∷ b) n g =
    let c = g (ap not (ne_eqb (suc (length b)) 0 (λ z. omega (arith, z)))) in
    ap (λ (t : Bool). cond t (h ∷ trimmed (b ++ replicate n 0)) []) c.header ∙ ap (λ (l : List ℕ). h ∷ l) (trimmed_back b n c.some_body c.last)

module _ {p : Plan} {room : ℕ} (t : Taken p room) where
  abbrev frame : List ℕ
  frame = frame_records p

  abbrev read : ℕ → List ℕ
  read k = (inputs_in frame k).bytes

  count : records frame ≡ te p
  count = omega (arith, records_length p (te p))

  -- record k is what the inputs send in cycle k
  is_row : (k : ℕ) → k < te p → read k ≡ row p k
  is_row k h =
      ap (λ (l : List ℕ). (inputs_in l k).bytes) (sym (append-nil frame))
      ∙ ap (λ (j : ℕ). (inputs_in (frame ++ []) j).bytes) (sym (zero-add k))
      ∙ ap (λ (i : Inputs). i.bytes) (frame_here p [] [] 0 k (omega arith) h)

  abbrev rows_at : ℕ → List (List ℕ)
  rows_at k = listed read k (records frame - k)

  -- with a cell the rows from th on are found, without one none is
  with_cell : some (λ i. is_cell (cell_of p i)) ≡ true → from_header (rows_at 0) ≡ rows_at (th p)
  with_cell there =
      let more : th p < te p = omega (arith, t.limits.cycles_some) in
      passed_all read (records frame) (th p) (omega (arith, count, more)) (λ k h. ap some_active (is_row k (omega (arith, h, more))) ∙ quiet_before p k h)
      ∙ found read (records frame) (th p) (omega (arith, count, more)) (ap some_active (is_row (th p) more) ∙ loud t there)

  without : some (λ i. is_cell (cell_of p i)) ≡ false → from_header (rows_at 0) ≡ []
  without gone =
      passed_all read (records frame) (records frame) (omega arith) (λ k h. ap some_active (is_row k (omega (arith, h, count))) ∙ silent p gone k)
      ∙ none read (records frame) (records frame) (omega arith)
      ∙ listed_none read (records frame) (records frame) (omega arith)

  -- what an input sends from th on is its cell, and zeros
  sent_cell : (i : ℕ) → i < 4 → column_of i (rows_at (th p)) ≡ cell_of p i ++ replicate (records frame - th p - length (cell_of p i)) 0
  sent_cell i is =
      listed_map (λ (r : List ℕ). byte_at r i) read (th p) (records frame - th p)
      ∙ listed_as (cell_of p i) (λ k. byte_at (read k) i) (th p) (records frame - th p) (omega (arith, count, fits t i is)) each
    where
      each : (j : ℕ) → j < records frame - th p → byte_at (read (th p + j)) i ≡ byte_at (cell_of p i) j
      each j h =
          let place : th p + j - th p ≡ j = omega arith in
          ap (λ (r : List ℕ). byte_at r i) (is_row (th p + j) (omega (arith, count, h)))
          ∙ at_four (sends p (th p + j)) 0 i is
          ∙ sym (sending (th p) (cell_of p i) (th p + j) (omega arith))
          ∙ ap (byte_at (cell_of p i)) place

  read_back_lem : (i : ℕ) → i < 4 → cell_in frame i ≡ cell_of p i
  read_back_lem i is = go (some (λ i. is_cell (cell_of p i))) refl
    where
      go : (b : Bool) → some (λ i. is_cell (cell_of p i)) ≡ b → cell_in frame i ≡ cell_of p i
      go false gone =
          ap (λ (rows : List (List ℕ)). as_cell (column_of i rows)) (without gone) ∙ sym (no_bytes (cell_of p i) (no_at (λ i. is_cell (cell_of p i)) gone i is))
      go true there =
          ap (λ (rows : List (List ℕ)). as_cell (column_of i rows)) (with_cell there) ∙ ap as_cell (sent_cell i is) ∙ as_cell_lem p (cell_of p i) (records frame - th p - length (cell_of p i)) (good t i is)

pub cells_read_back : CellsReadBack
cells_read_back p buffer z i is =
    let t = taken p (length buffer) z in
    let written : take (5 * te p) (frame_writes p buffer) ≡ frame_records p =
    ap (λ (b : Bool). take (5 * te p) (cond b (frame_records p ++ drop (5 * te p) buffer) buffer)) (eq-eqb _ _ z)
    ∙ take_at (frame_records p) (drop (5 * te p) buffer) (5 * te p) (records_length p (te p)) in
    ap (λ (l : List ℕ). cell_in l i) written ∙ read_back_lem t i is
