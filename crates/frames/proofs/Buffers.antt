-- What the two calls leave in the lent buffer. Assumes nothing.
use mathlib.Core.Path.{◌≡◌, sym, ap, ◌∙◌}
use mathlib.Core.List.{List, ◌++◌}
use Prim.Native.Nat.{ℕ, ◌-◌, ◌*◌, ◌<◌, ◌≤◌}
use native.Mathlib.Omega.{arith}
use lib.ListN.{length, drop}
use borrow.Author.Tests.{le-leb, lt-leb, eq-eqb, ne_eqb}
use Rattle.text.specs.declared.page.Page.{Page as Sheet}
use Rattle.text.specs.Page.{Page, page, puts, Wrote, Blank, Put}
use Rattle.routing.proofs.Equal.{two}
use Rattle.text.proofs.Room.{stands, behind_it}
use Rattle.plans.specs.Plan.{Plan, te}
use Rattle.plans.specs.Refusal.{write_refusal}
use Rattle.frames.specs.Writing.{frame_records, frame_writes}
use Rattle.frames.specs.Reading.{sent_by, sent_from, rows_sent, from_header, column_of, as_cell, cell_in, cell_writes}
use Rattle.frames.proofs.Lists.{listed_length}
use Rattle.frames.proofs.Writes.{records_length}
use Rattle.plans.proofs.Refusals.{taken}

-- a text put onto a page made over lent bytes, by what the bytes are in the end
pub from_start : {bytes text last : List ℕ} {s t : Sheet} → Blank bytes s → Put s text t → last ≡ t.bytes.now → Wrote (page bytes 0) text (page last t.place)
from_start {bytes = bytes} {text = text} {t = t} blank w ends = record {
  left = ap (λ (l : List ℕ). page l t.place) ends ∙ w.wrote.left ∙ ap (λ (q : Page). puts q text) (two page blank.bytes_are blank.at_start);
}

-- a frame, written or refused
module _ (p : Plan) (buffer : List ℕ) {n : ℕ} (is : n ≡ write_refusal p (length buffer)) where
  pub frame_written : {after : List ℕ} {next : ℕ} → n ≡ 0 → Wrote (page buffer 0) (frame_records p) (page after next) → after ≡ frame_writes p buffer
  frame_written z w =
      let room = (taken p (length buffer) (sym is ∙ z)).room_enough in
      let long = records_length p (te p) in
      behind_it w (omega (arith, long, room)) ∙ ap (λ (k : ℕ). frame_records p ++ drop k buffer) long ∙ rw (eq-eqb _ _ (sym is ∙ z))

  -- and the other way round: a frame that is there was put there
  pub frame_stands : {after : List ℕ} → n ≡ 0 → after ≡ frame_writes p buffer → Wrote (page buffer 0) (frame_records p) (page after (5 * te p))
  frame_stands z e =
      let long = records_length p (te p) in
      let room = (taken p (length buffer) (sym is ∙ z)).room_enough in
      let there = stands buffer (frame_records p) (omega (arith, long, room)) in
      let all : frame_records p ++ drop (length (frame_records p)) buffer ≡ frame_writes p buffer =
      ap (λ (k : ℕ). frame_records p ++ drop k buffer) long ∙ rw (eq-eqb _ _ (sym is ∙ z)) in
      record { left = two page (e ∙ sym all) (sym long) ∙ there.left }

  pub frame_refused : (n ≡ 0 → ⊥) → buffer ≡ frame_writes p buffer
  frame_refused h = rw (ne_eqb _ _ (λ z. h (is ∙ z)))

-- a cell, copied or too long
module _ (frame : List ℕ) (i at end : ℕ) (header : from_header (rows_sent frame 0) ≡ rows_sent frame at) (ends : as_cell (column_of i (rows_sent frame at)) ≡ sent_from frame i at (end - at)) where
  cell : cell_in frame i ≡ sent_from frame i at (end - at)
  cell = ap (λ (rows : List (List ℕ)). as_cell (column_of i rows)) header ∙ ends

  pub cell_bytes : end - at ≡ length (cell_in frame i)
  cell_bytes = sym (ap length cell ∙ listed_length (sent_by frame i) at (end - at))

  pub cell_copied : {buffer after : List ℕ} {next : ℕ} → end - at ≤ length buffer → Wrote (page buffer 0) (sent_from frame i at (end - at)) (page after next) → after ≡ cell_writes frame i buffer
  cell_copied {buffer = buffer} room w =
      let fits : length (cell_in frame i) ≤ length buffer = omega (arith, cell_bytes, room) in
      let long = listed_length (sent_by frame i) at (end - at) in
      behind_it w (omega (arith, long, room)) ∙ ap (λ (l : List ℕ). l ++ drop (length l) buffer) (sym cell) ∙ rw (le-leb _ _ fits)

  pub cell_left : {buffer : List ℕ} → length buffer < end - at → buffer ≡ cell_writes frame i buffer
  cell_left {buffer = buffer} short =
      let less : length buffer < length (cell_in frame i) = omega (arith, cell_bytes, short) in rw (lt-leb _ _ less)
