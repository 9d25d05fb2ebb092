-- A frame or a cell asked for by a payload. Assumes nothing.
use mathlib.Core.Bool.{true, false}
use mathlib.Core.Path.{◌≡◌, ap, ◌∙◌}
use mathlib.Core.List.{List}
use Prim.Native.Nat.{ℕ, ◌-◌, ◌<◌, ◌≤◌}
use lib.Dec.{eqb, leb}
use lib.ListN.{length, take, drop}
use borrow.Author.Tests.{le-leb, lt-leb, leb-true}
use Rattle.text.proofs.Lists.{part_all}
use Rattle.routing.proofs.Equal.{two}
use Rattle.routing.proofs.Fours.{and_left}
use Rattle.parts.specs.Parts.{word_at, buffer_text}
use Rattle.plans.specs.Refusal.{write_refusal}
use Rattle.frames.specs.Writing.{frame_writes}
use Rattle.frames.specs.Reading.{cell_in, cell_writes}
use Rattle.orders.specs.Order.{order_size, plan_of}
use Rattle.call_frames.specs.Calls.{asks_frame, write_text, read_text}

module _ (payload : List ℕ) where
  pub too_short : length payload < 4 → false ≡ asks_frame payload
  too_short h = rw (lt-leb _ _ h)

  pub long_enough : 4 ≤ length payload → {size : ℕ} → size ≡ order_size (take (length payload - 4) (drop 4 payload)) → eqb size (length payload - 4) ≡ asks_frame payload
  long_enough h e = ap (λ (n : ℕ). eqb n (length payload - 4)) (e ∙ ap order_size (part_all 4 payload)) ∙ rw (le-leb _ _ h)

  pub has_room_bytes : asks_frame payload ≡ true → 4 ≤ length payload
  has_room_bytes e = leb-true _ _ (and_left (leb 4 (length payload)) (eqb (order_size (drop 4 payload)) (length payload - 4)) e)

  module _ (buffer : List ℕ) {after : List ℕ} {n : ℕ} where
    pub written : (n ≡ write_refusal (plan_of (take (length payload - 4) (drop 4 payload))) (length buffer)) × (after ≡ frame_writes (plan_of (take (length payload - 4) (drop 4 payload))) buffer)
        → buffer_text n after ≡ write_text payload buffer
    written e =
        let same = part_all 4 payload in
        two buffer_text (e.0 ∙ ap (λ (l : List ℕ). write_refusal (plan_of l) (length buffer)) same) (e.1 ∙ ap (λ (l : List ℕ). frame_writes (plan_of l) buffer) same)

    pub read : {i : ℕ} → i ≡ word_at payload 4
        → (n ≡ length (cell_in (take (length payload - 8) (drop 8 payload)) i)) × (after ≡ cell_writes (take (length payload - 8) (drop 8 payload)) i buffer)
        → buffer_text n after ≡ read_text payload buffer
    read ei e =
        let same = part_all 8 payload in
        two buffer_text (e.0 ∙ two (λ (l : List ℕ) (j : ℕ). length (cell_in l j)) same ei) (e.1 ∙ two (λ (l : List ℕ) (j : ℕ). cell_writes l j buffer) same ei)
