-- Written frames meet the definition of a frame. Assumes nothing.
use mathlib.Core.Bool.{Bool, true, false}
use mathlib.Core.Path.{◌≡◌, refl, sym, ap, subst, ◌∙◌}
use mathlib.Core.Logic.{⊎_elim}
use Prim.Native.Nat.{ℕ, suc, ◌+◌, ◌-◌, ◌*◌, ◌<◌, ◌≤◌}
use native.Mathlib.Nat.{add-zero}
use native.Mathlib.Omega.{arith}
use lib.Dec.{leb}
use borrow.Author.Tests.{ne_eqb, leb-true, leb-false}
use Rattle.routing.specs.Header.{some_active}
use Rattle.routing.proofs.Fours.{not_both, no_unless, none_of}
use Rattle.fabric.specs.declared.cycle.Inputs.{Inputs}
use Rattle.runs.specs.Run.{Run, NoneActiveAt, FrameStartAt, NoFrameStartAt}
use Rattle.runs.specs.Frame.{Frame, NoneActiveBefore, NoneActiveFrom}
use Rattle.runs.proofs.Stretches.{zeros_before_reset}
use Rattle.plans.specs.Plan.{Plan, cell_of, is_cell, th, te, inputs_of}
use Rattle.plans.proofs.Refusals.{Taken, taken, room_alike}
use Rattle.delivery.proofs.Takings.{row, good, quiet_before, silent, loud, quiet_end}
use Rattle.delivery.specs.Written.{AllWritable, has_cell, WrittenAt, BehindFrame, Follows, InPlace, WellFormed, WrittenFrames}

pub all_writable : AllWritable
all_writable p room z = room_alike p room (5 * te p) z (omega arith)

-- cycle t of a run, counted from cycle s on
within : (s t : ℕ) → s ≤ t → s + (t - s) ≡ t
within s t h = omega (arith, h)

module _ (r : Run) (s : ℕ) (p : Plan) (w : WrittenAt r s p) where
  -- what stands in cycle t of the run, which is cycle k of the frame
  inputs_at : (t k : ℕ) → s + k ≡ t → k < te p → r.ins t ≡ inputs_of p k
  inputs_at t k e h = ap (λ (x : ℕ). r.ins x) (sym e) ∙ w k h

  pub row_at : (t k : ℕ) → s + k ≡ t → k < te p → (r.ins t).bytes ≡ row p k
  row_at t k e h = ap (λ (i : Inputs). i.bytes) (inputs_at t k e h)

  quiet_at : (t k : ℕ) → s + k ≡ t → k < te p → some_active (row p k) ≡ false → NoneActiveAt r t
  quiet_at t k e h q = ap some_active (row_at t k e h) ∙ q

  pub start_at : 0 < te p → FrameStartAt r s
  start_at h = ap (λ (i : Inputs). i.frame) (inputs_at s 0 (add-zero s) h)

  no_start : (t : ℕ) → s < t → t < s + te p → NoFrameStartAt r t
  no_start t lo hi = ap (λ (i : Inputs). i.frame) (inputs_at t (t - s) (within s t (omega (arith, lo))) (omega (arith, lo, hi))) ∙ ne_eqb (t - s) 0 (λ z. omega (arith, z, lo))

-- behind a written frame, as after reset, no active bit was sent in the cycle before
last_quiet : (r : Run) (s : ℕ) → BehindFrame r s → NoneActiveBefore r s
last_quiet r s b =
    let t = taken b.plan (5 * te b.plan) b.writable in
    let some : 1 ≤ te b.plan = omega (arith, t.limits.cycles_some) in
    let e : suc (b.start + (te b.plan - 1)) ≡ s = omega (arith, b.ends, some) in
    subst (NoneActiveBefore r) e (quiet_at r b.start b.plan b.written (b.start + (te b.plan - 1)) (te b.plan - 1) refl (omega (arith, some)) (quiet_end t))

pub quiet_behind : (r : Run) (s : ℕ) → Follows r s → NoneActiveBefore r s
quiet_behind r s f = ⊎_elim (λ z. subst (NoneActiveBefore r) (sym z.1) (zeros_before_reset r z.0)) (last_quiet r s) f

module _ (r : Run) (s : ℕ) (p : Plan) (i : InPlace r s p) where
  abbrev t : Taken p (5 * te p)
  t = taken p (5 * te p) i.writable

  long_enough : th p < te p
  long_enough = omega (arith, t.limits.cycles_some)

  frame : Frame r s (s + te p)
  frame = record {
    starts = start_at r s p i.written (omega (arith, long_enough));
    later = omega (arith, long_enough);
    none_between = no_start r s p i.written;
    next = i.next;
  }

  -- no active bit from the cycle before the frame on, up to cycle e of the frame
  quiet_to : (e : ℕ) → e ≤ te p → ((k : ℕ) → k < e → some_active (row p k) ≡ false) → NoneActiveFrom r s (s + e)
  quiet_to e le q = record {
    before = quiet_behind r s i.follows;
    until = λ c lo hi. quiet_at r s p i.written c (c - s) (within s c lo) (omega (arith, lo, hi, le)) (q (c - s) (omega (arith, lo, hi)));
  }

  -- a cell has a body, and the body ends before te-1
  room_behind : has_cell p ≡ true → th p + 3 ≤ te p
  room_behind there = go (leb (th p + 3) (te p)) refl
    where
      short : te p < th p + 3 → (j : ℕ) → j < 4 → is_cell (cell_of p j) ≡ false
      short less j is = no_unless (λ c. let g = good t j is c in absurd (omega (arith, less, g.some_body, g.in_time)))

      go : (b : Bool) → leb (th p + 3) (te p) ≡ b → th p + 3 ≤ te p
      go true e = leb-true _ _ e
      go false e = absurd (not_both there (none_of (λ j. is_cell (cell_of p j)) (short (leb-false _ _ e))))

  well_formed : WellFormed r s p
  well_formed = record {
    active = λ there.
        let room = room_behind there in
        record {
          frame = frame;
          none_before = quiet_to (th p) (omega (arith, long_enough)) (quiet_before p);
          header = ap some_active (row_at r s p i.written (s + th p) (th p) refl long_enough) ∙ loud t there;
          late = omega arith;
          long = omega (arith, room);
          none_at_end = quiet_at r s p i.written (s + te p - 1) (te p - 1) (omega (arith, room)) (omega (arith, room)) (quiet_end t);
        };
    inactive = λ gone. record { frame = frame; none_active = quiet_to (te p) (omega arith) (λ k h. silent p gone k) };
  }

pub written_frames : WrittenFrames
written_frames = well_formed
