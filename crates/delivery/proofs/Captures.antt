-- Written frames in the bytes of a capture. Assumes nothing.
use mathlib.Core.Path.{◌≡◌, refl, sym, ap, subst, ◌∙◌}
use mathlib.Core.List.{List, [], ◌∷◌, ◌++◌, append_assoc}
use mathlib.Core.Logic.{inl, inr}
use Prim.Native.Nat.{ℕ, zero, suc, ◌+◌, ◌*◌, ◌<◌}
use native.Mathlib.Omega.{arith}
use lib.ListN.{length, length-append}
use Rattle.fabric.specs.Run.{reset_machine, run_of}
use Rattle.places.specs.Capture.{inputs_in}
use Rattle.runs.specs.Run.{Run, run_from, FrameStartAt}
use Rattle.promises.proofs.Recording.{record_read}
use Rattle.plans.specs.Plan.{Plan, te, inputs_of}
use Rattle.frames.specs.Writing.{frame_records}
use Rattle.plans.proofs.Refusals.{taken}
use Rattle.frames.proofs.Writes.{records_length}
use Rattle.delivery.proofs.Placed.{frame_here}
use Rattle.delivery.specs.Written.{Writable, WrittenAt, Follows, InPlace, RecordsBringFrames, capture_of, frame_at, start_of, CapturesOfFrames}
use Rattle.delivery.proofs.Writing.{start_at}

pub records_bring_frames : RecordsBringFrames
records_bring_frames m before behind s p e k h = frame_here p before behind s k e h ∙ record_read (inputs_of p k) refl refl

-- the capture before frame n, frame n, and the capture behind it
record Around (ps : List Plan) (n : ℕ) : Type 0 where
  pub before : List ℕ
  pub behind : List ℕ
  pub is : capture_of ps ≡ before ++ (frame_records (frame_at ps n) ++ behind)
  pub long : length before ≡ 5 * start_of ps n

around : (ps : List Plan) (n : ℕ) → n < length ps → Around ps n
unfolding capture_of start_of
around [] n h = absurd (omega (arith, h))
around (p ∷ ps) zero h = record { before = []; behind = capture_of ps; is = refl; long = omega arith }
around (p ∷ ps) (suc n) h =
    let a = around ps n (omega (arith, h)) in
    record {
      before = frame_records p ++ a.before;
      behind = a.behind;
      is = ap (λ (l : List ℕ). frame_records p ++ l) a.is ∙ sym (append_assoc (frame_records p) a.before (frame_records (frame_at ps n) ++ a.behind));
      long = length-append (frame_records p) a.before ∙ omega (arith, a.long, records_length p (te p));
    }

-- frame n + 1 starts where frame n ends
starts_next : (ps : List Plan) (n : ℕ) → suc n < length ps → start_of ps n + te (frame_at ps n) ≡ start_of ps (suc n)
unfolding start_of
starts_next [] n h = absurd (omega (arith, h))
starts_next (p ∷ ps) zero h = omega arith
starts_next (p ∷ ps) (suc n) h = let e = starts_next ps n (omega (arith, h)) in omega (arith, e)

module _ (ps : List Plan) (ok : (n : ℕ) → n < length ps → Writable (frame_at ps n)) where
  abbrev r : Run
  r = run_from reset_machine (inputs_in (capture_of ps))

  written : (n : ℕ) → n < length ps → WrittenAt r (start_of ps n) (frame_at ps n)
  written n h k l =
      let a = around ps n h in
      ap (λ (c : List ℕ). inputs_in c (start_of ps n + k)) a.is ∙ records_bring_frames reset_machine a.before a.behind (start_of ps n) (frame_at ps n) a.long k l

  starts : (n : ℕ) → n < length ps → 0 < te (frame_at ps n)
  starts n h = omega (arith, (taken (frame_at ps n) (5 * te (frame_at ps n)) (ok n h)).limits.cycles_some)

  follows : (n : ℕ) → n < length ps → Follows r (start_of ps n)
  unfolding run_of start_of
  follows zero h = inl (refl, refl)
  follows (suc n) h =
      let less : n < length ps = omega (arith, h) in
      inr (record { plan = frame_at ps n; start = start_of ps n; writable = ok n less; written = written n less; ends = starts_next ps n h })

  in_place : (n : ℕ) → suc n < length ps → InPlace r (start_of ps n) (frame_at ps n)
  in_place n h =
      let here : n < length ps = omega (arith, h) in
      record {
        writable = ok n here;
        written = written n here;
        follows = follows n here;
        next = subst (FrameStartAt r) (sym (starts_next ps n h)) (start_at r (start_of ps (suc n)) (frame_at ps (suc n)) (written (suc n) h) (starts (suc n) h));
      }

pub captures_of_frames : CapturesOfFrames
captures_of_frames ps ok n h = in_place ps ok n h
