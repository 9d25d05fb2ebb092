-- The limits, the order of the refusals, and what a frame has that is not refused. Assumes nothing.
use mathlib.Core.Bool.{Bool, true, false}
use mathlib.Core.Path.{◌≡◌, refl}
use Prim.Native.Nat.{ℕ, ◌+◌, ◌*◌, ◌<◌, ◌≤◌}
use native.Mathlib.Omega.{arith}
use lib.Dec.{ltb}
use borrow.Author.Tests.{lt-ltb, le-ltb, ltb-false}
use Rattle.states.specs.State.{◌when◌otherwise◌}
use Rattle.routing.proofs.Fours.{or_left, or_right, no_at}
use Rattle.plans.specs.Plan.{Plan, cell_of, th, te}
use Rattle.plans.specs.Refusal.{outside, off_limits, header_inactive, body_wrong, too_late, in_some, no_room, write_refusal}

-- what is not outside the limits is within them
pub record Within (gap cycles : ℕ) : Type 0 where
  pub gap_some : 1 ≤ gap
  pub gap_few : gap ≤ 16
  pub cycles_some : gap + 2 ≤ cycles
  pub cycles_few : cycles ≤ 4096

pub within : (gap cycles : ℕ) → off_limits gap cycles ≡ false → Within gap cycles
within gap cycles e =
    let g = or_left (outside 1 16 gap) (outside (gap + 2) 4096 cycles) e in
    let c = or_right (outside 1 16 gap) (outside (gap + 2) 4096 cycles) e in
    record {
      gap_some = ltb-false _ _ (or_left (ltb gap 1) (ltb 16 gap) g);
      gap_few = ltb-false _ _ (or_right (ltb gap 1) (ltb 16 gap) g);
      cycles_some = ltb-false _ _ (or_left (ltb cycles (gap + 2)) (ltb 4096 cycles) c);
      cycles_few = ltb-false _ _ (or_right (ltb cycles (gap + 2)) (ltb 4096 cycles) c);
    }

module _ (p : Plan) (room : ℕ) where
  pub number_20 : off_limits p.gap p.cycles ≡ true → 20 ≡ write_refusal p room
  unfolding write_refusal
  number_20 h = rw h

  module _ (no-20 : off_limits p.gap p.cycles ≡ false) where
    pub number_21 : in_some header_inactive p.cells ≡ true → 21 ≡ write_refusal p room
    unfolding write_refusal
    number_21 h = rw (no-20, h)

    module _ (no-21 : in_some header_inactive p.cells ≡ false) where
      pub number_22 : in_some body_wrong p.cells ≡ true → 22 ≡ write_refusal p room
      unfolding write_refusal
      number_22 h = rw (no-20, no-21, h)

      module _ (no-22 : in_some body_wrong p.cells ≡ false) where
        pub number_23 : in_some (too_late (th p) (te p)) p.cells ≡ true → 23 ≡ write_refusal p room
        unfolding write_refusal
        number_23 h = rw (no-20, no-21, no-22, h)

        module _ (no-23 : in_some (too_late (th p) (te p)) p.cells ≡ false) where
          pub number_24 : room < 5 * p.cycles → 24 ≡ write_refusal p room
          unfolding write_refusal
          number_24 h = rw (no-20, no-21, no-22, no-23, lt-ltb _ _ h)

          pub no_number : 5 * p.cycles ≤ room → 0 ≡ write_refusal p room
          unfolding write_refusal
          no_number h = rw (no-20, no-21, no-22, no-23, le-ltb _ _ h)

-- the tests that a frame passes which is not refused
record Passes (p : Plan) (room : ℕ) : Type 0 where
  pub limits : off_limits p.gap p.cycles ≡ false
  pub headers : in_some header_inactive p.cells ≡ false
  pub bodies : in_some body_wrong p.cells ≡ false
  pub in_time : in_some (too_late (th p) (te p)) p.cells ≡ false
  pub room_enough : 5 * te p ≤ room

passes : (p : Plan) (room : ℕ) → write_refusal p room ≡ 0 → Passes p room
unfolding write_refusal
passes p room z =
    go (off_limits p.gap p.cycles) (in_some header_inactive p.cells) (in_some body_wrong p.cells) (in_some (too_late (th p) (te p)) p.cells) (no_room p.cycles room) refl refl refl refl refl z
  where
    go : (a b c d e : Bool) → off_limits p.gap p.cycles ≡ a → in_some header_inactive p.cells ≡ b → in_some body_wrong p.cells ≡ c
        → in_some (too_late (th p) (te p)) p.cells ≡ d → no_room p.cycles room ≡ e
        → (20 when a otherwise 21 when b otherwise 22 when c otherwise 23 when d otherwise 24 when e otherwise 0) ≡ 0 → Passes p room
    go true b c d e pa pb pc pd pe z = absurd (omega arith)
    go false true c d e pa pb pc pd pe z = absurd (omega arith)
    go false false true d e pa pb pc pd pe z = absurd (omega arith)
    go false false false true e pa pb pc pd pe z = absurd (omega arith)
    go false false false false true pa pb pc pd pe z = absurd (omega arith)
    go false false false false false pa pb pc pd pe z = record { limits = pa; headers = pb; bodies = pc; in_time = pd; room_enough = ltb-false _ _ pe }

-- and so what it has
pub record Taken (p : Plan) (room : ℕ) : Type 0 where
  pub limits : Within p.gap p.cycles
  pub headers : (i : ℕ) → i < 4 → header_inactive (cell_of p i) ≡ false
  pub bodies : (i : ℕ) → i < 4 → body_wrong (cell_of p i) ≡ false
  pub in_time : (i : ℕ) → i < 4 → too_late (th p) (te p) (cell_of p i) ≡ false
  pub room_enough : 5 * te p ≤ room

pub taken : (p : Plan) (room : ℕ) → write_refusal p room ≡ 0 → Taken p room
taken p room z =
    let t = passes p room z in
    record {
      limits = within _ _ t.limits;
      headers = no_at (λ i. header_inactive (cell_of p i)) t.headers;
      bodies = no_at (λ i. body_wrong (cell_of p i)) t.bodies;
      in_time = no_at (λ i. too_late (th p) (te p) (cell_of p i)) t.in_time;
      room_enough = t.room_enough;
    }

-- what is not refused in one buffer is refused in none that has room
pub room_alike : (p : Plan) (room other : ℕ) → write_refusal p room ≡ 0 → 5 * te p ≤ other → write_refusal p other ≡ 0
unfolding write_refusal
room_alike p room other z h =
    let t = passes p room z in rw (t.limits, t.headers, t.bodies, t.in_time, le-ltb _ _ h)
