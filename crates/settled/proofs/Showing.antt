-- What the heads show if nothing more is sent: from the fourth cycle on nothing, so the first four say all. Assumes nothing.
use mathlib.Core.Bool.{Bool, true, false, not}
use mathlib.Core.Path.{◌≡◌, refl, ap, ◌∙◌}
use mathlib.Core.List.{List}
use Prim.Native.Nat.{ℕ, zero, suc, ◌<◌}
use native.Mathlib.Omega.{arith}
use lib.Dec.{eqb}
use lib.ListN.{get_or}
use borrow.Author.Tests.{not-true, not-false, eqb-true, eqb-false}
use Rattle.routing.specs.Turn.{in_turn}
use Rattle.routing.proofs.Fours.{yes_unless, no_at}
use Rattle.routing.proofs.Turns.{turn_named}
use Rattle.states.specs.State.{shut_at, zero_row}
use Rattle.fabric.specs.Cycle.{Machine, state_after, rows_after, switch_byte}
use Rattle.fabric.specs.Run.{run_of}
use Rattle.runs.specs.Run.{Run, run_from, holder}
use Rattle.runs.proofs.Cycles.{second_two, head_two}
use Rattle.runs.proofs.Showing.{zero_row_lem}
use Rattle.settled.specs.Ahead.{quiet, later_byte, on_its_way}
use Rattle.settled.specs.OnItsWay.{ShownLater, OnItsWayExactly, OnItsWayThere}

-- zeros come out of latches that hold zeros
from_zeros : (shut : Bool) (i : ℕ) {row : List ℕ} → row ≡ zero_row → switch_byte shut i row ≡ 0
from_zeros true i e = refl
from_zeros false i e = ap (λ (row : List ℕ). get_or row i 0) e ∙ zero_row_lem i

module _ (m : Machine) (h : ℕ) (less : h < 4) where
  abbrev run : Run
  run = run_from m quiet

  -- the bytes that were inside have left the second latches by cycle 2
  shown_out : (k : ℕ) → later_byte m h (suc (suc (suc (suc k)))) ≡ 0
  shown_out k = head_two run (suc (suc k)) h less ∙ from_zeros (shut_at (run.at (suc (suc k))).state h) (holder run (suc (suc k)) h) (second_two run k)

  abbrev seen : ℕ → Bool
  seen k = not (eqb (later_byte m h k) 0)

  zero_if : (k : ℕ) → seen k ≡ false → later_byte m h k ≡ 0
  zero_if k e = eqb-true _ _ (not-false _ e)

  none_later : on_its_way m h ≡ false → (k : ℕ) → later_byte m h k ≡ 0
  unfolding on_its_way
  none_later e zero = zero_if 0 (no_at seen e 0 (omega arith))
  none_later e (suc zero) = zero_if 1 (no_at seen e 1 (omega arith))
  none_later e (suc (suc zero)) = zero_if 2 (no_at seen e 2 (omega arith))
  none_later e (suc (suc (suc zero))) = zero_if 3 (no_at seen e 3 (omega arith))
  none_later e (suc (suc (suc (suc k)))) = shown_out k

  some_later : on_its_way m h ≡ true → ShownLater m h
  unfolding on_its_way
  some_later e =
      let k = in_turn seen 0 in
      record { cycle = k; shows = eqb-false _ _ (not-true _ (turn_named seen 0 e)) }

  was_inside : ShownLater m h → on_its_way m h ≡ true
  was_inside s = yes_unless (λ e. s.shows (none_later e s.cycle))

pub nothing_later : (m : Machine) (h : ℕ) → h < 4 → on_its_way m h ≡ false → (k : ℕ) → later_byte m h k ≡ 0
nothing_later = none_later

pub on_its_way_exactly : OnItsWayExactly
on_its_way_exactly m h less = (some_later m h less, was_inside m h less)

pub on_its_way_there : OnItsWayThere
unfolding on_its_way run_of state_after rows_after
on_its_way_there = refl
