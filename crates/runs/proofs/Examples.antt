-- The examples, computed. Assumes nothing.
use mathlib.Core.Bool.{Bool, false, ◌||◌}
use mathlib.Core.Path.{◌≡◌, refl, sym, ap, ◌∙◌}
use mathlib.Core.List.{[], ◌∷◌}
use Prim.Native.Nat.{ℕ, zero, suc, ◌+◌, ◌<◌, ◌≤◌}
use native.Mathlib.Omega.{arith}
use lib.Dec.{eqb, lit<, lit≤}
use lib.ListN.{get_or}
use borrow.Author.Tests.{ne_eqb}
use Rattle.routing.specs.Header.{asks_high}
use Rattle.routing.specs.Turn.{in_turn}
use Rattle.routing.proofs.Fours.{not_both}
use Rattle.fabric.specs.Cycle.{state_after, rows_after}
use Rattle.fabric.specs.Run.{run_of}
use Rattle.runs.specs.Run.{NoneActiveAt, holder}
use Rattle.runs.specs.Routing.{InHighestClass, routings_before, KthRouting}
use Rattle.runs.proofs.Frames.{active_frames}
use Rattle.runs.specs.Examples.{worked, WorkedFrame, ThePoint, crowd, ThreeAreNotEnough}

worked_quiet : (t : ℕ) → 0 ≤ t → t < 2 → NoneActiveAt worked t
worked_quiet zero l h = refl
worked_quiet (suc zero) l h = refl
worked_quiet (suc (suc t)) l h = absurd (omega arith)

pub worked_frame : WorkedFrame
unfolding run_of state_after rows_after in_turn
worked_frame = record {
  active = record {
    frame = record {
      starts = refl;
      later = lit< tt;
      none_between = λ t l h. ap (λ (b : Bool). b || eqb t 11) (ne_eqb t 0 (λ e. omega arith)) ∙ ne_eqb t 11 (λ e. omega arith);
      next = refl;
    };
    none_before = record { before = refl; until = worked_quiet };
    header = refl;
    late = lit≤ tt;
    long = lit≤ tt;
    none_at_end = refl;
  };
  won_1 = record { routing = refl; asked = record { by = 1; is_input = lit< tt; asks = refl }; new_holder = refl };
  won_3 = record { routing = refl; asked = record { by = 2; is_input = lit< tt; asks = refl }; new_holder = refl };
}

pub the_point : ThePoint
the_point = (active_frames worked 0 2 11 worked_frame.active).heads.winner's 8 1 1 (lit< tt) (lit≤ tt) (lit≤ tt) worked_frame.won_1

-- ---- the crowd

no_high : (i : ℕ) → asks_high 0 (get_or (1 ∷ 1 ∷ 1 ∷ 1 ∷ []) i 0) ≡ false
no_high zero = refl
no_high (suc zero) = refl
no_high (suc (suc zero)) = refl
no_high (suc (suc (suc zero))) = refl
no_high (suc (suc (suc (suc i)))) = refl

all_ask : (t : ℕ) → InHighestClass crowd (suc (suc t)) 0 0
unfolding run_of rows_after
all_ask t = record { asks = refl; highest = λ i l e. absurd (not_both e (no_high i)) }

in_a_row : (j : ℕ) → j < 3 → KthRouting crowd (0 + j) (suc (suc j))
unfolding run_of state_after rows_after in_turn routings_before
in_a_row zero h = record { happens = refl; number = refl }
in_a_row (suc zero) h = record { happens = refl; number = refl }
in_a_row (suc (suc zero)) h = record { happens = refl; number = refl }
in_a_row (suc (suc (suc j))) h = absurd (omega arith)

next_holder : (j : ℕ) → j < 3 → holder crowd (suc (suc (suc j))) 0 ≡ suc j
unfolding run_of state_after rows_after in_turn
next_holder zero h = refl
next_holder (suc zero) h = refl
next_holder (suc (suc zero)) h = refl
next_holder (suc (suc (suc j))) h = absurd (omega arith)

pub three_are_not_enough : ThreeAreNotEnough
unfolding run_of
three_are_not_enough = record {
  from_reset = refl;
  input = 0;
  output = 0;
  is_input = lit< tt;
  is_output = lit< tt;
  first = 0;
  cycle = λ j. suc (suc j);
  row = in_a_row;
  asks = λ j h. all_ask j;
  loses = λ j h w. let e : suc j ≡ 0 = sym (next_holder j h) ∙ w.new_holder in absurd (omega arith);
}
