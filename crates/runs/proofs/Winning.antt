-- Who wins. Assumes nothing.
use mathlib.Core.Bool.{true}
use mathlib.Core.Path.{◌≡◌, refl, sym, subst, ◌∙◌}
use mathlib.Core.List.{List}
use Prim.Native.Nat.{ℕ, suc, ◌+◌, ◌%◌}
use Rattle.routing.specs.Route.{asked, remains, winner}
use Rattle.routing.proofs.Fours.{not_both}
use Rattle.routing.proofs.Winners.{winner_lt, winner_remains}
use Rattle.runs.specs.Run.{Run, holder, headers_at}
use Rattle.runs.specs.Winning.{NextInTurn, Winner, Winning}
use Rattle.runs.proofs.Cycles.{holder_unasked, holder_won}
use Rattle.runs.proofs.Askers.{is_asked, not_asked, remains_then, highest_then}
use Rattle.runs.proofs.Turning.{FirstAfter, first_after}

module _ (r : Run) (t o : ℕ) where
  abbrev headers : List ℕ
  headers = headers_at r t

  next_in_turn : (w : ℕ) → FirstAfter (remains headers o) (holder r t o) w → NextInTurn r t w o
  next_in_turn w f = record {
    steps = f.steps;
    from_one = f.from_one;
    to_four = f.to_four;
    reached = f.reached;
    passed_over = λ k lo hi c. not_both (remains_then r t o ((holder r t o + k) % 4) c) (f.passed_over k lo hi);
  }

  winner_is : asked headers o ≡ true → Winner r t (winner headers o (holder r t o)) o
  winner_is e =
      let w = winner headers o (holder r t o) in
      record {
        is_input = winner_lt headers o (holder r t o) e;
        highest_class = highest_then r t o w (winner_remains headers o (holder r t o) e);
        next_in_turn = next_in_turn w (first_after (remains headers o) (holder r t o));
      }

pub winning : (r : Run) → Winning r
winning r = record {
  has_winner = λ t o n a.
      record { winner = holder r (suc t) o; wins = record { routing = n; asked = a; new_holder = refl }; no_other = λ i w. sym w.new_holder };
  winner_is = λ t w o l v.
      let a = is_asked r t o v.asked in
      subst (λ (x : ℕ). Winner r t x o) (sym (holder_won r t o l v.routing a) ∙ v.new_holder) (winner_is r t o a);
  keeps_holder = λ t o l n e. holder_unasked r t o l n (not_asked r t o e);
}
