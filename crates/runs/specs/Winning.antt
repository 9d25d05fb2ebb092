-- Who wins, and how the report says it.
use Rattle.std.specs.Prelude.{◌≡◌, ◌↔◌, [], ◌∷◌, ℕ, suc, ◌+◌, ◌%◌, ◌<◌, ◌≤◌, get_or}
use Rattle.routing.specs.declared.route.Outcome.{Outcome}
use Rattle.routing.specs.declared.route.Outcome.TheVariants.{Quiet, Won}
use Rattle.routing.specs.declared.route.Outcomes.{Outcomes}
use Rattle.routing.specs.declared.route.Report.TheVariants.{NoRouting, Routing}
use Rattle.routing.specs.Port.{input}
use Rattle.runs.specs.Run.{Run, holder, report_at}
use Rattle.runs.specs.Routing.{RoutingAt, NoRoutingAt, AskedFor, askers, InHighestClass, Wins}

-- Input w is next in turn for output o: in the order h+1, h+2, h+3, h (modulo 4) from the old holder h, where four steps lead back to h, w
-- comes after some steps, and nobody who comes earlier is in the highest class asking.
pub record NextInTurn (r : Run) (t w o : ℕ) : Type 0 where
  pub steps : ℕ
  pub from_one : 1 ≤ steps
  pub to_four : steps ≤ 4
  pub reached : w ≡ (holder r t o + steps) % 4
  pub passed_over : (k : ℕ) → 1 ≤ k → k < steps → InHighestClass r t ((holder r t o + k) % 4) o → ⊥

-- A winner is an asker in the highest class asking, and the next in turn of these.
pub record Winner (r : Run) (t w o : ℕ) : Type 0 where
  pub is_input : w < 4
  pub highest_class : InHighestClass r t w o
  pub next_in_turn : NextInTurn r t w o

-- At a routing, an output that is asked for has one winner, and no more.
pub record OneWinner (r : Run) (t o : ℕ) : Type 0 where
  pub winner : ℕ
  pub wins : Wins r t winner o
  pub no_other : (i : ℕ) → Wins r t i o → i ≡ winner

pub record Winning (r : Run) : Type 0 where
  pub has_winner : (t o : ℕ) → RoutingAt r t → AskedFor r t o → OneWinner r t o
  pub winner_is : (t w o : ℕ) → o < 4 → Wins r t w o → Winner r t w o
  pub keeps_holder : (t o : ℕ) → o < 4 → RoutingAt r t → (AskedFor r t o → ⊥) → holder r (suc t) o ≡ holder r t o

-- ---- the report

-- of four outcomes, output o's
abbrev pub outcome_of : Outcomes → ℕ → Outcome
outcome_of outcomes o = get_or (outcomes.output0 ∷ outcomes.output1 ∷ outcomes.output2 ∷ outcomes.output3 ∷ []) o Quiet

-- the report of cycle t has the outcome x for output o
pub record Reports (r : Run) (t o : ℕ) (x : Outcome) : Type 0 where
  pub outcomes : Outcomes
  pub routing : report_at r t ≡ Routing outcomes
  pub says : outcome_of outcomes o ≡ x

-- The report says who won and that all askers but the winner were turned away; that nobody asked; or that there was no routing.
pub record Reporting (r : Run) : Type 0 where
  pub won : (t o i n : ℕ) → o < 4 → Reports r t o (Won (input i) n) ↔ (Wins r t i o × (suc n ≡ askers r t o))
  pub quiet : (t o : ℕ) → o < 4 → Reports r t o Quiet ↔ (RoutingAt r t × (AskedFor r t o → ⊥))
  pub none : (t : ℕ) → (report_at r t ≡ NoRouting) ↔ NoRoutingAt r t
