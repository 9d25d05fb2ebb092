-- The report says who won. Assumes nothing.
use mathlib.Core.Bool.{Bool, true, false}
use mathlib.Core.Path.{◌≡◌, refl, sym, ap, ◌∙◌}
use mathlib.Core.List.{List}
use Prim.Native.Nat.{ℕ, suc, ◌<◌}
use native.Mathlib.Omega.{arith}
use Rattle.routing.specs.declared.port.Input.{Input}
use Rattle.routing.specs.declared.route.Outcome.{Outcome}
use Rattle.routing.specs.declared.route.Outcome.TheVariants.{Quiet, Won}
use Rattle.routing.specs.declared.route.Outcomes.{Outcomes}
use Rattle.routing.specs.declared.route.Report.{Report}
use Rattle.routing.specs.declared.route.Report.TheVariants.{NoRouting, Routing}
use Rattle.routing.specs.Header.{asker}
use Rattle.routing.specs.Port.{input}
use Rattle.routing.specs.Route.{asked, winner, turned_away_of, decided, outcomes}
use Rattle.routing.proofs.Decisions.{reports, reports_none}
use Rattle.routing.proofs.Masks.{count_some}
use Rattle.routing.proofs.Fours.{at_four, not_both, yes_unless, no_unless}
use Rattle.runs.specs.Run.{Run, holder, report_at, headers_at}
use Rattle.runs.specs.Routing.{RoutingAt, NoRoutingAt, askers, Wins}
use Rattle.runs.specs.Winning.{outcome_of, Reports, Reporting}
use Rattle.runs.proofs.Cycles.{holder_won}
use Rattle.runs.proofs.Askers.{asked_for, is_asked, not_asked, by_nobody}

-- ---- what can be read off a report and an outcome

abbrev is_routing : Report → Bool
is_routing NoRouting = false
is_routing (Routing x) = true

abbrev outcomes_in : Report → Outcomes
outcomes_in NoRouting = record { output0 = Quiet; output1 = Quiet; output2 = Quiet; output3 = Quiet }
outcomes_in (Routing x) = x

abbrev is_won : Outcome → Bool
is_won Quiet = false
is_won (Won w n) = true

abbrev winner_in : Outcome → ℕ
winner_in Quiet = 0
winner_in (Won w n) = w.0

abbrev count_in : Outcome → ℕ
count_in Quiet = 0
count_in (Won w n) = n

module _ (r : Run) (t : ℕ) where
  abbrev headers : List ℕ
  headers = headers_at r t

  abbrev made : Outcomes
  made = outcomes (r.at t).state.holders headers

  routed : RoutingAt r t → report_at r t ≡ Routing made
  routed n = sym (reports (r.at t).state.waiting (r.at t).state.holders headers refl n refl)

  none : NoRoutingAt r t → report_at r t ≡ NoRouting
  none n = sym (reports_none (r.at t).state.waiting (r.at t).state.holders headers refl n)

  was_routed : {x : Outcomes} → report_at r t ≡ Routing x → RoutingAt r t
  was_routed e = yes_unless (λ n. not_both (ap is_routing e) (ap is_routing (none n)))

  not_routed : report_at r t ≡ NoRouting → NoRoutingAt r t
  not_routed e = no_unless (λ n. not_both (ap is_routing (routed n)) (ap is_routing e))

  module _ (o : ℕ) (l : o < 4) where
    outcome_is : outcome_of made o ≡ decided headers o (holder r t o)
    outcome_is = at_four (λ o. decided headers o (holder r t o)) Quiet o l

    said : {x : Outcome} → Reports r t o x → decided headers o (holder r t o) ≡ x
    said p = sym outcome_is ∙ ap (λ (y : Report). outcome_of (outcomes_in y) o) (sym (routed (was_routed p.routing)) ∙ p.routing) ∙ p.says

    reporting_of : {x : Outcome} → RoutingAt r t → decided headers o (holder r t o) ≡ x → Reports r t o x
    reporting_of n e = record { outcomes = made; routing = routed n; says = outcome_is ∙ e }

    decided_won : asked headers o ≡ true → decided headers o (holder r t o) ≡ Won (input (winner headers o (holder r t o))) (turned_away_of headers o)
    unfolding decided
    decided_won a = rw a

    decided_quiet : asked headers o ≡ false → decided headers o (holder r t o) ≡ Quiet
    unfolding decided
    decided_quiet a = rw a

    asked_if : {w : Input} {n : ℕ} → Reports r t o (Won w n) → asked headers o ≡ true
    asked_if p = yes_unless (λ a. not_both (ap is_won (said p)) (ap is_won (decided_quiet a)))

    unasked_if : Reports r t o Quiet → asked headers o ≡ false
    unasked_if p = no_unless (λ a. not_both (ap is_won (decided_won a)) (ap is_won (said p)))

    module _ (i n : ℕ) where
      won_then : Reports r t o (Won (input i) n) → Wins r t i o × (suc n ≡ askers r t o)
      won_then p =
          let a = asked_if p in
          let h = was_routed p.routing in
          let e = sym (decided_won a) ∙ said p in
          let c = count_some (asker headers o) a in
          let m : turned_away_of headers o ≡ n = ap count_in e in
          (record { routing = h; asked = asked_for r t o a; new_holder = holder_won r t o l h a ∙ ap winner_in e }, omega arith)

      then_won : Wins r t i o × (suc n ≡ askers r t o) → Reports r t o (Won (input i) n)
      then_won p =
          let w = p.0 in
          let a = is_asked r t o w.asked in
          let m : turned_away_of headers o ≡ n = let e = p.1 in omega arith in
          reporting_of w.routing
          (decided_won a
          ∙ ap (λ (x : ℕ). Won (input x) (turned_away_of headers o)) (sym (holder_won r t o l w.routing a) ∙ w.new_holder)
          ∙ ap (λ (x : ℕ). Won (input i) x) m)

pub reporting : (r : Run) → Reporting r
reporting r = record {
  won = λ t o i n l. (won_then r t o l i n, then_won r t o l i n);
  quiet = λ t o l. (
    λ p. (was_routed r t p.routing, by_nobody r t o (unasked_if r t o l p)),
    λ p. reporting_of r t o l p.0 (decided_quiet r t o l (not_asked r t o p.1)),
  );
  none = λ t. (not_routed r t, none r t);
}
