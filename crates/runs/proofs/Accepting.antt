-- Accepted states stay accepted. An output that opens at a routing was shut before it, as all are while the machine waits; its new
-- holder's header names it, so no two outputs that open have one holder. Assumes nothing.
use mathlib.Core.Bool.{Bool, true, false, not, ◌&&◌}
use mathlib.Core.Path.{◌≡◌, refl, sym, ap, ◌∙◌}
use mathlib.Core.List.{List}
use Prim.Native.Nat.{ℕ, zero, suc, ◌<◌}
use native.Mathlib.Omega.{arith}
use lib.Dec.{eqb}
use borrow.Author.Tests.{ne_eqb, not-false}
use Rattle.routing.specs.Four.{some}
use Rattle.routing.specs.Header.{output_asked, header_of, some_active}
use Rattle.routing.specs.Route.{asked}
use Rattle.routing.proofs.Fours.{no_at, none_of, and_left, and_no_left, and_no_right}
use Rattle.routing.proofs.Winners.{winner_output}
use Rattle.states.specs.declared.state.State.{State}
use Rattle.states.specs.State.{shut_at, holder_at, open_while_waiting, share_holder, state_refusal}
use Rattle.states.proofs.States.{held_at, not_open_waiting, not_twice}
use Rattle.fabric.specs.Cycle.{Machine}
use Rattle.fabric.specs.Run.{run_of}
use Rattle.fabric.proofs.Steps.{holder_below, no_pair, accepted_of}
use Rattle.runs.specs.Run.{Run, run_from, Accepted, FromReset, FromAccepted, holder, Shut, headers_at}
use Rattle.runs.specs.Routing.{routes_at, RoutingAt}
use Rattle.runs.specs.Accepted.{ResetAccepted, CycleAccepted, RunAccepted}
use Rattle.runs.proofs.Cycles.{runs_routed, phase_kept, shut_started, shut_kept, shut_unasked, holder_kept, holder_won}

-- an accepted state that waits has every output shut
all_shut : (s : State) → Accepted s → s.waiting ≡ true → (o : ℕ) → o < 4 → shut_at s o ≡ true
all_shut s ok waits o h =
    let none : some (λ o. not (shut_at s o)) ≡ false = sym (ap (λ (b : Bool). b && some (λ o. not (shut_at s o))) waits) ∙ not_open_waiting s ok in
    not-false (shut_at s o) (no_at (λ o. not (shut_at s o)) none o h)

module _ (r : Run) (t : ℕ) (ok : Accepted (r.at t).state) where
  abbrev next : State
  next = (r.at (suc t)).state

  abbrev headers : List ℕ
  headers = headers_at r t

  pub routing_shut : RoutingAt r t → (o : ℕ) → o < 4 → Shut r t o
  routing_shut n = all_shut (r.at t).state ok (and_left (r.at t).state.waiting (some_active headers) n)

  below : (o : ℕ) → o < 4 → holder_at next o < 4
  below o h =
      let l = holder_below (r.at t).state headers (r.ins t).frame o h (held_at (r.at t).state ok o h) in
      let e = ap (λ (m : Machine). holder_at m.state o) (r.steps t) in omega arith

  waits_shut : open_while_waiting next ≡ false
  waits_shut = go (r.ins t).frame (routes_at r t) (r.at t).state.waiting refl refl refl
    where
      all : ((o : ℕ) → o < 4 → shut_at next o ≡ true) → open_while_waiting next ≡ false
      all h = and_no_right next.waiting (some (λ o. not (shut_at next o))) (none_of (λ o. not (shut_at next o)) (λ o l. ap not (h o l)))

      runs : next.waiting ≡ false → open_while_waiting next ≡ false
      runs = and_no_left next.waiting (some (λ o. not (shut_at next o)))

      go : (f n w : Bool) → (r.ins t).frame ≡ f → routes_at r t ≡ n → (r.at t).state.waiting ≡ w → open_while_waiting next ≡ false
      go true n w ef en ew = all (λ o l. shut_started r t o l ef)
      go false true w ef en ew = runs (runs_routed r t ef en)
      go false false true ef en ew = all (λ o l. shut_kept r t o l ef en ∙ all_shut (r.at t).state ok ew o l)
      go false false false ef en ew = runs (phase_kept r t ef en ∙ ew)

  -- two outputs share a holder by their flags and holders alone
  share : (a b : ℕ) {sa sb : Bool} {ha hb : ℕ} → shut_at next a ≡ sa → shut_at next b ≡ sb → holder_at next a ≡ ha → holder_at next b ≡ hb
      → (not sa && not sb && eqb ha hb) ≡ false → share_holder next a b ≡ false
  share a b p q u v e = rw (p, q, u, v) e

  shut_first : (a b : ℕ) → shut_at next a ≡ true → share_holder next a b ≡ false
  shut_first a b e = share a b e refl refl refl refl

  shut_second : (a b : ℕ) → shut_at next b ≡ true → share_holder next a b ≡ false
  shut_second a b e = share a b refl e refl refl (no_second (shut_at next a) (eqb (holder_at next a) (holder_at next b)))
    where
      no_second : (x y : Bool) → (not x && false && y) ≡ false
      no_second true y = refl
      no_second false y = refl

  apart : (a b : ℕ) → a < b → b < 4 → share_holder next a b ≡ false
  apart a b less hb = go (r.ins t).frame (routes_at r t) refl refl
    where
      ha : a < 4
      ha = omega arith

      -- the winners' headers name two outputs
      differ : RoutingAt r t → asked headers a ≡ true → asked headers b ≡ true → holder_at next a ≡ holder_at next b → ⊥
      differ n ea eb same =
          let e : a ≡ b =
          sym (winner_output headers a (holder r t a) ea)
          ∙ ap (λ (i : ℕ). output_asked (header_of headers i)) (sym (holder_won r t a ha n ea) ∙ same ∙ holder_won r t b hb n eb)
          ∙ winner_output headers b (holder r t b) eb in
          omega arith

      go : (f n : Bool) → (r.ins t).frame ≡ f → routes_at r t ≡ n → share_holder next a b ≡ false
      go true n ef en = shut_first a b (shut_started r t a ha ef)
      go false false ef en =
          share a b (shut_kept r t a ha ef en) (shut_kept r t b hb ef en) (holder_kept r t a ha en) (holder_kept r t b hb en)
          (no_pair (r.at t).state (not_twice (r.at t).state ok) a b less hb)
      go false true ef en = both (asked headers a) (asked headers b) refl refl
        where
          unasked : (o : ℕ) → o < 4 → asked headers o ≡ false → shut_at next o ≡ true
          unasked o l e = shut_unasked r t o l ef en e ∙ routing_shut en o l

          both : (x y : Bool) → asked headers a ≡ x → asked headers b ≡ y → share_holder next a b ≡ false
          both false y ex ey = shut_first a b (unasked a ha ex)
          both true false ex ey = shut_second a b (unasked b hb ey)
          both true true ex ey = apart_holders (shut_at next a) (shut_at next b) (ne_eqb (holder_at next a) (holder_at next b) (differ en ex ey))
            where
              apart_holders : (x y : Bool) {z : Bool} → z ≡ false → (not x && not y && z) ≡ false
              apart_holders true y e = refl
              apart_holders false true e = refl
              apart_holders false false e = e

  pub next_accepted : Accepted next
  next_accepted = accepted_of next below waits_shut apart

pub reset_accepted : ResetAccepted
unfolding state_refusal
reset_accepted = refl

pub cycle_accepted : CycleAccepted
unfolding run_of
cycle_accepted m i ok = next_accepted (run_from m (λ _. i)) 0 ok

pub run_accepted : RunAccepted
run_accepted r ok zero = ok
run_accepted r ok (suc t) = next_accepted r t (run_accepted r ok t)

pub from_accepted : (r : Run) → FromReset r → FromAccepted r
from_accepted r e = ap (λ (m : Machine). state_refusal m.state) e ∙ reset_accepted
