-- One cycle of a run: rules 4 to 7 as equations, case by case. Assumes nothing.
use mathlib.Core.Bool.{true, false, ◌&&◌}
use mathlib.Core.Path.{◌≡◌, ap, ◌∙◌}
use mathlib.Core.List.{List}
use Prim.Native.Nat.{ℕ, suc, ◌<◌}
use lib.ListN.{get_or}
use Rattle.routing.specs.declared.port.Input.{Input}
use Rattle.routing.specs.Four.{four}
use Rattle.routing.specs.Route.{asked, winner}
use Rattle.routing.proofs.Fours.{at_four}
use Rattle.states.specs.declared.state.State.{State}
use Rattle.states.specs.State.{shut_at, holder_of, first_row, second_row, switch_row, head_row}
use Rattle.fabric.specs.Cycle.{Machine, shown, waiting_after, shut_after, holder_after, state_after, switch_byte, switch_after, rows_after}
use Rattle.fabric.proofs.Steps.{waiting_step, shut_step, holder_step}
use Rattle.runs.specs.Run.{Run, FrameStartAt, NoFrameStartAt, head, holder, Shut, Open, headers_at}
use Rattle.runs.specs.Routing.{routes_at, RoutingAt, NoRoutingAt}

module _ (r : Run) (t : ℕ) where
  abbrev now : State
  now = (r.at t).state

  abbrev next : State
  next = (r.at (suc t)).state

  abbrev headers : List ℕ
  headers = headers_at r t

  next_is : next ≡ state_after now headers (r.ins t).frame
  next_is = ap (λ (m : Machine). m.state) (r.steps t)

  -- rule 5
  waiting_is : next.waiting ≡ waiting_after (r.ins t).frame (routes_at r t) now.waiting
  waiting_is = ap (λ (s : State). s.waiting) next_is ∙ waiting_step now headers (r.ins t).frame

  pub waits_started : FrameStartAt r t → next.waiting ≡ true
  waits_started f = waiting_is ∙ rw f

  pub runs_routed : NoFrameStartAt r t → RoutingAt r t → next.waiting ≡ false
  runs_routed f n = waiting_is ∙ rw (f, n)

  pub phase_kept : NoFrameStartAt r t → NoRoutingAt r t → next.waiting ≡ now.waiting
  phase_kept f n = waiting_is ∙ rw (f, n)

  module _ (o : ℕ) (l : o < 4) where
    -- rule 6
    shut_is : shut_at next o ≡ shut_after (r.ins t).frame (routes_at r t && asked headers o) (shut_at now o)
    shut_is = ap (λ (s : State). shut_at s o) next_is ∙ shut_step now headers (r.ins t).frame o l

    pub shut_started : FrameStartAt r t → Shut r (suc t) o
    shut_started f = shut_is ∙ rw f

    pub shut_kept : NoFrameStartAt r t → NoRoutingAt r t → shut_at next o ≡ shut_at now o
    shut_kept f n = shut_is ∙ rw (f, n)

    pub shut_unasked : NoFrameStartAt r t → RoutingAt r t → asked headers o ≡ false → shut_at next o ≡ shut_at now o
    shut_unasked f n a = shut_is ∙ rw (f, n, a)

    pub open_asked : NoFrameStartAt r t → RoutingAt r t → asked headers o ≡ true → Open r (suc t) o
    open_asked f n a = shut_is ∙ rw (f, n, a)

    -- rule 4
    holder_is : holder r (suc t) o ≡ (holder_after (routes_at r t) headers o (holder_of now o)).0
    holder_is = ap (λ (s : State). (holder_of s o).0) next_is ∙ ap (λ (x : Input). x.0) (holder_step now headers (r.ins t).frame o l)

    pub holder_kept : NoRoutingAt r t → holder r (suc t) o ≡ holder r t o
    holder_kept n = holder_is ∙ rw n

    pub holder_unasked : RoutingAt r t → asked headers o ≡ false → holder r (suc t) o ≡ holder r t o
    holder_unasked n a = holder_is ∙ rw (n, a)

    pub holder_won : RoutingAt r t → asked headers o ≡ true → holder r (suc t) o ≡ winner headers o (holder r t o)
    holder_won n a = holder_is ∙ rw (n, a)

  -- rule 7
  rows_are : (r.at (suc t)).rows ≡ rows_after now (r.at t).rows (r.ins t).bytes
  rows_are = ap (λ (m : Machine). m.rows) (r.steps t)

  first_is : first_row (r.at (suc t)).rows ≡ (r.ins t).bytes
  unfolding rows_after
  first_is = ap first_row rows_are

  pub second_is : headers_at r (suc t) ≡ first_row (r.at t).rows
  unfolding rows_after
  second_is = ap second_row rows_are

  switch_is : switch_row (r.at (suc t)).rows ≡ four (switch_after now headers)
  unfolding rows_after
  switch_is = ap switch_row rows_are

  heads_are : shown (r.at (suc t)) ≡ switch_row (r.at t).rows
  unfolding rows_after
  heads_are = ap head_row rows_are

-- two cycles on
module _ (r : Run) (t : ℕ) where
  pub second_two : headers_at r (suc (suc t)) ≡ (r.ins t).bytes
  second_two = second_is r (suc t) ∙ first_is r t

  pub head_two : (o : ℕ) → o < 4 → head r (suc (suc t)) o ≡ switch_byte (shut_at (r.at t).state o) (holder r t o) (headers_at r t)
  head_two o l = ap (λ (row : List ℕ). get_or row o 0) (heads_are r (suc t) ∙ switch_is r t) ∙ at_four (switch_after (r.at t).state (headers_at r t)) 0 o l

  pub head_one : (o : ℕ) → head r (suc t) o ≡ get_or (switch_row (r.at t).rows) o 0
  head_one o = ap (λ (row : List ℕ). get_or row o 0) (heads_are r t)
