-- Stretches of cycles without a frame start and without a routing, and what the heads and the acknowledgements are in them. Assumes nothing.
use mathlib.Core.Bool.{Bool, true, false, not, ◌&&◌}
use mathlib.Core.Path.{◌≡◌, refl, ap, subst, ◌∙◌}
use mathlib.Core.Logic.{◌⊎◌, inl, inr}
use mathlib.Core.List.{List}
use Prim.Native.Nat.{ℕ, zero, suc, ◌+◌, ◌<◌, ◌≤◌}
use native.Mathlib.Omega.{arith}
use native.Mathlib.Decide.{le_ind}
use native.Mathlib.Nat.{eq-or-lt_of_le}
use lib.Dec.{eqb}
use lib.ListN.{get_or}
use borrow.Author.Tests.{eqb-true, eq-eqb, not-true}
use Rattle.routing.specs.Header.{some_active}
use Rattle.routing.specs.Turn.{in_turn}
use Rattle.routing.proofs.Fours.{none_of, some_of, and_left, and_right, and_no_right}
use Rattle.routing.proofs.Turns.{turn_lt, turn_named}
use Rattle.states.specs.State.{shut_at, first_row}
use Rattle.fabric.specs.Cycle.{Machine, passes, switch_byte}
use Rattle.runs.specs.Run.{Run, sent, NoFrameStartAt, AcknowledgedBy, head, ack, holder, Shut, Open, headers_at}
use Rattle.runs.specs.Routing.{NoRoutingAt}
use Rattle.runs.specs.Frame.{NoneActiveBefore, ZerosBeforeReset, NoneActiveFrom}
use Rattle.runs.proofs.Cycles.{phase_kept, shut_kept, holder_kept, second_is, second_two, head_two}

-- ---- the heads, from the cycle k two before t

module _ (r : Run) (t k o : ℕ) (l : o < 4) (e : t ≡ k + 2) where
  head_from : head r t o ≡ switch_byte (shut_at (r.at k).state o) (holder r k o) (headers_at r k)
  head_from = let q : t ≡ suc (suc k) = omega arith in ap (λ (j : ℕ). head r j o) q ∙ head_two r k o l

  pub head_shut : Shut r k o → head r t o ≡ 0
  head_shut s = head_from ∙ rw s

  pub head_open : (j : ℕ) → k ≡ j + 2 → Open r k o → head r t o ≡ sent r j (holder r k o)
  head_open j f s =
      let q : k ≡ suc (suc j) = omega arith in
      head_from ∙ rw s (ap (λ (row : List ℕ). get_or row (holder r k o) 0) (ap (headers_at r) q ∙ second_two r j))

-- ---- rule 2, both ways

pub record GivenBy (r : Run) (t i o : ℕ) : Type 0 where
  pub is_output : o < 4
  pub is_open : Open r t o
  pub holds : holder r t o ≡ i
  pub acknowledged : AcknowledgedBy r t o

module _ (r : Run) (t i : ℕ) where
  abbrev passed : ℕ → Bool
  passed = passes (r.at t).state (r.ins t).acks i

  pub ack_none : ((o : ℕ) → o < 4 → Shut r t o) → ack r t i ≡ false
  ack_none s = none_of passed (λ o l. rw (s o l))

  pub ack_from : ack r t i ≡ true → GivenBy r t i (in_turn passed 0)
  ack_from e =
      let o = in_turn passed 0 in
      let x = not (shut_at (r.at t).state o) in
      let y = eqb (holder r t o) i in
      let z = get_or (r.ins t).acks o false in
      let p = turn_named passed 0 e in
      let q = and_left (x && y) z p in
      record {
        is_output = turn_lt passed 0;
        is_open = not-true (shut_at (r.at t).state o) (and_left x y q);
        holds = eqb-true (holder r t o) i (and_right x y q);
        acknowledged = and_right (x && y) z p;
      }

  pub ack_to : (o : ℕ) → GivenBy r t i o → ack r t i ≡ true
  ack_to o g = some_of passed o g.is_output (rw (g.is_open, eq-eqb (holder r t o) i g.holds) g.acknowledged)

-- ---- no routing

pub quiet_headers : (r : Run) (t : ℕ) → some_active (headers_at r t) ≡ false → NoRoutingAt r t
quiet_headers r t = and_no_right (r.at t).state.waiting (some_active (headers_at r t))

pub running_no_routing : (r : Run) (t : ℕ) → (r.at t).state.waiting ≡ false → NoRoutingAt r t
running_no_routing r t e = rw e

pub zeros_before_reset : ZerosBeforeReset
zeros_before_reset r start = ap (λ (m : Machine). some_active (first_row m.rows)) start

-- where no active bit is sent in ts-1 .. e-1, no routing happens in ts+1 .. e+1
pub quiet_no_routing : (r : Run) (ts e : ℕ) → NoneActiveFrom r ts e → (t : ℕ) → ts < t → t < e + 2 → NoRoutingAt r t
quiet_no_routing r ts e q zero lo hi = absurd (omega arith)
quiet_no_routing r zero e q (suc zero) lo hi = quiet_headers r 1 (ap some_active (second_is r 0) ∙ q.before)
quiet_no_routing r (suc ts) e q (suc zero) lo hi = absurd (omega arith)
quiet_no_routing r ts e q (suc (suc t)) lo hi = quiet_headers r (suc (suc t)) (ap some_active (second_two r t) ∙ go (eq-or-lt_of_le lo'))
  where
    lo' : ts ≤ suc t
    lo' = omega arith

    go : (ts ≡ suc t) ⊎ (ts < suc t) → some_active (r.ins t).bytes ≡ false
    go (inl same) = subst (NoneActiveBefore r) same q.before
    go (inr less) = q.until t (omega arith) (omega arith)

-- ---- a stretch from cycle b on: the state stays as it was at b

pub record Same (r : Run) (b t : ℕ) : Type 0 where
  pub phase : (r.at t).state.waiting ≡ (r.at b).state.waiting
  pub shut : (o : ℕ) → o < 4 → shut_at (r.at t).state o ≡ shut_at (r.at b).state o
  pub held : (o : ℕ) → o < 4 → holder r t o ≡ holder r b o

pub stretch : (r : Run) (b e : ℕ) → ((k : ℕ) → b ≤ k → k < e → NoFrameStartAt r k) → ((k : ℕ) → b ≤ k → k < e → Same r b k → NoRoutingAt r k)
    → (t : ℕ) → b ≤ t → t ≤ e → Same r b t
stretch r b e starts routings =
    le_ind {n = b} (λ (k : ℕ). k ≤ e → Same r b k) (λ _. record { phase = refl; shut = λ o l. refl; held = λ o l. refl })
    (λ k m p u.
    let s = p (omega arith) in
    let f = starts k m u in
    let n = routings k m u s in
    record {
      phase = phase_kept r k f n ∙ s.phase;
      shut = λ o l. shut_kept r k o l f n ∙ s.shut o l;
      held = λ o l. holder_kept r k o l n ∙ s.held o l;
    })
