-- Well-formed frames, of any run. Assumes nothing.
use mathlib.Core.Bool.{Bool, true, false}
use mathlib.Core.Path.{◌≡◌, refl, sym, ap, subst, ◌∙◌}
use mathlib.Core.Logic.{◌⊎◌, inl, inr}
use mathlib.Core.List.{List}
use Prim.Native.Nat.{ℕ, suc, ◌+◌, ◌-◌, ◌<◌, ◌≤◌}
use native.Mathlib.Omega.{arith}
use native.Mathlib.Nat.{eq-or-lt_of_le}
use lib.Dec.{ltb}
use lib.ListN.{get_or}
use borrow.Author.Tests.{ltb-true, ltb-false}
use Rattle.routing.specs.Header.{some_active}
use Rattle.routing.proofs.Fours.{not_both, yes_unless}
use Rattle.runs.specs.Run.{Run, NoFrameStartAt, ack, holder, Shut, Open, headers_at}
use Rattle.runs.specs.Routing.{RoutingAt, NoRoutingAt, AskedFor}
use Rattle.runs.specs.Frame.{ActiveFrame, FromWon, ActiveShows, ActiveFrames, InactiveFrame, InactiveShows, InactiveFrames}
use Rattle.runs.proofs.Cycles.{waits_started, runs_routed, holder_kept, holder_unasked, shut_started, shut_unasked, open_asked, second_two}
use Rattle.runs.proofs.Askers.{asked_for, is_asked, not_asked, by_nobody}
use Rattle.runs.proofs.Stretches.{quiet_headers, head_shut, head_open, ack_none, ack_from, ack_to, running_no_routing, quiet_no_routing, Same, stretch}

-- what holds in all cycles up to e, and in the next
up_to : (P : ℕ → Type 0) (e : ℕ) → P (suc e) → (t : ℕ) → (t ≤ e → P t) → t ≤ e + 1 → P t
up_to P e last t p q = go (eq-or-lt_of_le q)
  where
    go : (t ≡ e + 1) ⊎ (t < e + 1) → P t
    go (inl same) = let f : suc e ≡ t = omega arith in subst P f last
    go (inr less) = p (omega arith)

next_is : (r : Run) (t o : ℕ) → holder r (suc t) o ≡ holder r (t + 1) o
next_is r t o = let e : suc t ≡ t + 1 = omega arith in ap (λ (k : ℕ). holder r k o) e

-- ---- inactive

module _ (r : Run) (ts te : ℕ) (a : InactiveFrame r ts te) where
  no_routing : (t : ℕ) → ts < t → t < te + 2 → NoRoutingAt r t
  no_routing = quiet_no_routing r ts te a.none_active

  same : (t : ℕ) → suc ts ≤ t → t ≤ te → Same r (suc ts) t
  same = stretch r (suc ts) te a.frame.none_between (λ k l h _. no_routing k l (omega arith))

  shut : (t o : ℕ) → o < 4 → suc ts ≤ t → t ≤ te + 1 → Shut r t o
  shut t o l p =
      up_to (λ (k : ℕ). Shut r k o) te (shut_started r te o l a.frame.next) t
      (λ q. (same t p q).shut o l ∙ shut_started r ts o l a.frame.starts)

  held : (t o : ℕ) → o < 4 → suc ts ≤ t → t ≤ te + 1 → holder r t o ≡ holder r (suc ts) o
  held t o l p =
      let n = a.frame.later in
      up_to (λ (k : ℕ). holder r k o ≡ holder r (suc ts) o) te (holder_kept r te o l (no_routing te n (omega arith)) ∙ (same te n (omega arith)).held o l) t
      (λ q. (same t p q).held o l)

  inactive_shows : InactiveShows r ts te
  inactive_shows = record {
    no_routing = λ t p q. no_routing t (omega arith) (omega arith);
    heads = λ t o l p q. head_shut r t (t - 2) o l (omega arith) (shut (t - 2) o l (omega arith) (omega arith));
    acks = λ t i p q. ack_none r t i (λ o l. shut t o l (omega arith) (omega arith));
    holders = λ t o l p q. held t o l (omega arith) q ∙ next_is r ts o;
  }

pub inactive_frames : InactiveFrames
inactive_frames = inactive_shows

-- ---- active

module _ (r : Run) (ts th te : ℕ) (a : ActiveFrame r ts th te) where
  -- the cycle of the routing
  abbrev tr : ℕ
  tr = th + 2

  ordered : suc ts ≤ tr
  ordered = let n = a.late in omega arith

  waiting_same : (t : ℕ) → suc ts ≤ t → t ≤ tr → Same r (suc ts) t
  waiting_same =
      stretch r (suc ts) tr (λ k l h. let n = a.long in a.frame.none_between k l (omega arith)) (λ k l h _. quiet_no_routing r ts th a.none_before k l h)

  waiting_shut : (t o : ℕ) → o < 4 → suc ts ≤ t → t ≤ tr → Shut r t o
  waiting_shut t o l p q = (waiting_same t p q).shut o l ∙ shut_started r ts o l a.frame.starts

  no_start : (t : ℕ) → tr ≤ t → t < te → NoFrameStartAt r t
  no_start t p q = let n = a.late in a.frame.none_between t (omega arith) q

  no_start_then : NoFrameStartAt r tr
  no_start_then = let n = a.long in no_start tr (omega arith) (omega arith)

  headers_are : headers_at r tr ≡ (r.ins th).bytes
  headers_are = let e : tr ≡ suc (suc th) = omega arith in ap (headers_at r) e ∙ second_two r th

  happens : RoutingAt r tr
  happens =
      let waits = (waiting_same tr ordered (omega arith)).phase ∙ waits_started r ts a.frame.starts in
      rw waits (ap some_active headers_are ∙ a.header)

  -- from the routing to the next frame start the machine runs
  running_same : (t : ℕ) → suc tr ≤ t → t ≤ te → Same r (suc tr) t
  running_same =
      stretch r (suc tr) te (λ k l h. no_start k (omega arith) h) (λ k l h s. running_no_routing r k (s.phase ∙ runs_routed r tr no_start_then happens))

  running_no : (t : ℕ) → suc tr ≤ t → t ≤ te → NoRoutingAt r t
  running_no t p q = running_no_routing r t ((running_same t p q).phase ∙ runs_routed r tr no_start_then happens)

  -- the byte of te-1 stands in the second latches at te+1
  last_no : NoRoutingAt r (suc te)
  last_no =
      let n = a.long in
      let e : te ≡ suc (te - 1) = omega arith in
      quiet_headers r (suc te) (ap some_active (ap (λ (k : ℕ). headers_at r (suc k)) e ∙ second_two r (te - 1)) ∙ a.none_at_end)

  no_other : (t : ℕ) → ts + 1 ≤ t → t ≤ te + 1 → RoutingAt r t → t ≡ th + 2
  no_other t p q n = go (ltb t tr) (ltb tr t) refl refl
    where
      after : suc tr ≤ t → NoRoutingAt r t
      after l = up_to (λ (k : ℕ). NoRoutingAt r k) te last_no t (running_no t l) q

      go : (x y : Bool) → ltb t tr ≡ x → ltb tr t ≡ y → t ≡ tr
      go true y e f = absurd (not_both n (quiet_no_routing r ts th a.none_before t (omega arith) (ltb-true t tr e)))
      go false true e f = absurd (not_both n (after (ltb-true tr t f)))
      go false false e f = let x = ltb-false t tr e in let y = ltb-false tr t f in omega arith

  unasked_shut : (o : ℕ) → o < 4 → (AskedFor r tr o → ⊥) → Shut r (suc tr) o
  unasked_shut o l n = shut_unasked r tr o l no_start_then happens (not_asked r tr o n) ∙ waiting_shut tr o l ordered (omega arith)

  asked_open : (o : ℕ) → o < 4 → AskedFor r tr o → Open r (suc tr) o
  asked_open o l q = open_asked r tr o l no_start_then happens (is_asked r tr o q)

  open_was_asked : (o : ℕ) → o < 4 → Open r (suc tr) o → AskedFor r tr o
  open_was_asked o l e = asked_for r tr o (yes_unless (λ z. not_both (unasked_shut o l (by_nobody r tr o z)) e))

  running_held : (t o : ℕ) → o < 4 → suc tr ≤ t → t ≤ te + 1 → holder r t o ≡ holder r (suc tr) o
  running_held t o l p =
      let n : suc tr ≤ te = let n = a.long in omega arith in
      up_to (λ (k : ℕ). holder r k o ≡ holder r (suc tr) o) te
      (holder_kept r te o l (running_no te n (omega arith)) ∙ (running_same te n (omega arith)).held o l) t
      (λ q. (running_same t p q).held o l)

  acks_from : (t i : ℕ) → th + 3 ≤ t → t ≤ te → ack r t i ≡ true → FromWon r th t i
  acks_from t i p q e =
      let s = running_same t (omega arith) q in
      let g = ack_from r t i e in
      record {
        output = _;
        is_output = g.is_output;
        won = record {
          routing = happens;
          asked = open_was_asked _ g.is_output (sym (s.shut _ g.is_output) ∙ g.is_open);
          new_holder = sym (s.held _ g.is_output) ∙ g.holds;
        };
        acknowledged = g.acknowledged;
      }

  acks_to : (t i : ℕ) → th + 3 ≤ t → t ≤ te → FromWon r th t i → ack r t i ≡ true
  acks_to t i p q w =
      let s = running_same t (omega arith) q in
      let l = w.is_output in
      ack_to r t i w.output
      (record {
        is_output = l;
        is_open = s.shut w.output l ∙ asked_open w.output l w.won.asked;
        holds = s.held w.output l ∙ w.won.new_holder;
        acknowledged = w.acknowledged;
      })

  active_shows : ActiveShows r ts th te
  active_shows = record {
    routing = record {
      happens = happens;
      headers = λ i. ap (λ (row : List ℕ). get_or row i 0) headers_are;
      no_other = no_other;
    };
    heads = record {
      zero_first = λ t o l p q. head_shut r t (t - 2) o l (omega arith) (waiting_shut (t - 2) o l (omega arith) (omega arith));
      winner's = λ t o w l p q k.
          let s = running_same (t - 2) (omega arith) (omega arith) in
          head_open r t (t - 2) o l (omega arith) (t - 4) (omega arith) (s.shut o l ∙ asked_open o l k.asked)
          ∙ ap (λ (i : ℕ). get_or (r.ins (t - 4)).bytes i 0) (s.held o l ∙ k.new_holder);
      unasked = λ t o l p q n.
          let s = running_same (t - 2) (omega arith) (omega arith) in
          head_shut r t (t - 2) o l (omega arith) (s.shut o l ∙ unasked_shut o l n);
      zero_last = λ o l. head_shut r (te + 3) (suc te) o l (omega arith) (shut_started r te o l a.frame.next);
    };
    acks = record {
      zero_first = λ t i p q. ack_none r t i (λ o l. waiting_shut t o l (omega arith) q);
      from_won = λ t i p q. (acks_from t i p q, acks_to t i p q);
    };
    holders = record {
      unchanged = λ t o l p q. (waiting_same t (omega arith) q).held o l ∙ next_is r ts o;
      winner = λ t o w l p q k. running_held t o l (omega arith) q ∙ k.new_holder;
      unasked = λ t o l p q n.
          running_held t o l (omega arith) q
          ∙ holder_unasked r tr o l happens (not_asked r tr o n)
          ∙ (waiting_same tr ordered (omega arith)).held o l
          ∙ next_is r ts o;
    };
  }

pub active_frames : ActiveFrames
active_frames = active_shows
