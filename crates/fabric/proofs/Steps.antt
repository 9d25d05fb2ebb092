-- The next state, output by output: rules 4, 5 and 6 as equations. Whoever speaks of the next state cites these. Assumes nothing.
use mathlib.Core.Bool.{Bool, true, false, cond, ◌&&◌, ◌||◌}
use mathlib.Core.Path.{◌≡◌, refl, sym, subst}
use mathlib.Core.List.{List}
use Prim.Native.Nat.{ℕ, zero, suc, ◌<◌}
use native.Mathlib.Omega.{arith}
use lib.Dec.{ltb, lit<}
use borrow.Author.Tests.{le-ltb}
use Rattle.states.specs.declared.state.State.{State}
use Rattle.states.specs.State.{shut_at, holder_of, holder_at, open_while_waiting, share_holder, held_twice, state_refusal, Held}
use Rattle.routing.specs.Port.{input}
use Rattle.routing.specs.declared.port.Input.{Input}
use Rattle.routing.specs.Route.{asked, remains, winner, routes}
use Rattle.fabric.specs.Cycle.{waiting_after, shut_after, holder_after, state_after}
use Rattle.routing.proofs.Fours.{at_four, none_of, or_left, or_right}
use Rattle.routing.proofs.Turns.{turn_lt}
use Rattle.states.proofs.States.{accepted}

module _ (s : State) (headers : List ℕ) (frame : Bool) where
  -- rule 5
  pub waiting_step : (state_after s headers frame).waiting ≡ waiting_after frame (routes s.waiting headers) s.waiting
  unfolding state_after
  waiting_step = refl

  -- rule 6
  pub shut_step : (o : ℕ) → o < 4 → shut_at (state_after s headers frame) o ≡ shut_after frame (routes s.waiting headers && asked headers o) (shut_at s o)
  unfolding state_after
  shut_step o h = at_four (λ o. shut_after frame (routes s.waiting headers && asked headers o) (shut_at s o)) false o h

  -- rule 4
  pub holder_step : (o : ℕ) → o < 4 → holder_of (state_after s headers frame) o ≡ holder_after (routes s.waiting headers) headers o (holder_of s o)
  unfolding state_after
  holder_step o h = at_four (λ o. holder_after (routes s.waiting headers) headers o (holder_of s o)) (input 0) o h

  -- and it leaves an input's number
  pub holder_below : (o : ℕ) → o < 4 → holder_at s o < 4 → holder_at (state_after s headers frame) o < 4
  holder_below o h l = subst (λ (x : Input). x.0 < 4) (sym (holder_step o h)) (go (routes s.waiting headers && asked headers o))
    where
      go : (b : Bool) → (cond b (input (winner headers o (holder_at s o))) (holder_of s o)).0 < 4
      go true = turn_lt (remains headers o) (holder_at s o)
      go false = l

-- refusal 8's six pairs, one by one and together
six : (p q r s t u : Bool) → (p || q || r || s || t || u) ≡ false → (p ≡ false) × (q ≡ false) × (r ≡ false) × (s ≡ false) × (t ≡ false) × (u ≡ false)
six p q r s t u e =
    let e5 = or_left (p || q || r || s || t) u e in
    let e4 = or_left (p || q || r || s) t e5 in
    let e3 = or_left (p || q || r) s e4 in
    let e2 = or_left (p || q) r e3 in (
      or_left p q e2,
      or_right p q e2,
      or_right (p || q) r e3,
      or_right (p || q || r) s e4,
      or_right (p || q || r || s) t e5,
      or_right (p || q || r || s || t) u e,
    )

module _ (s : State) where
  pairs : held_twice s ≡ false
      → (share_holder s 0 1 ≡ false) × (share_holder s 0 2 ≡ false) × (share_holder s 0 3 ≡ false) × (share_holder s 1 2 ≡ false) × (share_holder s 1 3 ≡ false) × (share_holder s 2 3 ≡ false)
  pairs e = six (share_holder s 0 1) (share_holder s 0 2) (share_holder s 0 3) (share_holder s 1 2) (share_holder s 1 3) (share_holder s 2 3) e

  pub no_pair : held_twice s ≡ false → (a b : ℕ) → a < b → b < 4 → share_holder s a b ≡ false
  no_pair e zero zero less below = absurd (omega arith)
  no_pair e zero (suc zero) less below = (pairs e).0
  no_pair e zero (suc (suc zero)) less below = (pairs e).1
  no_pair e zero (suc (suc (suc zero))) less below = (pairs e).2
  no_pair e zero (suc (suc (suc (suc b)))) less below = absurd (omega arith)
  no_pair e (suc zero) zero less below = absurd (omega arith)
  no_pair e (suc zero) (suc zero) less below = absurd (omega arith)
  no_pair e (suc zero) (suc (suc zero)) less below = (pairs e).3
  no_pair e (suc zero) (suc (suc (suc zero))) less below = (pairs e).4
  no_pair e (suc zero) (suc (suc (suc (suc b)))) less below = absurd (omega arith)
  no_pair e (suc (suc zero)) zero less below = absurd (omega arith)
  no_pair e (suc (suc zero)) (suc zero) less below = absurd (omega arith)
  no_pair e (suc (suc zero)) (suc (suc zero)) less below = absurd (omega arith)
  no_pair e (suc (suc zero)) (suc (suc (suc zero))) less below = (pairs e).5
  no_pair e (suc (suc zero)) (suc (suc (suc (suc b)))) less below = absurd (omega arith)
  no_pair e (suc (suc (suc a))) b less below = absurd (omega arith)

  pub not_twice_of : ((a b : ℕ) → a < b → b < 4 → share_holder s a b ≡ false) → held_twice s ≡ false
  not_twice_of h =
      rw (h 0 1 (omega arith) (omega arith), h 0 2 (omega arith) (omega arith), h 0 3 (omega arith) (omega arith), h 1 2 (omega arith) (omega arith), h 1 3 (omega arith) (omega arith), h 2 3 (omega arith) (omega arith))

  -- a state is accepted where no condition of 14, 7 and 8 holds
  pub accepted_of : ((o : ℕ) → o < 4 → holder_at s o < 4) → open_while_waiting s ≡ false → ((a b : ℕ) → a < b → b < 4 → share_holder s a b ≡ false) → state_refusal s ≡ 0
  accepted_of below shut apart = sym (accepted s (none_of (λ o. ltb 3 (holder_at s o)) (λ o h. let l = below o h in le-ltb 3 (holder_at s o) (omega arith))) shut (not_twice_of apart))

-- a cycle leaves holders that are inputs' numbers
pub held_after : (s : State) (headers : List ℕ) (frame : Bool) → Held s → Held (state_after s headers frame)
held_after s headers frame held = record {
  held0 = at 0 (lit< tt) held.held0;
  held1 = at 1 (lit< tt) held.held1;
  held2 = at 2 (lit< tt) held.held2;
  held3 = at 3 (lit< tt) held.held3;
}
  where
    at : (o : ℕ) → o < 4 → holder_at s o < 4 → holder_at (state_after s headers frame) o < 4
    at = holder_below s headers frame
