-- The refusals of a state, one law for each, and what an accepted state has. Assumes nothing.
use mathlib.Core.Bool.{Bool, true, false, cond}
use mathlib.Core.Path.{◌≡◌, refl}
use Prim.Native.Nat.{ℕ, ◌<◌}
use native.Mathlib.Omega.{arith}
use lib.Dec.{ltb}
use borrow.Author.Tests.{ltb-false}
use Rattle.states.specs.declared.state.State.{State}
use Rattle.states.specs.State.{holder_at, Held, holder_above, open_while_waiting, held_twice, state_refusal}
use Rattle.routing.proofs.Fours.{no_at}

module _ (s : State) where
  pub refused_14 : holder_above s ≡ true → 14 ≡ state_refusal s
  unfolding state_refusal
  refused_14 a = rw a

  module _ (held : holder_above s ≡ false) where
    pub refused_7 : open_while_waiting s ≡ true → 7 ≡ state_refusal s
    unfolding state_refusal
    refused_7 a = rw (held, a)

    module _ (shut : open_while_waiting s ≡ false) where
      pub refused_8 : held_twice s ≡ true → 8 ≡ state_refusal s
      unfolding state_refusal
      refused_8 a = rw (held, shut, a)

      pub accepted : held_twice s ≡ false → 0 ≡ state_refusal s
      unfolding state_refusal
      accepted a = rw (held, shut, a)

-- no condition holds where the order comes to 0
record None (a b c : Bool) : Type 0 where
  none_14 : a ≡ false
  none_7 : b ≡ false
  none_8 : c ≡ false

none : (a b c : Bool) → ◌≡◌ {A = ℕ} (cond a 14 (cond b 7 (cond c 8 0))) 0 → None a b c
none true b c e = absurd (omega arith)
none false true c e = absurd (omega arith)
none false false true e = absurd (omega arith)
none false false false e = record { none_14 = refl; none_7 = refl; none_8 = refl }

-- a state is not refused by 3
pub not_3 : (s : State) → 3 ≡ state_refusal s → ⊥
unfolding state_refusal
not_3 s e = go (holder_above s) (open_while_waiting s) (held_twice s) e
  where
    go : (a b c : Bool) → ◌≡◌ {A = ℕ} 3 (cond a 14 (cond b 7 (cond c 8 0))) → ⊥
    go true b c e = omega arith
    go false true c e = omega arith
    go false false true e = omega arith
    go false false false e = omega arith

-- what an accepted state has
module _ (s : State) (ok : state_refusal s ≡ 0) where
  apart : None (holder_above s) (open_while_waiting s) (held_twice s)
  unfolding state_refusal
  apart = none (holder_above s) (open_while_waiting s) (held_twice s) ok

  pub not_above : holder_above s ≡ false
  not_above = apart.none_14

  pub not_open_waiting : open_while_waiting s ≡ false
  not_open_waiting = apart.none_7

  pub not_twice : held_twice s ≡ false
  not_twice = apart.none_8

  -- each output's holder is an input's number
  pub held_at : (o : ℕ) → o < 4 → holder_at s o < 4
  held_at o h = let l = ltb-false 3 (holder_at s o) (no_at (λ o. ltb 3 (holder_at s o)) not_above o h) in omega arith

  pub held : Held s
  held = record { held0 = held_at 0 (omega arith); held1 = held_at 1 (omega arith); held2 = held_at 2 (omega arith); held3 = held_at 3 (omega arith) }
