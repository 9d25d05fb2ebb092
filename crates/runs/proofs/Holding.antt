-- The winner is fixed while its output is open, and open outputs have different holders. Assumes nothing.
use mathlib.Core.Bool.{Bool, true, false, not, ◌&&◌}
use mathlib.Core.Path.{◌≡◌, refl, sym, ◌∙◌}
use Prim.Native.Nat.{ℕ, suc, ◌<◌, ◌≤◌}
use native.Mathlib.Omega.{arith}
use native.Mathlib.Decide.{le_ind}
use lib.Dec.{ltb}
use borrow.Author.Tests.{ltb-true, ltb-false, eq-eqb}
use Rattle.routing.proofs.Fours.{not_both}
use Rattle.states.specs.State.{shut_at, holder_at}
use Rattle.states.proofs.States.{not_twice}
use Rattle.fabric.proofs.Steps.{no_pair}
use Rattle.runs.specs.Run.{Run, FromAccepted, holder, Open}
use Rattle.runs.specs.Holding.{OpenFrom, Holding, Apart}
use Rattle.runs.proofs.Cycles.{holder_kept}
use Rattle.runs.proofs.Accepting.{run_accepted}
use Rattle.runs.proofs.Opening.{open_no_routing}

module _ (r : Run) (ok : FromAccepted r) where
  same_holder : (s t o : ℕ) → o < 4 → s ≤ t → OpenFrom r s t o → holder r t o ≡ holder r s o
  same_holder s t o l order stays =
      le_ind {n = s} (λ (k : ℕ). k ≤ t → holder r k o ≡ holder r s o) (λ _. refl)
      (λ k m p u. holder_kept r k o l (open_no_routing r ok k o l (stays k m (omega arith))) ∙ p (omega arith)) t order (omega arith)

  pub holding : Holding r
  holding = record { same_holder = same_holder; winner_holds = λ s t w o l later won stays. same_holder (suc s) t o l later stays ∙ won.new_holder }

  -- the lower output first
  not_shared : (t a b : ℕ) → a < b → b < 4 → Open r t a → Open r t b → holder r t a ≡ holder r t b → ⊥
  not_shared t a b less l oa ob e =
      let s = (r.at t).state in
      not_both (shares (shut_at s a) (shut_at s b) oa ob (eq-eqb (holder_at s a) (holder_at s b) e)) (no_pair s (not_twice s (run_accepted r ok t)) a b less l)
    where
      shares : (x y : Bool) {z : Bool} → x ≡ false → y ≡ false → z ≡ true → (not x && not y && z) ≡ true
      shares x y p q e = rw (p, q) e

  pub apart : Apart r
  apart t a b la lb oa ob e = go (ltb a b) (ltb b a) refl refl
    where
      go : (x y : Bool) → ltb a b ≡ x → ltb b a ≡ y → a ≡ b
      go true y p q = absurd (not_shared t a b (ltb-true a b p) lb oa ob e)
      go false true p q = absurd (not_shared t b a (ltb-true b a q) la ob oa (sym e))
      go false false p q = let m = ltb-false a b p in let n = ltb-false b a q in omega arith
