-- Runs: a run is cut anywhere, and depends on the inputs of its own cycles alone. Assumes nothing.
use mathlib.Core.Path.{◌≡◌, refl, ap, ◌∙◌}
use Prim.Native.Nat.{ℕ, zero, suc, ◌+◌, ◌<◌}
use native.Mathlib.Nat.{add-zero, add-suc}
use native.Mathlib.Omega.{arith}
use Rattle.fabric.specs.declared.cycle.Inputs.{Inputs}
use Rattle.fabric.specs.Cycle.{Machine, stepped}
use Rattle.fabric.specs.Run.{run_of}

module _ (m : Machine) where
  pub run_cut : (ins : ℕ → Inputs) (a k : ℕ) → run_of m ins (a + k) ≡ run_of (run_of m ins a) (λ j. ins (a + j)) k
  unfolding run_of
  run_cut ins a zero = ap (run_of m ins) (add-zero a)
  run_cut ins a (suc k) = ap (run_of m ins) (add-suc a k) ∙ ap (λ (x : Machine). stepped x (ins (a + k))) (run_cut ins a k)

  pub run_same : (ins other : ℕ → Inputs) (n : ℕ) → ((k : ℕ) → k < n → ins k ≡ other k) → run_of m ins n ≡ run_of m other n
  unfolding run_of
  run_same ins other zero e = refl
  run_same ins other (suc n) e =
      ap (λ (i : Inputs). stepped (run_of m ins n) i) (e n (omega arith))
      ∙ ap (λ (x : Machine). stepped x (other n)) (run_same ins other n (λ k h. e k (omega arith)))
