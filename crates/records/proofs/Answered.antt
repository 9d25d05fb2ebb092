-- The answers of a run: five bytes a cycle, cut where the run is cut, and by the inputs of its own cycles alone. Assumes nothing.
use mathlib.Core.Path.{◌≡◌, refl, sym, ap, ◌∙◌}
use mathlib.Core.List.{List, ◌++◌, append-nil, append_assoc}
use Prim.Native.Nat.{ℕ, zero, suc, ◌+◌, ◌*◌, ◌<◌}
use native.Mathlib.Nat.{add-zero, add-suc}
use native.Mathlib.Omega.{arith}
use lib.ListN.{length, length-append}
use Rattle.fabric.specs.declared.cycle.Inputs.{Inputs}
use Rattle.fabric.specs.Cycle.{Machine}
use Rattle.fabric.specs.Run.{run_of}
use Rattle.fabric.proofs.Runs.{run_cut, run_same}
use Rattle.records.specs.Answers.{answer_of, answers_of}

module _ (m : Machine) where
  pub answers_length : (ins : ℕ → Inputs) (n : ℕ) → length (answers_of m ins n) ≡ 5 * n
  unfolding answers_of
  answers_length ins zero = refl
  answers_length ins (suc n) = let e = answers_length ins n in simp length-append (omega arith)

  pub answers_cut : (ins : ℕ → Inputs) (a k : ℕ) → answers_of m ins (a + k) ≡ answers_of m ins a ++ answers_of (run_of m ins a) (λ j. ins (a + j)) k
  unfolding answers_of
  answers_cut ins a zero = ap (answers_of m ins) (add-zero a) ∙ sym (append-nil (answers_of m ins a))
  answers_cut ins a (suc k) =
      ap (answers_of m ins) (add-suc a k)
      ∙ ap (λ (l : List ℕ). l ++ answer_of (run_of m ins (a + k)) (ins (a + k))) (answers_cut ins a k)
      ∙ append_assoc (answers_of m ins a) (answers_of (run_of m ins a) (λ j. ins (a + j)) k) (answer_of (run_of m ins (a + k)) (ins (a + k)))
      ∙ ap (λ (x : Machine). answers_of m ins a ++ (answers_of (run_of m ins a) (λ j. ins (a + j)) k ++ answer_of x (ins (a + k)))) (run_cut m ins a k)

  pub answers_same : (ins other : ℕ → Inputs) (n : ℕ) → ((k : ℕ) → k < n → ins k ≡ other k) → answers_of m ins n ≡ answers_of m other n
  unfolding answers_of
  answers_same ins other zero e = refl
  answers_same ins other (suc n) e =
      let before : (k : ℕ) → k < n → ins k ≡ other k = λ k h. e k (omega arith) in
      ap (λ (i : Inputs). answers_of m ins n ++ answer_of (run_of m ins n) i) (e n (omega arith))
      ∙ ap (λ (x : Machine). answers_of m ins n ++ answer_of x (other n)) (run_same m ins other n before)
      ∙ ap (λ (l : List ℕ). l ++ answer_of (run_of m other n) (other n)) (answers_same ins other n before)
