-- The replay's loop: what holds after k records, and that a turn takes it to k + 1. Both engines' replays go by it. Assumes nothing.
use mathlib.Core.Bool.{Bool}
use mathlib.Core.Path.{◌≡◌, refl, sym, ap, ◌∙◌}
use mathlib.Core.List.{List, ◌++◌}
use Prim.Native.Nat.{ℕ, ◌+◌, ◌*◌, ◌<◌, ◌≤◌}
use native.Mathlib.Numerals.{add-one}
use native.Mathlib.Omega.{arith}
use lib.ListN.{length, take, drop}
use lib.Seq.{sets-eq, length-sets, take_at, drop-drop, drop-append-add}
use Rattle.routing.specs.Four.{four}
use Rattle.fabric.specs.Cycle.{Machine, shown, acked, stepped}
use Rattle.fabric.specs.Run.{run_of}
use Rattle.routing.proofs.Equal.{two}
use Rattle.records.specs.Record.{answer_bytes}
use Rattle.records.specs.Answers.{answer_of, answers_of}
use Rattle.records.proofs.Answered.{answers_length}
use Rattle.places.specs.Capture.{records, inputs_in, with_answer}
use Rattle.places.proofs.Records.{answer_there}

-- the buffer is b at the start; after k records the machine is n, and the buffer is l
pub record After (m : Machine) (capture b l : List ℕ) (n : Machine) (k : ℕ) : Type 0 where
  pub bound : k ≤ records capture
  pub now_is : n ≡ run_of m (inputs_in capture) k
  pub wrote : l ≡ answers_of m (inputs_in capture) k ++ drop (5 * k) b
  pub long : length l ≡ length b

pub start : (m : Machine) (capture b : List ℕ) → After m capture b b m 0
unfolding run_of answers_of
start m capture b = record { bound = omega arith; now_is = refl; wrote = refl; long = refl }

module _ {m : Machine} {capture b l : List ℕ} {n : Machine} {k : ℕ} (inv : After m capture b l n k) where
  pub finished : records capture ≤ k → (n ≡ run_of m (inputs_in capture) (records capture)) × (l ≡ answers_of m (inputs_in capture) (records capture) ++ drop (5 * records capture) b)
  finished h =
      let e : k ≡ records capture = omega (arith, inv.bound) in
      (inv.now_is ∙ ap (run_of m (inputs_in capture)) e, inv.wrote ∙ ap (λ (j : ℕ). answers_of m (inputs_in capture) j ++ drop (5 * j) b) e)

  module _ (more : k < records capture) (fits : length capture ≤ length b) where
    stored : (v : List ℕ) → length v ≡ 5 → with_answer l k v ≡ (answers_of m (inputs_in capture) k ++ v) ++ drop (5 * (k + 1)) b
    stored v e =
        let so_far = answers_of m (inputs_in capture) k in
        let al = answers_length m (inputs_in capture) k in
        let room : k < records l = omega (arith, inv.long) in
        let here : 5 * k + length v ≡ length so_far + 5 = omega (arith, al, e) in
        let there : 5 * k + 5 ≡ 5 * (k + 1) = omega arith in
        let kept : drop (5 * k + length v) l ≡ drop (5 * (k + 1)) b =
        ap (drop (5 * k + length v)) inv.wrote
        ∙ ap (λ (j : ℕ). drop j (so_far ++ drop (5 * k) b)) here
        ∙ drop-append-add so_far (drop (5 * k) b) 5
        ∙ drop-drop 5 (5 * k) b
        ∙ ap (λ (j : ℕ). drop j b) there in
        let front : take (5 * k) l ≡ so_far = ap (take (5 * k)) inv.wrote ∙ take_at so_far (drop (5 * k) b) (5 * k) al in
        answer_there l k v room
        ∙ sets-eq v l (5 * k) (omega (arith, e, inv.long))
        ∙ ap (λ (x : List ℕ). (x ++ v) ++ drop (5 * k + length v) l) front
        ∙ ap (λ (x : List ℕ). (so_far ++ v) ++ x) kept

    -- a turn: what one cycle answers is written, and the machine that it leaves is taken on
    pub turn : {acks : List Bool} {heads l' : List ℕ} {n' : Machine}
        → acks ≡ four (acked n.state (inputs_in capture k).acks) → heads ≡ shown n → l' ≡ with_answer l k (answer_bytes acks heads)
        → n' ≡ stepped n (inputs_in capture k) → After m capture b l' n' (k + 1)
    unfolding run_of answers_of
    turn {l' = l'} ea eh el en =
        let same : l' ≡ with_answer l k (answer_of n (inputs_in capture k)) = el ∙ ap (with_answer l k) (two answer_bytes ea eh) in
        record {
          bound = omega arith;
          now_is = en ∙ ap (λ (x : Machine). stepped x (inputs_in capture k)) inv.now_is ∙ ap (run_of m (inputs_in capture)) (sym (add-one k));
          wrote =
              same
              ∙ stored (answer_of n (inputs_in capture k)) refl
              ∙ ap (λ (x : Machine). (answers_of m (inputs_in capture) k ++ answer_of x (inputs_in capture k)) ++ drop (5 * (k + 1)) b) inv.now_is
              ∙ ap (λ (j : ℕ). answers_of m (inputs_in capture) j ++ drop (5 * (k + 1)) b) (sym (add-one k));
          long = ap length same ∙ ap length (answer_there l k _ (omega (arith, inv.long))) ∙ length-sets l (5 * k) (answer_of n (inputs_in capture k)) ∙ inv.long;
        }
