-- The evaluator's number holds net n at bit n: the inputs below, then each gate's value over the nets, and zeros above. Assumes nothing.
use mathlib.Core.Bool.{Bool, true, false, cond}
use mathlib.Core.Path.{◌≡◌, refl, sym, ap, subst, ◌∙◌}
use mathlib.Core.List.{List, [], ◌∷◌}
use Prim.Native.Nat.{ℕ, zero, suc, ◌+◌, ◌*◌, ◌^◌, ◌≤◌, ◌<◌}
use native.Mathlib.Nat.{add-zero, not-suc-le-zero, le_of_suc-le-suc}
use native.Mathlib.Numerals.{add-one}
use native.Mathlib.Omega.{arith}
use lib.Dec.{leb}
use lib.ListN.{length, get_or, take, drop}
use borrow.Author.Tests.{leb-false}
use Rattle.routing.specs.Four.{bit, bit_at}
use Rattle.routing.proofs.Equal.{two}
use Rattle.words.specs.Word.{kind_of, count_of, fields, any, made, gate, wrong, late}
use Rattle.gates.specs.Evaluation.{Fault, nets_after, fault, first_fault}
use Rattle.words.proofs.Bits.{set_lt, bit_set, bit_below}
use Rattle.gates.proofs.Limits.{neither}

abbrev next : ℕ → ℕ → ℕ → ℕ
next w m x = x + bit (gate w x) * 2 ^ m

next_lt : (w m x : ℕ) → x < 2 ^ m → next w m x < 2 ^ suc m
next_lt w m x h = subst (λ (k : ℕ). next w m x < 2 ^ k) (add-one m) (set_lt x m (gate w x) h)

pub input_net : (ws : List ℕ) (m x k : ℕ) → k < m → bit_at k (nets_after ws m x) ≡ bit_at k x
unfolding nets_after
input_net [] m x k h = refl
input_net (w ∷ ws) m x k h = input_net ws (suc m) (next w m x) k (omega arith) ∙ bit_below m k h x (gate w x)

pub zeros_above : (ws : List ℕ) (m x : ℕ) → x < 2 ^ m → nets_after ws m x < 2 ^ (m + length ws)
unfolding nets_after
zeros_above [] m x h = rw (add-zero m) h
zeros_above (w ∷ ws) m x h =
    let e : suc m + length ws ≡ m + suc (length ws) = omega arith in
    subst (λ (k : ℕ). nets_after ws (suc m) (next w m x) < 2 ^ k) e (zeros_above ws (suc m) (next w m x) (next_lt w m x h))

pub gate_net : (ws : List ℕ) (m x j : ℕ) → x < 2 ^ m → j < length ws
    → bit_at (m + j) (nets_after ws m x) ≡ gate (get_or ws j 0) (nets_after (take j ws) m x)
unfolding nets_after
gate_net [] m x j h l = absurd (not-suc-le-zero l)
gate_net (w ∷ ws) m x zero h l =
    ap (λ (k : ℕ). bit_at k (nets_after ws (suc m) (next w m x))) (add-zero m)
    ∙ input_net ws (suc m) (next w m x) m (omega arith) ∙ bit_set x m (gate w x) h
gate_net (w ∷ ws) m x (suc j) h l =
    let e : m + suc j ≡ suc m + j = omega arith in
    ap (λ (k : ℕ). bit_at k (nets_after ws (suc m) (next w m x))) e
    ∙ gate_net ws (suc m) (next w m x) j (next_lt w m x h) (le_of_suc-le-suc l)

-- the nets after the first j gates, then the others
cut : (ws : List ℕ) (m x j : ℕ) → j ≤ length ws → nets_after ws m x ≡ nets_after (drop j ws) (m + j) (nets_after (take j ws) m x)
unfolding nets_after
cut ws m x zero h = ap (λ (k : ℕ). nets_after ws k x) (sym (add-zero m))
cut [] m x (suc j) h = absurd (not-suc-le-zero h)
cut (w ∷ ws) m x (suc j) h =
    let e : suc m + j ≡ m + suc j = omega arith in
    cut ws (suc m) (next w m x) j (le_of_suc-le-suc h)
    ∙ ap (λ (k : ℕ). nets_after (drop j ws) k (nets_after (take j ws) (suc m) (next w m x))) e

-- a gate that is not late reads only nets below its own
abbrev each : {A : Type 0} → (ℕ → A) → List ℕ → List A
each f [] = []
each f (k ∷ ks) = f k ∷ each f ks

module _ (m : ℕ) (f g : ℕ → Bool) (agree : (k : ℕ) → k < m → f k ≡ g k) where
  reads_alike : (ks : List ℕ) (n : ℕ) → any (take n (each (leb m) ks)) ≡ false → take n (each f ks) ≡ take n (each g ks)
  reads_alike ks zero e = refl
  reads_alike [] (suc n) e = refl
  reads_alike (k ∷ ks) (suc n) e =
      let b = neither (leb m k) (any (take n (each (leb m) ks))) e in
      two ◌∷◌ (agree k (leb-false m k b.0)) (reads_alike ks n b.1)

gate_alike : (w m u v : ℕ) → late w m ≡ false → ((k : ℕ) → k < m → bit_at k u ≡ bit_at k v) → gate w u ≡ gate w v
unfolding gate late
gate_alike w m u v e agree =
    ap (made (kind_of w)) (reads_alike m (λ k. bit_at k u) (λ k. bit_at k v) agree (fields (λ k. k) w) (count_of w) e)

-- a word that the test passes
passes : (b c : Bool) (i : ℕ) (f : Fault) → cond b (fault 11 i) (cond c (fault 12 i) f) ≡ fault 0 0 → (c ≡ false) × (f ≡ fault 0 0)
passes true c i f e = absurd (let z : ◌≡◌ {A = ℕ} 11 0 = ap (λ (x : Fault). x.number) e in omega arith)
passes false true i f e = absurd (let z : ◌≡◌ {A = ℕ} 12 0 = ap (λ (x : Fault). x.number) e in omega arith)
passes false false i f e = (refl, e)

pub not_late : (ws : List ℕ) (m i j : ℕ) → first_fault ws m i ≡ fault 0 0 → j < length ws → late (get_or ws j 0) (m + j) ≡ false
unfolding first_fault
not_late [] m i j e l = absurd (not-suc-le-zero l)
not_late (w ∷ ws) m i zero e l =
    ap (late w) (add-zero m) ∙ (passes (wrong w) (late w m) i (first_fault ws (suc m) (suc i)) e).0
not_late (w ∷ ws) m i (suc j) e l =
    let s : m + suc j ≡ suc m + j = omega arith in
    ap (late (get_or ws j 0)) s
    ∙ not_late ws (suc m) (suc i) j (passes (wrong w) (late w m) i (first_fault ws (suc m) (suc i)) e).1 (le_of_suc-le-suc l)

module _ (ws : List ℕ) (m x : ℕ) (below : x < 2 ^ m) (found : first_fault ws m 0 ≡ fault 0 0) where
  pub gate_over_all : (j : ℕ) → j < length ws → bit_at (m + j) (nets_after ws m x) ≡ gate (get_or ws j 0) (nets_after ws m x)
  gate_over_all j l =
      gate_net ws m x j below l
      ∙ gate_alike (get_or ws j 0) (m + j) (nets_after (take j ws) m x) (nets_after ws m x) (not_late ws m 0 j found l)
      (λ k h. sym (ap (bit_at k) (cut ws m x j (omega arith)) ∙ input_net (drop j ws) (m + j) (nets_after (take j ws) m x) k h))
