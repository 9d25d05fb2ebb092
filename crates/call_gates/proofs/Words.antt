-- Gate words out of a payload, one after the other. Assumes nothing.
use mathlib.Core.Bool.{true, ◌&&◌}
use mathlib.Core.Path.{◌≡◌, sym, ap, ◌∙◌}
use mathlib.Core.List.{List, [], ◌∷◌, ◌++◌}
use Prim.Native.Nat.{ℕ, ◌+◌, ◌-◌, ◌*◌, ◌/◌, ◌%◌, ◌<◌, ◌≤◌}
use native.Mathlib.Numerals.{add-one}
use native.Mathlib.Omega.{arith}
use lib.Dec.{eqb, leb}
use lib.ListN.{length, take, set}
use lib.Seq.{take-suc-set}
use borrow.Author.Tests.{leb-true}
use Rattle.routing.proofs.Equal.{two}
use Rattle.routing.proofs.Fours.{and_left, and_right}
use Rattle.gates.specs.Evaluation.{evaluated}
use Rattle.parts.specs.Parts.{word_at}
use Rattle.call_gates.specs.Evaluate.{fitting, gate_words}

pub next_word : (payload words : List ℕ) (i : ℕ) {w : ℕ} → take i words ≡ gate_words payload i → w ≡ word_at payload (16 + 4 * i) → i < length words
    → take (i + 1) (set words i w) ≡ gate_words payload (i + 1)
unfolding gate_words
next_word payload words i {w = w} so_far e h =
    ap (λ (j : ℕ). take j (set words i w)) (add-one i)
    ∙ take-suc-set words i w h
    ∙ two (λ (l : List ℕ) (x : ℕ). l ++ (x ∷ [])) so_far e
    ∙ ap (gate_words payload) (sym (add-one i))

-- a payload that fits has room for its two numbers, and not too many words
pub fitted : (payload : List ℕ) → fitting payload ≡ true → (16 ≤ length payload) × ((length payload - 16) / 4 ≤ 128)
fitted payload h =
    let n = length payload in
    let most : n ≤ 528 = leb-true n 528 (and_right (leb 16 n && eqb (n % 4) 0) (leb n 528) h) in
    let least : 16 ≤ n = leb-true 16 n (and_left (leb 16 n) (eqb (n % 4) 0) (and_left (leb 16 n && eqb (n % 4) 0) (leb n 528) h)) in
    (least, omega (arith, most))

pub evaluated_by : {words words' : List ℕ} {inputs inputs' input input' : ℕ} → words ≡ words' → inputs ≡ inputs' → input ≡ input'
    → evaluated words inputs input ≡ evaluated words' inputs' input'
evaluated_by a b c = cc
