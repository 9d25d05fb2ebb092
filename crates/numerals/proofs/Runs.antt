-- How many numeral bytes stand before a place, and from it on. Assumes nothing.
use Rattle.std.proofs.Common.{◌≡◌, ℕ, zero, suc, ◌+◌, ◌-◌, ◌<◌, ◌≤◌, Bool, true, false, cond, List, [], ◌∷◌, length, get_or, take, drop, reverse, take_while, refl, ap, ◌∙◌, arith}
use Rattle.std.specs.List.{prefix_len, suffix_len}
use Rattle.std.proofs.lemmas.Grind.{common_steps}
use Rattle.std.proofs.lemmas.List.Folds.{length-prefix_len}
use Rattle.std.proofs.lemmas.List.Sums.{prefix_len-le-length, suffix_len-take_yes, suffix_len-take_no}
use lib.ListN.{length-drop}
use lib.Seq.{take_all}
use Rattle.numerals.specs.Numeral.{numeral, run_begins, leading, run_ends}

leading_by : (text : List ℕ) → leading text ≡ prefix_len numeral text
unfolding leading
leading_by [] = refl
leading_by (b ∷ text) =
    let next = leading_by text in grind (arith, common_steps)

pub ends_by : (text : List ℕ) (k : ℕ) {n : ℕ} → k ≤ length text → n ≡ length (take_while numeral (take (length text - k) (drop k text)))
    → (k + n ≡ run_ends text k) × (k ≤ k + n) × (k + n ≤ length text)
ends_by text k {n = n} h e =
    let rest = drop k text in
    let long : length rest ≡ length text - k = length-drop k text in
    let all : take (length text - k) rest ≡ rest = take_all (length text - k) rest (omega arith) in
    let count : n ≡ prefix_len numeral rest = e ∙ ap (λ (l : List ℕ). length (take_while numeral l)) all ∙ length-prefix_len numeral rest in
    let few = prefix_len-le-length numeral rest in
    let lead = leading_by rest in
    (omega arith, omega arith, omega arith)

module _ (text : List ℕ) (k : ℕ) (h : k < length text) where
  here : suc k - 1 ≡ k
  here = omega arith

  -- what stands before place k + 1, by the byte at place k
  one_back : (b : Bool) → numeral (get_or text k 0) ≡ b → run_begins text k ≡ k - suffix_len numeral (take k text) → cond b (run_begins text k) (suc k) ≡ suc k - suffix_len numeral (take (suc k) text)
  one_back true e next =
      let byte = ap (λ (j : ℕ). numeral (get_or text j 0)) here ∙ e in
      let count : suffix_len numeral (take (suc k) text) ≡ 1 + suffix_len numeral (take k text) =
      suffix_len-take_yes numeral text (suc k) 0 (omega arith) (omega arith) byte ∙ ap (λ (j : ℕ). 1 + suffix_len numeral (take j text)) here in
      omega arith
  one_back false e next =
      let byte = ap (λ (j : ℕ). numeral (get_or text j 0)) here ∙ e in
      let count = suffix_len-take_no numeral text (suc k) 0 (omega arith) (omega arith) byte in omega arith

before : (text : List ℕ) (k : ℕ) → k ≤ length text → run_begins text k ≡ k - suffix_len numeral (take k text)
unfolding run_begins
before text zero h = omega arith
before text (suc k) h = one_back text k (omega arith) (numeral (get_or text k 0)) refl (before text k (omega arith))

pub begins_by : (text : List ℕ) (k : ℕ) {n : ℕ} → k ≤ length text → n ≡ length (take_while numeral (reverse (take k text))) → (k - n ≡ run_begins text k) × (k - n ≤ k)
begins_by text k h e =
    let count = e ∙ length-prefix_len numeral (reverse (take k text)) in
    let start = before text k h in (omega arith, omega arith)
