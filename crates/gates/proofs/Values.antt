-- What the evaluator answers, by what its two tests find; a list whose words pass is answered alike with and without their test. Assumes nothing.
use mathlib.Core.Path.{◌≡◌, refl, sym, ap, ◌∙◌}
use mathlib.Core.List.{List}
use Prim.Native.Nat.{ℕ}
use native.Mathlib.Omega.{arith}
use borrow.Author.Tests.{eq-eqb, ne_eqb}
use Rattle.std.specs.Prelude.{Err}
use Rattle.gates.specs.declared.refusal.Refusal.{Refusal}
use Rattle.gates.specs.declared.refusal.Refusal.TheVariants.{OutsideLimits, WrongWord, LateWord, BitAbove}
use Rattle.gates.specs.Refusals.{number_of, fault_in, answered}
use Rattle.gates.specs.Evaluation.{Fault, nets_after, early_refusal, fault, first_fault, refused, done, tested, evaluated, value_of}

module _ (ws : List ℕ) (m x : ℕ) where
  pub value_refused : {n : ℕ} → n ≡ early_refusal ws m x → (n ≡ 0 → ⊥) → 0 ≡ value_of ws m x
  unfolding value_of
  value_refused is h = rw (ne_eqb (early_refusal ws m x) 0 (λ z. h (is ∙ z)))

  pub refused_early : {n : ℕ} → n ≡ early_refusal ws m x → (n ≡ 0 → ⊥) → refused n 0 ≡ evaluated ws m x
  unfolding evaluated
  refused_early is h = ap (λ (k : ℕ). refused k 0) is ∙ rw (ne_eqb (early_refusal ws m x) 0 (λ z. h (is ∙ z)))

  module _ (ok : early_refusal ws m x ≡ 0) where
    pub value_of_lem : value_of ws m x ≡ nets_after ws m x
    unfolding value_of
    value_of_lem = rw (eq-eqb (early_refusal ws m x) 0 ok)

    words_tested : {f : Fault} → f ≡ first_fault ws m 0 → evaluated ws m x ≡ tested f (nets_after ws m x)
    unfolding evaluated
    words_tested e = rw (eq-eqb (early_refusal ws m x) 0 ok, e)

    pub refused_word : {f : Fault} → f ≡ first_fault ws m 0 → (f.number ≡ 0 → ⊥) → refused f.number f.index ≡ evaluated ws m x
    refused_word {f} e h = sym (words_tested e ∙ rw (ne_eqb f.number 0 h))

    pub all_passed : {f : Fault} → f ≡ first_fault ws m 0 → f.number ≡ 0 → evaluated ws m x ≡ done (nets_after ws m x)
    all_passed {f} e z = words_tested e ∙ rw (eq-eqb f.number 0 z)

    pub evaluated_value : first_fault ws m 0 ≡ fault 0 0 → evaluated ws m x ≡ done (value_of ws m x)
    evaluated_value e = all_passed (sym e) refl ∙ ap done (sym value_of_lem)

-- a refusal has a number
pub some_number : (r : Refusal) → number_of r ≡ 0 → ⊥
some_number OutsideLimits e = omega arith
some_number (WrongWord i) e = omega arith
some_number (LateWord i) e = omega arith
some_number BitAbove e = omega arith

-- the same, by what the tests hand on
module _ (ws : List ℕ) (m x : ℕ) where
  pub early_answered : (r : Refusal) → fault_in (Err r) ≡ fault (early_refusal ws m x) 0 → answered (Err r) ≡ evaluated ws m x
  early_answered r e =
      ap (λ (f : Fault). refused f.number f.index) e
      ∙ refused_early ws m x refl (λ z. some_number r (ap (λ (f : Fault). f.number) e ∙ z))

  pub early_value : (r : Refusal) → fault_in (Err r) ≡ fault (early_refusal ws m x) 0 → 0 ≡ value_of ws m x
  early_value r e = value_refused ws m x (ap (λ (f : Fault). f.number) e) (some_number r)

  pub early_passed : fault 0 0 ≡ fault (early_refusal ws m x) 0 → early_refusal ws m x ≡ 0
  early_passed e = sym (ap (λ (f : Fault). f.number) e)

  pub word_answered : early_refusal ws m x ≡ 0 → (r : Refusal) → fault_in (Err r) ≡ first_fault ws m 0 → answered (Err r) ≡ evaluated ws m x
  word_answered ok r e = refused_word ws m x ok e (some_number r)

  pub value_answered : early_refusal ws m x ≡ 0 → fault 0 0 ≡ first_fault ws m 0 → done (nets_after ws m x) ≡ evaluated ws m x
  value_answered ok e = sym (all_passed ws m x ok e refl)
