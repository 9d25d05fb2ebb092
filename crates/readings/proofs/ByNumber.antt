-- What is said of an input by a comparison's number and its difference: done and the same, the lines; otherwise what the program replay would say.
-- Assumes nothing.
use Rattle.std.proofs.Common.{◌≡◌, ℕ, Bool, true, false, ◌&&◌, eqb, List, Option, Some, None, is_none, refl, sym, ap, ◌∙◌}
use mathlib.Core.Bool.{true≢false}
use borrow.Author.Tests.{eqb-true, eqb-false}
use Rattle.text.specs.Page.{Page, Wrote}
use Rattle.text.proofs.Pages.{other_words}
use Rattle.routing.proofs.Fours.{and_left, and_right}
use Rattle.listing.specs.Listing.{listing}
use Rattle.comparison.specs.Both.{Both}
use Rattle.verdict.specs.Verdict.{outcome_text, unless_differ, verdict_of, verdict_text}
use Rattle.verdict.proofs.Verdicts.{done_text, refused_text_lem}

module _ (said : List ℕ → List ℕ) (b : Both) (answers : List ℕ) {t : Bool} (is : t ≡ is_none b.difference) where
  by_same : (d : Option ℕ) → b.difference ≡ d → is_none b.difference ≡ true → b.number ≡ 0 → said answers ≡ verdict_of said b answers
  by_same None e h z = done_text said b.number b.index answers z ∙ ap (λ (d : Option ℕ). unless_differ d (outcome_text said b.number b.index answers)) (sym e)
  by_same (Some k) e h z = absurd (true≢false (sym h ∙ ap is_none e))

  pub lines_said : (t && eqb b.number 0) ≡ true → {before after : Page} → Wrote before (said answers) after → (true ≡ is_none b.difference) × Wrote before (verdict_of said b answers) after
  lines_said e w =
      let same : is_none b.difference ≡ true = sym is ∙ and_left t (eqb b.number 0) e in
      (sym same, other_words w (by_same b.difference refl same (eqb-true _ _ (and_right t (eqb b.number 0) e))))

  other_by : (d : Option ℕ) → b.difference ≡ d → (t && eqb b.number 0) ≡ false → verdict_text b answers ≡ verdict_of said b answers
  other_by (Some k) e h = ap (λ (x : Option ℕ). unless_differ x (outcome_text listing b.number b.index answers)) e ∙ sym (ap (λ (x : Option ℕ). unless_differ x (outcome_text said b.number b.index answers)) e)
  other_by None e h =
      let yes : t ≡ true = is ∙ ap is_none e in
      let no : eqb b.number 0 ≡ false = sym (ap (λ (x : Bool). x && eqb b.number 0) yes) ∙ h in
      let refused = eqb-false b.number 0 no in
      ap (λ (x : Option ℕ). unless_differ x (outcome_text listing b.number b.index answers)) e
      ∙ sym (refused_text_lem listing b.number b.index answers refused) ∙ refused_text_lem said b.number b.index answers refused
      ∙ sym (ap (λ (x : Option ℕ). unless_differ x (outcome_text said b.number b.index answers)) e)

  pub other_said : (t && eqb b.number 0) ≡ false → {agreed : Bool} {before after : Page}
      → (agreed ≡ is_none b.difference) × Wrote before (verdict_text b answers) after → (agreed ≡ is_none b.difference) × Wrote before (verdict_of said b answers) after
  other_said e w = (w.0, other_words w.1 (other_by b.difference refl e))
