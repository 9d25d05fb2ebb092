-- What is said of two replays. Assumes nothing.
use Rattle.std.proofs.Common.{◌≡◌, ℕ, Bool, List, Option, is_none, Result, Ok, Err, sym, ap, ◌∙◌}
use borrow.Author.Tests.{eq-eqb, ne_eqb}
use Rattle.text.specs.declared.page.Page.{Page}
use Rattle.text.specs.Page.{Put, Wrote, Page as AnyPage}
use Rattle.text.proofs.Pages.{spelt, other_words}
use Rattle.routing.proofs.Equal.{two}
use Rattle.states.specs.declared.refusal.Refusal.{Refusal}
use Rattle.states.specs.Refusal.{number_of, index_of, number_in}
use Rattle.states.proofs.Refusals.{never_0}
use Rattle.listing.specs.Refusal.{refusal_line}
use Rattle.comparison.specs.Both.{Both, place_in, index_given}
use Rattle.comparison.proofs.Inputs.{given_again}
use Rattle.verdict.specs.Verdict.{outcome_text, unless_differ, verdict_of}

module _ (said : List ℕ → List ℕ) where
  module _ (number index : ℕ) (answers : List ℕ) where
    pub done_text : number ≡ 0 → said answers ≡ outcome_text said number index answers
    unfolding outcome_text
    done_text h = rw (eq-eqb _ _ h)

    pub refused_text_lem : (number ≡ 0 → ⊥) → refusal_line number (index_given number index) ≡ outcome_text said number index answers
    unfolding outcome_text
    refused_text_lem h = rw (ne_eqb _ _ h)

  -- the refusal line of a refusal, by its number and index
  pub refusal_said : (why : Refusal) (answers : List ℕ) {r : Result Unit Refusal} {n : ℕ} {i : Option ℕ} → r ≡ Err why → n ≡ number_of why → i ≡ index_of why
      → refusal_line n i ≡ outcome_text said (number_in r) (place_in r) answers
  refusal_said why answers e en ei =
      two refusal_line en (ei ∙ given_again why)
      ∙ refused_text_lem (number_of why) (place_in (Err why)) answers (never_0 why)
      ∙ ap (λ (x : Result Unit Refusal). outcome_text said (number_in x) (place_in x) answers) (sym e)

  pub said_by : (b : Both) (answers : List ℕ) {d : Option ℕ} {before after : Page} → b.difference ≡ d → Put before (unless_differ d (outcome_text said b.number b.index answers)) after
      → Put before (verdict_of said b answers) after
  said_by b answers told w = spelt w (ap (λ (x : Option ℕ). unless_differ x (outcome_text said b.number b.index answers)) (sym told))

  -- the same is said of equal replays
  pub said_of : {b b' : Both} {x x' : List ℕ} {before after : Page} → b ≡ b' → x ≡ x' → Put before (verdict_of said b x) after → Put before (verdict_of said b' x') after
  said_of eb ex w = spelt w (two (verdict_of said) eb ex)

  -- the same of any page, the code's or not, with what is told of the two replays
  pub said_of_any_page : {b b' : Both} {x x' : List ℕ} {agreed : Bool} {before after : AnyPage} → b ≡ b' → x ≡ x'
      → (agreed ≡ is_none b.difference) × Wrote before (verdict_of said b x) after
      → (agreed ≡ is_none b'.difference) × Wrote before (verdict_of said b' x') after
  said_of_any_page eb ex w = (w.0 ∙ ap (λ (y : Both). is_none y.difference) eb, other_words w.1 (two (verdict_of said) eb ex))
