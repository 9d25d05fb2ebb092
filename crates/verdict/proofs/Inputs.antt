-- What both engines say of the bytes that are kept of an input. Assumes nothing.
use Rattle.std.proofs.Common.{◌≡◌, ℕ, ◌≤◌, Bool, true, List, length, take, Option, is_none, sym, ap, ◌∙◌}
use Rattle.std.proofs.lemmas.List.{take-replicate}
use lib.ListN.{length-replicate}
use Rattle.text.specs.declared.page.Page.{Page}
use Rattle.text.specs.Page.{Put, Wrote, Page as AnyPage}
use Rattle.text.proofs.Pages.{spelt, other_words}
use Rattle.fabric.specs.Run.{reset_machine}
use Rattle.capture.specs.Replay.{replay_of, replay_writes}
use Rattle.comparison.specs.Both.{zeros, both_of}
use Rattle.comparison.proofs.Inputs.{both_agree}
use Rattle.verdict.specs.Verdict.{outcome_text, unless_differ, verdict_of}
use Rattle.verdict.specs.Printed.{printed_by}

-- the start of the buffer of zeros, as long as a capture
pub as_zeros : (capture : List ℕ) → length capture ≤ 61449 → take (length capture) (zeros 61449) ≡ zeros (length capture)
as_zeros capture few = take-replicate (length capture) 61449 0 few

module _ (said : List ℕ → List ℕ) where
  -- both engines on a capture, each into as many zeros: they agree, and what is to be printed is said
  module _ (capture : List ℕ) (z : List ℕ) (e : z ≡ zeros (length capture)) where
    both_same : is_none (both_of capture z z).difference ≡ true
    both_same = ap is_none (both_agree capture z)

    both_text : verdict_of said (both_of capture z z) (replay_writes reset_machine capture z) ≡ printed_by said capture
    unfolding printed_by
    both_text =
        let long : length z ≡ length capture = ap length e ∙ length-replicate (length capture) 0 in
        ap (λ (d : Option ℕ). unless_differ d (outcome_text said (replay_of reset_machine capture (length z)).number (replay_of reset_machine capture (length z)).index (replay_writes reset_machine capture z))) (both_agree capture z)
        ∙ ap (λ (n : ℕ). outcome_text said (replay_of reset_machine capture n).number (replay_of reset_machine capture n).index (replay_writes reset_machine capture z)) long
        ∙ ap (λ (l : List ℕ). outcome_text said (replay_of reset_machine capture (length capture)).number (replay_of reset_machine capture (length capture)).index (replay_writes reset_machine capture l)) e

  module _ (capture plain gates whole : List ℕ) (ep : plain ≡ zeros (length capture)) (eg : gates ≡ zeros (length capture)) (ew : capture ≡ whole) where
    both_told : is_none (both_of capture plain gates).difference ≡ true
    both_told = ap (λ (g : List ℕ). is_none (both_of capture plain g).difference) (eg ∙ sym ep) ∙ both_same capture plain ep

    both_words : verdict_of said (both_of capture plain gates) (replay_writes reset_machine capture plain) ≡ printed_by said whole
    both_words =
        ap (λ (g : List ℕ). verdict_of said (both_of capture plain g) (replay_writes reset_machine capture plain)) (eg ∙ sym ep) ∙ both_text capture plain ep ∙ ap (printed_by said) ew

  pub both_said : (capture plain gates whole : List ℕ) {agreed : Bool} {before after : Page} → plain ≡ zeros (length capture) → gates ≡ zeros (length capture) → capture ≡ whole
      → (agreed ≡ is_none (both_of capture plain gates).difference) × Put before (verdict_of said (both_of capture plain gates) (replay_writes reset_machine capture plain)) after
      → (agreed ≡ true) × Put before (printed_by said whole) after
  both_said capture plain gates whole ep eg ew w = (w.0 ∙ both_told capture plain gates whole ep eg ew, spelt w.1 (both_words capture plain gates whole ep eg ew))

  -- the same of any page, the code's or not
  pub both_said_any_page : (capture plain gates whole : List ℕ) {agreed : Bool} {before after : AnyPage} → plain ≡ zeros (length capture) → gates ≡ zeros (length capture) → capture ≡ whole
      → (agreed ≡ is_none (both_of capture plain gates).difference) × Wrote before (verdict_of said (both_of capture plain gates) (replay_writes reset_machine capture plain)) after
      → (agreed ≡ true) × Wrote before (printed_by said whole) after
  both_said_any_page capture plain gates whole ep eg ew w =
      (w.0 ∙ both_told capture plain gates whole ep eg ew, other_words w.1 (both_words capture plain gates whole ep eg ew))
