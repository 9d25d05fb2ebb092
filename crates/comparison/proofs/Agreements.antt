-- Where two replays differ, and that a replay agrees with itself. Assumes nothing.
use Rattle.std.proofs.Common.{◌≡◌, ℕ, suc, ◌/◌, Bool, true, false, cond, not, ◌&&◌, eqb, List, [], ◌∷◌, Option, Some, None, is_none, refl, sym, ap, ◌∙◌}
use Rattle.std.specs.Bool.{then_some}
use lib.Pointwise.{pointwise}
use borrow.Author.Tests.{eq-eqb}
use Rattle.text.specs.Differ.{difference_from, first_difference}
use Rattle.text.proofs.Differences.{itself}
use Rattle.places.specs.Capture.{records}
use Rattle.capture.specs.Replay.{Replayed}
use Rattle.image.specs.Image.{image_of}
use Rattle.comparison.specs.Agreement.{same_end, by_record, disagreement_of}

-- bytes are equal where no place differs
one_more : (b more : Bool) (d : Option ℕ) (k : ℕ) → more ≡ is_none d → (b && more) ≡ is_none (cond b d (Some k))
one_more true more d k e = e
one_more false more d k e = refl

pub equal_by : (k : ℕ) (a b : List ℕ) → pointwise eqb a b ≡ is_none (difference_from k a b)
unfolding difference_from
equal_by k [] [] = refl
equal_by k [] (y ∷ ys) = refl
equal_by k (x ∷ xs) [] = refl
equal_by k (x ∷ xs) (y ∷ ys) = one_more (eqb x y) (pointwise eqb xs ys) (difference_from (suc k) xs ys) k (equal_by (suc k) xs ys)

ends_by : (b : Bool) (n : ℕ) → then_some (not b) n ≡ by_record None b n
ends_by true n = refl
ends_by false n = refl

module _ (p g : Replayed) (plain gates : List ℕ) {d : Option ℕ} (is : d ≡ first_difference plain gates) where
  pub bytes_differ : {k : ℕ} → d ≡ Some k → Some (k / 5) ≡ disagreement_of p g plain gates
  unfolding disagreement_of
  bytes_differ told = ap (λ (x : Option ℕ). by_record x (same_end p g) (records plain)) (sym told ∙ is)

  pub by_ends : {b : Bool} → d ≡ None → b ≡ same_end p g → then_some (not b) (records plain) ≡ disagreement_of p g plain gates
  unfolding disagreement_of
  by_ends {b = b} told ends =
      ends_by b (records plain) ∙ ap (λ (x : Bool). by_record None x (records plain)) ends ∙ ap (λ (x : Option ℕ). by_record x (same_end p g) (records plain)) (sym told ∙ is)

pub agrees_with_itself : (p : Replayed) (answers : List ℕ) → disagreement_of p p answers answers ≡ None
unfolding disagreement_of
agrees_with_itself p answers = rw (itself answers 0, eq-eqb p.number p.number refl, eq-eqb p.index p.index refl, itself (image_of p.machine) 0)
