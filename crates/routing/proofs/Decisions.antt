-- Rules 3 and 4, read off the askers' masks. Assumes nothing.
use mathlib.Core.Bool.{Bool, true, false, ◌||◌}
use mathlib.Core.Path.{◌≡◌, sym, ap, subst, ◌∙◌}
use mathlib.Core.List.{List, [], ◌∷◌}
use Prim.Native.Nat.{ℕ, ◌-◌, ◌<◌, ◌≤◌}
use lib.Count.{ones, ones_in}
use lib.Dec.{T, eqb, leb, leb→le}
use borrow.Author.Tests.{ne_eqb}
use Rattle.routing.specs.declared.port.Input.{Input}
use Rattle.routing.specs.declared.route.Outcome.TheVariants.{Quiet, Won}
use Rattle.routing.specs.declared.route.Outcomes.{Outcomes}
use Rattle.routing.specs.declared.route.Report.TheVariants.{NoRouting, Routing}
use Rattle.routing.specs.Four.{bit_at, mask}
use Rattle.routing.specs.Header.{asker, high_asker}
use Rattle.routing.specs.Turn.{in_turn}
use Rattle.routing.specs.Port.{input}
use Rattle.routing.specs.Route.{remains, winner, routes, decided, outcomes, reported}
use Rattle.routing.proofs.Tests.{upto, everywhere}
use Rattle.routing.proofs.Masks.{in_mask, mask_none, mask_some, ones_mask}
use Rattle.routing.proofs.Turns.{turn_agree}

module _ (headers : List ℕ) (o : ℕ) where
  -- with no high asker all remain; with one, the high ones
  module _ {high : ℕ} (high-masked : high ≡ mask (high_asker headers o)) where
    pub all_remain : {all : ℕ} → high ≡ 0 → all ≡ mask (asker headers o) → all ≡ mask (remains headers o)
    all_remain none masked = rw (mask_none (high_asker headers o) (sym high-masked ∙ none)) masked

    pub high_remain : (high ≡ 0 → ⊥) → high ≡ mask (remains headers o)
    high_remain some = rw (mask_some (high_asker headers o) (λ z. some (high-masked ∙ z))) high-masked

  -- the first in turn of the mask of those who remain wins
  pub wins : (h : ℕ) {w : Input} {m : ℕ} → m ≡ mask (remains headers o) → w ≡ input (in_turn (λ i. bit_at i m) h) → w ≡ input (winner headers o h)
  wins h masked e =
      e ∙ ap (λ (m : ℕ). input (in_turn (λ i. bit_at i m) h)) masked
      ∙ ap input (turn_agree (λ i. bit_at i (mask (remains headers o))) (remains headers o) h (in_mask (remains headers o)))

  -- what is reported of the output
  module _ (h : ℕ) {all : ℕ} (masked : all ≡ mask (asker headers o)) where
    pub quiet : all ≡ 0 → Quiet ≡ decided headers o h
    unfolding decided
    quiet e = rw (mask_none (asker headers o) (sym masked ∙ e))

    pub won : {w : Input} → (all ≡ 0 → ⊥) → w ≡ input (winner headers o h) → Won w (ones all - 1) ≡ decided headers o h
    unfolding decided
    won some e = rw (e, masked, mask_some (asker headers o) (λ z. some (masked ∙ z)), ones_mask)

-- a mask that names somebody has a one
pub ones_pos : (m : ℕ) → m < 16 → (m ≡ 0 → ⊥) → 1 ≤ ones m
unfolding ones ones_in
ones_pos m h n =
    leb→le 1 (ones m)
    (subst (λ (b : Bool). T (b || leb 1 (ones m))) (ne_eqb m 0 n) (everywhere (upto 16 ∷ []) (λ m. eqb m 0 || leb 1 (ones m)) tt m h))

module _ (waiting : Bool) (holders : List Input) (headers : List ℕ) {routing : Bool} (is : routing ≡ routes waiting headers) where
  pub reports : {o : Outcomes} → routing ≡ true → o ≡ outcomes holders headers → Routing o ≡ reported waiting holders headers
  unfolding reported
  reports happens made = rw (made, sym is ∙ happens)

  pub reports_none : routing ≡ false → NoRouting ≡ reported waiting holders headers
  unfolding reported
  reports_none none = rw (sym is ∙ none)
