-- Values are equal where their parts are. Assumes nothing.
use mathlib.Core.Path.{◌≡◌}
use mathlib.Core.List.{[], ◌∷◌}
use Rattle.routing.specs.declared.route.Outcome.{Outcome}
use Rattle.routing.specs.declared.route.Outcomes.{Outcomes}

pub two : {A B C : Type 0} (f : A → B → C) {a a' : A} {b b' : B} → a ≡ a' → b ≡ b' → f a b ≡ f a' b'
two f p q = cc

pub row_of : {A : Type 0} {a a' b b' c c' d d' : A} → a ≡ a' → b ≡ b' → c ≡ c' → d ≡ d' → (a ∷ b ∷ c ∷ d ∷ []) ≡ (a' ∷ b' ∷ c' ∷ d' ∷ [])
row_of p q r s = cc

abbrev outcomes : Outcome → Outcome → Outcome → Outcome → Outcomes
outcomes a b c d = record { output0 = a; output1 = b; output2 = c; output3 = d }

pub outcomes_of : {a a' b b' c c' d d' : Outcome} → a ≡ a' → b ≡ b' → c ≡ c' → d ≡ d' → outcomes a b c d ≡ outcomes a' b' c' d'
outcomes_of p q r s = cc
