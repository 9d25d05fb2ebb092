-- Values are equal where their parts are. Assumes nothing.
use mathlib.Core.Bool.{Bool}
use mathlib.Core.Path.{◌≡◌}
use mathlib.Core.List.{[], ◌∷◌}
use Rattle.blocks.specs.Lines.{lines}

pub four_args : {A B : Type 0} (f : A → A → A → A → B) {a a' b b' c c' d d' : A} → a ≡ a' → b ≡ b' → c ≡ c' → d ≡ d' → f a b c d ≡ f a' b' c' d'
four_args f p q r s = cc

pub lines_of : {a a' b b' c c' d d' e e' f f' g g' h h' : Bool} → a ≡ a' → b ≡ b' → c ≡ c' → d ≡ d' → e ≡ e' → f ≡ f' → g ≡ g' → h ≡ h'
    → lines (a ∷ b ∷ c ∷ d ∷ e ∷ f ∷ g ∷ h ∷ []) ≡ lines (a' ∷ b' ∷ c' ∷ d' ∷ e' ∷ f' ∷ g' ∷ h' ∷ [])
lines_of p q r s t u v w = rw (p, q, r, s, t, u, v, w)
