-- What a block's function reads off the nets of its table. Assumes nothing.
use mathlib.Core.Bool.{Bool}
use mathlib.Core.Path.{◌≡◌, ap, ◌∙◌}
use mathlib.Core.List.{List}
use Prim.Native.Nat.{ℕ}
use lib.ListN.{get_or}
use Rattle.routing.specs.Four.{four, bit_at}
use Rattle.routing.proofs.Equal.{two}

abbrev nets_at : List ℕ → ℕ → List Bool
nets_at places v = four (λ k. bit_at (get_or places k 0) v)

module _ {v y : ℕ} (made : v ≡ y) where
  pub net_of : (n : ℕ) {b : Bool} → b ≡ bit_at n v → b ≡ bit_at n y
  net_of n read = read ∙ ap (bit_at n) made

  pub two_nets : {A : Type 0} (f : Bool → Bool → A) (i j : ℕ) {a b : Bool} → a ≡ bit_at i v → b ≡ bit_at j v → f a b ≡ f (bit_at i y) (bit_at j y)
  two_nets f i j p q = two f (net_of i p) (net_of j q)

  pub nets_of : (places : List ℕ) {row : List Bool} → row ≡ nets_at places v → row ≡ nets_at places y
  nets_of places read = read ∙ ap (nets_at places) made

  pub eight_nets : {A : Type 0} (f : List Bool → List Bool → A) {p q : List Bool} (a b : List ℕ) → p ≡ nets_at a v → q ≡ nets_at b v
      → f p q ≡ f (nets_at a y) (nets_at b y)
  eight_nets f a b p q = two f (nets_of a p) (nets_of b q)
