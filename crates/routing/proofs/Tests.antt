-- A test that antt computes at every yes and no and at every number below a bound, and one law that carries it to each of them.
-- Assumes nothing.
use mathlib.Core.Path.{◌≡◌, refl, sym, subst}
use mathlib.Core.Bool.{Bool, true, false, ◌&&◌, beq}
use mathlib.Core.List.{List, [], ◌∷◌}
use mathlib.Core.Logic.{⊎_elim}
use Prim.Native.Nat.{ℕ, zero, suc, ◌<◌}
use native.Mathlib.Nat.{le_of_suc-le-suc, not-suc-le-zero, eq-or-lt_of_le}
use lib.Dec.{T}

-- what an argument of a test ranges over
pub data Range : Type 0 where
  flag : Range
  upto : ℕ → Range

-- four yes or no, and the arguments after them
abbrev pub flags : List Range → List Range
flags rs = flag ∷ flag ∷ flag ∷ flag ∷ rs

abbrev pub Test : List Range → Type 0
Test [] = Bool
Test (flag ∷ rs) = Bool → Test rs
Test (upto n ∷ rs) = ℕ → Test rs

-- f passes at every number below n
abbrev pub below : (ℕ → Bool) → ℕ → Bool
below f zero = true
below f (suc n) = f n && below f n

-- a test passes everywhere, as antt computes it
abbrev pub passes : (rs : List Range) → Test rs → Bool
passes [] t = t
passes (flag ∷ rs) f = passes rs (f true) && passes rs (f false)
passes (upto n ∷ rs) f = below (λ k. passes rs (f k)) n

-- and as a law
abbrev pub Holds : (rs : List Range) → Test rs → Type 0
Holds [] t = T t
Holds (flag ∷ rs) f = (b : Bool) → Holds rs (f b)
Holds (upto n ∷ rs) f = (k : ℕ) → k < n → Holds rs (f k)

and_left : (a b : Bool) → T (a && b) → T a
and_left true b t = tt
and_left false b t = t

and_right : (a b : Bool) → T (a && b) → T b
and_right true b t = t
and_right false b t = absurd t

at_number : (f : ℕ → Bool) (n : ℕ) → T (below f n) → (k : ℕ) → k < n → T (f k)
at_number f zero t k h = absurd (not-suc-le-zero h)
at_number f (suc n) t k h =
    ⊎_elim (λ e. subst (λ (m : ℕ). T (f m)) (sym e) (and_left (f n) (below f n) t))
    (λ l. at_number f n (and_right (f n) (below f n) t) k l) (eq-or-lt_of_le (le_of_suc-le-suc h))

at_flag : (f : Bool → Bool) → T (f true && f false) → (b : Bool) → T (f b)
at_flag f t true = and_left (f true) (f false) t
at_flag f t false = and_right (f true) (f false) t

pub everywhere : (rs : List Range) (f : Test rs) → T (passes rs f) → Holds rs f
everywhere [] f t = t
everywhere (flag ∷ rs) f t = λ b. everywhere rs (f b) (at_flag (λ a. passes rs (f a)) t b)
everywhere (upto n ∷ rs) f t = λ k h. everywhere rs (f k) (at_number (λ j. passes rs (f j)) n t k h)

pub beq→eq : (a b : Bool) → T (beq a b) → a ≡ b
beq→eq true true t = refl
beq→eq true false t = absurd t
beq→eq false true t = absurd t
beq→eq false false t = refl
