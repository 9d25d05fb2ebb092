-- The first place where two texts differ, if they do; a place past the end of one differs if the other goes on there.
use Rattle.std.specs.Prelude.{cond, List, [], ◌∷◌, Option, Some, None, ℕ, suc, eqb}

-- the same of what is left of two texts from place k on
unfoldable pub difference_from : ℕ → List ℕ → List ℕ → Option ℕ
difference_from k [] [] = None
difference_from k [] (y ∷ ys) = Some k
difference_from k (x ∷ xs) [] = Some k
difference_from k (x ∷ xs) (y ∷ ys) = cond (eqb x y) (difference_from (suc k) xs ys) (Some k)

abbrev pub first_difference : List ℕ → List ℕ → Option ℕ
first_difference = difference_from 0
