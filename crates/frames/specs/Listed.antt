-- Bytes that come one after the other, as a list, and what is left of it without the zeros at its end.
use Rattle.std.specs.Prelude.{cond, List, [], ◌∷◌, ℕ, zero, suc, eqb}

-- f at n places from k on
unfoldable pub listed : {A : Type 0} → (ℕ → A) → ℕ → ℕ → List A
listed f k zero = []
listed f k (suc n) = f k ∷ listed f (suc k) n

-- a byte before what is left of the bytes behind it: a zero goes if nothing is left there
abbrev pub kept_before : ℕ → List ℕ → List ℕ
kept_before b [] = cond (eqb b 0) [] (b ∷ [])
kept_before b (c ∷ l) = b ∷ c ∷ l

-- bytes up to the last that is not zero
unfoldable pub trimmed : List ℕ → List ℕ
trimmed [] = []
trimmed (b ∷ l) = kept_before b (trimmed l)
