-- Numbers in decimal without zeros in front, bytes as two upper-case hex digits.
use Rattle.std.specs.Prelude.{cond, List, [], ◌∷◌, ◌++◌, ℕ, zero, suc, ◌+◌, ◌/◌, ◌%◌, ltb}

-- the digit of a number below 16: 0 to 9, then A to F
abbrev pub digit_of : ℕ → ℕ
digit_of d = cond (ltb d 10) (48 + d) (55 + d)

-- n in decimal, if it has at most k digits
unfoldable pub decimal_in : ℕ → ℕ → List ℕ
decimal_in zero n = []
decimal_in (suc k) n = cond (ltb n 10) (digit_of n ∷ []) (decimal_in k (n / 10) ++ (digit_of (n % 10) ∷ []))

-- no number has more digits than the next number counts
abbrev pub decimal : ℕ → List ℕ
decimal n = decimal_in (suc n) n

abbrev pub hex : ℕ → List ℕ
hex b = digit_of (b / 16) ∷ digit_of (b % 16) ∷ []

unfoldable pub hexes : List ℕ → List ℕ
hexes [] = []
hexes (b ∷ bytes) = hex b ++ hexes bytes
