-- What four nets and a count make, by tests computed at every kind, count and answer. Assumes nothing.
use mathlib.Core.Bool.{Bool, false, not, ◌&&◌, ◌||◌, beq}
use mathlib.Core.Path.{◌≡◌, sym, ap, ◌∙◌}
use mathlib.Core.List.{List, [], ◌∷◌}
use Prim.Native.Nat.{ℕ, ◌/◌, ◌%◌, ◌^◌, ◌<◌}
use lib.Dec.{eqb, ltb}
use lib.ListN.{get_or, take, drop}
use Rattle.routing.specs.Four.{bit_at}
use Rattle.routing.proofs.Equal.{row_of}
use Rattle.routing.proofs.Tests.{upto, flags, everywhere, beq→eq}
use Rattle.words.specs.Word.{kind_of, count_of, any, differ, made, gate, right_count}

abbrev four : Bool → Bool → Bool → Bool → List Bool
four a b c d = a ∷ b ∷ c ∷ d ∷ []

abbrev one : Bool → Bool → Bool → Bool → Bool
one a b c d = ((a || b) || c) || d

-- each kind's right count
abbrev counted : ℕ → ℕ → Bool
counted k n =
    one (ltb k 2 && eqb n 1) (((ltb 1 k && ltb k 6) && ltb 1 n) && ltb n 5) ((ltb 5 k && ltb k 8) && eqb n 2)
    (eqb k 8 && eqb n 4)

pub right_count_lem : (k n : ℕ) → k < 16 → n < 16 → counted k n ≡ right_count k n
unfolding right_count
right_count_lem k n hk hn =
    beq→eq _ _ (everywhere (upto 16 ∷ upto 16 ∷ []) (λ k n. beq (counted k n) (right_count k n)) tt k hk n hn)

-- one of those that the count covers, and one of the others
abbrev covered : ℕ → Bool → Bool → Bool → Bool → Bool
covered n a b c d = one (ltb 0 n && a) (ltb 1 n && b) (ltb 2 n && c) (ltb 3 n && d)

abbrev spare : ℕ → Bool → Bool → Bool → Bool → Bool
spare n a b c d = one (ltb n 1 && a) (ltb n 2 && b) (ltb n 3 && c) (ltb n 4 && d)

pub any_covered : (n : ℕ) (a b c d : Bool) → n < 16 → covered n a b c d ≡ any (take n (four a b c d))
any_covered n a b c d h =
    beq→eq _ _
    (everywhere (upto 16 ∷ flags []) (λ n a b c d. beq (covered n a b c d) (any (take n (four a b c d)))) tt n h a b c d)

pub any_spare : (n : ℕ) (a b c d : Bool) → n < 16 → spare n a b c d ≡ any (drop n (four a b c d))
any_spare n a b c d h =
    beq→eq _ _
    (everywhere (upto 16 ∷ flags []) (λ n a b c d. beq (spare n a b c d) (any (drop n (four a b c d)))) tt n h a b c d)

-- the whole table: what each kind makes of the nets that its count covers
abbrev all : ℕ → Bool → Bool → Bool → Bool → Bool
all n x y z u = (((x || ltb n 1) && (y || ltb n 2)) && (z || ltb n 3)) && (u || ltb n 4)

abbrev kinds : ℕ → Bool → Bool → Bool → Bool → List Bool
kinds n x y z u =
    x
    ∷ not x
    ∷ all n x y z u
    ∷ not (all n x y z u)
    ∷ one x y z u
    ∷ not (one x y z u)
    ∷ differ x y
    ∷ not (differ x y)
    ∷ ((x && y) || (z && u))
    ∷ []

abbrev known : ℕ → ℕ → Bool → Bool → Bool → Bool → Bool
known k n a b c d = get_or (kinds n (ltb 0 n && a) (ltb 1 n && b) (ltb 2 n && c) (ltb 3 n && d)) k false

module _ (kind n : ℕ) (a b c d : Bool) where
  pub made_known : (k : ℕ) → k < 9 → n < 16 → kind ≡ k → known k n a b c d ≡ made kind (take n (four a b c d))
  unfolding made
  made_known k hk hn e =
      beq→eq _ _
      (everywhere (upto 9 ∷ upto 16 ∷ flags []) (λ k n a b c d. beq (known k n a b c d) (made k (take n (four a b c d)))) tt k hk n hn a b c d)
      ∙ ap (λ (k : ℕ). made k (take n (four a b c d))) (sym e)

-- a gate's value from what its four nets hold
module _ (w v : ℕ) where
  pub gate_made : {r a b c d : Bool} → r ≡ made (kind_of w) (take (count_of w) (four a b c d)) → a ≡ bit_at (w / 2 ^ 22 % 64) v
      → b ≡ bit_at (w / 2 ^ 16 % 64) v → c ≡ bit_at (w / 2 ^ 10 % 64) v → d ≡ bit_at (w / 2 ^ 4 % 64) v → r ≡ gate w v
  unfolding gate
  gate_made is a b c d = is ∙ ap (λ (bs : List Bool). made (kind_of w) (take (count_of w) bs)) (row_of a b c d)
