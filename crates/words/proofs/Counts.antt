-- What a word's count covers, as the code asks for it. Assumes nothing.
use mathlib.Core.Bool.{Bool, true, false, ◌&&◌, ◌||◌}
use mathlib.Core.Path.{◌≡◌, refl, sym, ap, ◌∙◌}
use mathlib.Core.Logic.{◌≢◌}
use mathlib.Core.List.{List, [], ◌∷◌, map}
use Prim.Native.Nat.{ℕ, zero, suc, ◌≤◌, ◌<◌}
use native.Mathlib.Omega.{arith}
use lib.Dec.{eqb}
use lib.ListN.{take, drop, get_or-eq_default}
use Rattle.std.specs.List.{list_any, fold}
use Rattle.words.specs.Word.{two_to_four, every, any, values, made, right_count}

-- each kind's right count
pub one_net : (k n : ℕ) → k < 2 → eqb n 1 ≡ right_count k n
unfolding right_count
one_net zero n h = refl
one_net (suc zero) n h = refl
one_net (suc (suc k)) n h = absurd (omega arith)

pub several_nets : (k n : ℕ) → 2 ≤ k → k < 6 → two_to_four n ≡ right_count k n
unfolding right_count
several_nets zero n l h = absurd (omega arith)
several_nets (suc zero) n l h = absurd (omega arith)
several_nets (suc (suc zero)) n l h = refl
several_nets (suc (suc (suc zero))) n l h = refl
several_nets (suc (suc (suc (suc zero)))) n l h = refl
several_nets (suc (suc (suc (suc (suc zero))))) n l h = refl
several_nets (suc (suc (suc (suc (suc (suc k)))))) n l h = absurd (omega arith)

pub two_nets : (k n : ℕ) → 6 ≤ k → k < 8 → eqb n 2 ≡ right_count k n
unfolding right_count
two_nets (suc (suc (suc (suc (suc (suc zero)))))) n l h = refl
two_nets (suc (suc (suc (suc (suc (suc (suc zero))))))) n l h = refl
two_nets (suc (suc (suc (suc (suc (suc (suc (suc k)))))))) n l h = absurd (omega arith)
two_nets (suc (suc (suc (suc (suc zero))))) n l h = absurd (omega arith)
two_nets (suc (suc (suc (suc zero)))) n l h = absurd (omega arith)
two_nets (suc (suc (suc zero))) n l h = absurd (omega arith)
two_nets (suc (suc zero)) n l h = absurd (omega arith)
two_nets (suc zero) n l h = absurd (omega arith)
two_nets zero n l h = absurd (omega arith)

pub no_count : (k n : ℕ) → 9 ≤ k → false ≡ right_count k n
unfolding right_count
no_count k n h =
    let any = two_to_four n in sym (get_or-eq_default (eqb n 1 ∷ eqb n 1 ∷ any ∷ any ∷ any ∷ any ∷ eqb n 2 ∷ eqb n 2 ∷ eqb n 4 ∷ []) false h)

-- the library's word for one of some, as this crate's
pub any_taken : (test : ℕ → Bool) (n : ℕ) (xs : List ℕ) → list_any test (take n xs) ≡ any (take n (map test xs))
any_taken test zero xs = refl
any_taken test (suc n) [] = refl
any_taken test (suc n) (x ∷ xs) = ap (λ b. test x || b) (any_taken test n xs)

any_of : (test : ℕ → Bool) (xs : List ℕ) → list_any test xs ≡ any (map test xs)
any_of test [] = refl
any_of test (x ∷ xs) = ap (λ b. test x || b) (any_of test xs)

pub any_dropped : (test : ℕ → Bool) (n : ℕ) (xs : List ℕ) → list_any test (drop n xs) ≡ any (drop n (map test xs))
any_dropped test zero xs = any_of test xs
any_dropped test (suc n) [] = refl
any_dropped test (suc n) (x ∷ xs) = any_dropped test n xs

-- folds over all of some answers, which stop early at none of them
pub every_folded : (all : Bool) (bs : List Bool) → fold ◌&&◌ all bs ≡ all && every bs
every_folded true [] = refl
every_folded false [] = refl
every_folded true (b ∷ bs) = every_folded b bs
every_folded false (b ∷ bs) = every_folded false bs

pub any_folded : (some : Bool) (bs : List Bool) → fold ◌||◌ some bs ≡ some || any bs
any_folded true [] = refl
any_folded false [] = refl
any_folded true (b ∷ bs) = any_folded true bs
any_folded false (b ∷ bs) = any_folded b bs

-- what the code makes of the values read, for each kind
module _ (bs : List Bool) where
  pub carried : {kind k : ℕ} {b : Bool} → kind ≡ k → b ≡ made k bs → b ≡ made kind bs
  carried e is = is ∙ ap (λ (k : ℕ). made k bs) (sym e)

  pub made_unknown : (kind : ℕ) → 9 ≤ kind → false ≡ made kind bs
  unfolding made
  made_unknown kind h = sym (get_or-eq_default (values bs) false h)

-- in two steps, since `omega` takes at most six case splits
pub past_four : {k : ℕ} → k ≢ 0 → k ≢ 1 → k ≢ 2 → k ≢ 3 → k ≢ 4 → 5 ≤ k
past_four a b c d e = omega arith

pub past_eight : {k : ℕ} → 5 ≤ k → k ≢ 5 → k ≢ 6 → k ≢ 7 → k ≢ 8 → 9 ≤ k
past_eight h a b c d = omega arith
