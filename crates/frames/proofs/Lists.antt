-- Bytes listed one after the other, and bytes up to the last that is not zero. Assumes nothing.
use mathlib.Core.Bool.{Bool, true, false, cond}
use mathlib.Core.Path.{◌≡◌, refl, sym, ap, ◌∙◌}
use mathlib.Core.List.{List, [], ◌∷◌, ◌++◌, map}
use Prim.Native.Nat.{ℕ, zero, suc, ◌+◌, ◌-◌, ◌<◌, ◌≤◌}
use native.Mathlib.Nat.{add-zero}
use native.Mathlib.Numerals.{add-one}
use native.Mathlib.Omega.{arith}
use lib.Dec.{eqb}
use lib.ListN.{length, get_or, replicate}
use borrow.Author.Tests.{ne_eqb}
use Rattle.frames.specs.Listed.{listed, kept_before, trimmed}

module _ {A : Type 0} (f : ℕ → A) where
  pub listed_length : (k n : ℕ) → length (listed f k n) ≡ n
  unfolding listed
  listed_length k zero = refl
  listed_length k (suc n) = ap suc (listed_length (suc k) n)

  -- the places from k up to e: the first of them, and that there is none
  pub listed_next : (k e : ℕ) → k < e → listed f k (e - k) ≡ f k ∷ listed f (k + 1) (e - (k + 1))
  unfolding listed
  listed_next k e h =
      let n : e - k ≡ suc (e - (k + 1)) = omega (arith, h) in ap (listed f k) n ∙ ap (λ (j : ℕ). f k ∷ listed f j (e - (k + 1))) (sym (add-one k))

  pub listed_none : (k e : ℕ) → e ≤ k → listed f k (e - k) ≡ []
  unfolding listed
  listed_none k e h =
      let n : e - k ≡ 0 = omega (arith, h) in ap (listed f k) n

  -- the last of them
  last_listed : (k n : ℕ) → listed f k (suc n) ≡ listed f k n ++ (f (k + n) ∷ [])
  unfolding listed
  last_listed k zero = ap (λ (j : ℕ). f j ∷ []) (sym (add-zero k))
  last_listed k (suc n) =
      let j : suc k + n ≡ k + suc n = omega arith in
      ap (λ (l : List A). f k ∷ l) (last_listed (suc k) n ∙ ap (λ (j : ℕ). listed f (suc k) n ++ (f j ∷ [])) j)

  pub listed_last : (k e : ℕ) → k < e → listed f k (e - k) ≡ listed f k (e - 1 - k) ++ (f (e - 1) ∷ [])
  listed_last k e h =
      let n : e - k ≡ suc (e - 1 - k) = omega (arith, h) in
      let j : k + (e - 1 - k) ≡ e - 1 = omega (arith, h) in
      ap (listed f k) n ∙ last_listed k (e - 1 - k) ∙ ap (λ (i : ℕ). listed f k (e - 1 - k) ++ (f i ∷ [])) j

-- two ways to say the same, and what is said by a list with zeros behind it
pub listed_same : {A : Type 0} (f g : ℕ → A) (k n : ℕ) → ((j : ℕ) → k ≤ j → j < k + n → f j ≡ g j) → listed f k n ≡ listed g k n
unfolding listed
listed_same f g k zero e = refl
listed_same {A} f g k (suc n) e =
    ap (λ (x : A). x ∷ listed f (suc k) n) (e k (omega arith) (omega arith))
    ∙ ap (λ (l : List A). g k ∷ l) (listed_same f g (suc k) n (λ j lo hi. e j (omega arith) (omega arith)))

module _ (f : ℕ → ℕ) (k : ℕ) where
  first : (l : List ℕ) {n : ℕ} → ((j : ℕ) → j < suc n → f (k + j) ≡ get_or l j 0) → f k ≡ get_or l 0 0
  first l e = ap f (sym (add-zero k)) ∙ e 0 (omega arith)

  behind : (l : List ℕ) {n : ℕ} → ((j : ℕ) → j < suc n → f (k + j) ≡ get_or l j 0) → (j : ℕ) → j < n → f (suc k + j) ≡ get_or l (suc j) 0
  behind l e j h =
      let place : suc k + j ≡ k + suc j = omega arith in ap f place ∙ e (suc j) (omega arith)

pub listed_as : (l : List ℕ) (f : ℕ → ℕ) (k n : ℕ) → length l ≤ n → ((j : ℕ) → j < n → f (k + j) ≡ get_or l j 0) → listed f k n ≡ l ++ replicate (n - length l) 0
unfolding listed
listed_as [] f k zero h e = refl
listed_as (b ∷ l) f k zero h e = absurd (omega (arith, h))
listed_as [] f k (suc n) h e =
    let all : suc n ≡ suc n - 0 = omega arith in
    let rest : n - 0 ≡ n = omega arith in
    ap (λ (x : ℕ). x ∷ listed f (suc k) n) (first f k [] e)
    ∙ ap (λ (l : List ℕ). 0 ∷ l) (listed_as [] f (suc k) n (omega arith) (behind f k [] e) ∙ ap (λ (m : ℕ). replicate m 0) rest)
    ∙ ap (λ (m : ℕ). replicate m 0) all
listed_as (b ∷ l) f k (suc n) h e =
    let rest : n - length l ≡ suc n - suc (length l) = omega arith in
    ap (λ (x : ℕ). x ∷ listed f (suc k) n) (first f k (b ∷ l) e)
    ∙ ap (λ (t : List ℕ). b ∷ t) (listed_as l f (suc k) n (omega (arith, h)) (behind f k (b ∷ l) e) ∙ ap (λ (m : ℕ). l ++ replicate m 0) rest)

pub listed_map : {A B : Type 0} (g : A → B) (f : ℕ → A) (k n : ℕ) → map g (listed f k n) ≡ listed (λ j. g (f j)) k n
unfolding listed
listed_map g f k zero = refl
listed_map {B = B} g f k (suc n) = ap (λ (l : List B). g (f k) ∷ l) (listed_map g f (suc k) n)

-- a byte before others stays
kept : (b : ℕ) (l : List ℕ) (x : ℕ) → kept_before b (l ++ (x ∷ [])) ≡ b ∷ l ++ (x ∷ [])
kept b [] x = refl
kept b (c ∷ l) x = refl

-- where the last byte is not zero all of them stay
pub trimmed_end : (l : List ℕ) {x : ℕ} → (x ≡ 0 → ⊥) → trimmed (l ++ (x ∷ [])) ≡ l ++ (x ∷ [])
unfolding trimmed
trimmed_end [] h = rw (ne_eqb _ _ h)
trimmed_end (b ∷ l) {x = x} h = ap (kept_before b) (trimmed_end l h) ∙ kept b l x

-- a first byte that is not zero stays in any case
pub trimmed_first : (b : ℕ) (l : List ℕ) → (b ≡ 0 → ⊥) → trimmed (b ∷ l) ≡ b ∷ trimmed l
unfolding trimmed
trimmed_first b l h = go (trimmed l)
  where
    go : (t : List ℕ) → kept_before b t ≡ b ∷ t
    go [] = rw (ne_eqb _ _ h)
    go (c ∷ t) = refl

-- zeros at the end go, however many
pub only_zeros : (n : ℕ) → trimmed (replicate n 0) ≡ []
unfolding trimmed
only_zeros zero = refl
only_zeros (suc n) = ap (kept_before 0) (only_zeros n)

trimmed_zeros : (l : List ℕ) (n : ℕ) → trimmed (l ++ replicate n 0) ≡ trimmed l
unfolding trimmed
trimmed_zeros [] n = only_zeros n
trimmed_zeros (b ∷ l) n = ap (kept_before b) (trimmed_zeros l n)

pub trimmed_zero : (l : List ℕ) {x : ℕ} → x ≡ 0 → trimmed (l ++ (x ∷ [])) ≡ trimmed l
trimmed_zero l e = ap (λ (x : ℕ). trimmed (l ++ (x ∷ []))) e ∙ trimmed_zeros l 1

-- a list that does not end in zero is all that is left of it
ends_so : (l : List ℕ) → 1 ≤ length l → (get_or l (length l - 1) 0 ≡ 0 → ⊥) → trimmed l ≡ l
unfolding trimmed
ends_so [] h e = absurd (omega (arith, h))
ends_so (b ∷ []) h e = rw (ne_eqb _ _ e)
ends_so (b ∷ c ∷ l) h e =
    let last : length (b ∷ c ∷ l) - 1 ≡ suc (length (c ∷ l) - 1) = omega arith in
    ap (kept_before b) (ends_so (c ∷ l) (omega arith) (λ z. e (ap (λ (k : ℕ). get_or (b ∷ c ∷ l) k 0) last ∙ z)))

pub trimmed_back : (l : List ℕ) (n : ℕ) → 1 ≤ length l → (get_or l (length l - 1) 0 ≡ 0 → ⊥) → trimmed (l ++ replicate n 0) ≡ l
trimmed_back l n h e = trimmed_zeros l n ∙ ends_so l h e

-- nothing is added
kept_less : (b : ℕ) (l : List ℕ) → length (kept_before b l) ≤ suc (length l)
kept_less b [] = go (eqb b 0)
  where
    go : (t : Bool) → length (cond t [] (b ∷ [])) ≤ 1
    go true = omega arith
    go false = omega arith
kept_less b (c ∷ l) = omega arith

pub trimmed_less : (l : List ℕ) → length (trimmed l) ≤ length l
unfolding trimmed
trimmed_less [] = omega arith
trimmed_less (b ∷ l) = omega (arith, kept_less b (trimmed l), trimmed_less l)
