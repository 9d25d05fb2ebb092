-- Places after a place, as the code adds them and as a list counts them; rows spelt out. Assumes nothing.
use mathlib.Core.Path.{◌≡◌, sym, ap, ◌∙◌}
use mathlib.Core.List.{List, [], ◌∷◌, ◌++◌}
use Prim.Native.Nat.{ℕ, zero, suc, ◌+◌, ◌-◌, ◌≤◌}
use native.Mathlib.Omega.{arith}
use lib.ListN.{length, get_or, take, drop}
use lib.Seq.{sets, sets-eq, drop-length, drop-cons}
use borrow.Rule.Slice.PartMut.{put_mid, Post-is}
use Rattle.std.proofs.Common.{append_assoc}

pub add_two : (n : ℕ) → n + 2 ≡ suc (suc n)
add_two n = omega arith

pub add_three : (n : ℕ) → n + 3 ≡ suc (suc (suc n))
add_three n = omega arith

pub add_four : (n : ℕ) → n + 4 ≡ suc (suc (suc (suc n)))
add_four n = omega arith

-- the elements of a list at n places from k on
abbrev pub places : {A : Type 0} → A → List A → ℕ → ℕ → List A
places d l k zero = []
places d l k (suc n) = get_or l k d ∷ places d l (suc k) n

rest_spelt : {A : Type 0} (d : A) (l : List A) (n k : ℕ) → length l ≡ k + n → places d l k n ≡ drop k l
rest_spelt d l zero k e = let h : length l ≡ k = omega arith in sym (ap (λ (j : ℕ). drop j l) (sym h) ∙ drop-length l)
rest_spelt {A} d l (suc n) k e =
    ap (λ (t : List A). get_or l k d ∷ t) (rest_spelt d l n (suc k) (omega arith)) ∙ sym (drop-cons l k d (omega arith))

-- a list of n elements is those elements
pub spelt : {A : Type 0} (d : A) (n : ℕ) (l : List A) → length l ≡ n → places d l 0 n ≡ l
spelt d n l e = rest_spelt d l n 0 (omega arith)

-- bytes copied to a place
pub part_put : (l new : List ℕ) (at : ℕ) → at + length new ≤ length l → put_mid at (at + length new - at) l new ≡ sets l at new
part_put l new at h =
    ap (λ (z : List ℕ). take at l ++ (new ++ z)) (Post-is at (at + length new) l (omega arith)) ∙ sym (append_assoc (take at l) new _) ∙ sym (sets-eq new l at h)
