-- A number in decimal is its tenth in decimal and its last digit. Assumes nothing.
use mathlib.Core.Path.{◌≡◌, refl, ap, ◌∙◌}
use mathlib.Core.Bool.{Bool, true, false, cond}
use mathlib.Core.List.{List, [], ◌∷◌, ◌++◌}
use Prim.Native.Nat.{ℕ, zero, suc, ◌+◌, ◌/◌, ◌%◌, ◌^◌, ◌<◌, ◌≤◌}
use native.Mathlib.Nat.{pow-suc}
use native.Mathlib.Omega.{arith}
use lib.Dec.{ltb}
use lib.ListN.{length, length-append}
use borrow.Author.Tests.{ltb-true, ltb-false, lt-ltb, le-ltb}
use Rattle.text.specs.Digits.{digit_of, decimal_in, decimal}

pub few : (n : ℕ) → n < 10 → decimal n ≡ (digit_of n ∷ [])
unfolding decimal_in
few n h = rw (lt-ltb n 10 h)

-- one digit, or the tenth's digits first
by_size : (b : Bool) (j k n : ℕ) → ltb n 10 ≡ b → (10 ≤ n → decimal_in j (n / 10) ≡ decimal_in k (n / 10)) → decimal_in (suc j) n ≡ decimal_in (suc k) n
unfolding decimal_in
by_size true j k n e h = rw e
by_size false j k n e h = rw (e, h (ltb-false n 10 e))

-- places to spare change nothing
spare : (j k n : ℕ) → n < j → n < k → decimal_in j n ≡ decimal_in k n
spare zero k n h i = absurd (omega (arith, h))
spare (suc j) zero n h i = absurd (omega (arith, i))
spare (suc j) (suc k) n h i = by_size (ltb n 10) j k n refl (λ ten. spare j k (n / 10) (omega (arith, ten, h)) (omega (arith, ten, i)))

pub many : (n : ℕ) → 10 ≤ n → decimal n ≡ decimal (n / 10) ++ (digit_of (n % 10) ∷ [])
unfolding decimal_in
many n h =
    let tenth : n / 10 < n = omega (arith, h) in
    let enough : decimal_in n (n / 10) ≡ decimal (n / 10) = spare n (suc (n / 10)) (n / 10) tenth (omega arith) in
    rw (le-ltb n 10 h, enough)

one_more : (b : Bool) (k n : ℕ) → ltb n 10 ≡ b → (10 ≤ n → length (decimal (n / 10)) ≤ k) → length (decimal n) ≤ suc k
one_more true k n e h =
    let one : length (decimal n) ≡ 1 = ap length (few n (ltb-true n 10 e)) in omega (arith, one)
one_more false k n e h =
    let ten : 10 ≤ n = ltb-false n 10 e in
    let front = decimal (n / 10) in
    let all : length (decimal n) ≡ length front + 1 = ap length (many n ten) ∙ length-append front (digit_of (n % 10) ∷ []) in
    omega (arith, all, h ten)

-- a number below a power of ten has at most so many digits
pub few_digits : (d n : ℕ) → n < 10 ^ suc d → length (decimal n) ≤ suc d
few_digits zero n h =
    let less : n < 10 = h in one_more (ltb n 10) 0 n refl (λ ten. absurd (omega (arith, less, ten)))
few_digits (suc d) n h =
    let tenth : n / 10 < 10 ^ suc d = omega (arith, h, pow-suc 10 (suc d)) in one_more (ltb n 10) (suc d) n refl (λ ten. few_digits d (n / 10) tenth)

-- the first byte of a number in decimal is a digit
pub record Digit (text : List ℕ) : Type 0 where
  pub digit : ℕ
  pub rest : List ℕ
  pub spelt : text ≡ (digit ∷ rest)
  pub small : digit < 58

of_digit : (b : Bool) (n : ℕ) → ltb n 10 ≡ b → n < 10 → digit_of n < 58
of_digit true n e h = rw e (omega (arith, h))
of_digit false n e h = absurd (omega (arith, h, ltb-false n 10 e))

alone : (n : ℕ) → n < 10 → Digit (digit_of n ∷ [])
alone n h = record { digit = digit_of n; rest = []; spelt = refl; small = of_digit (ltb n 10) n refl h }

longer : {front : List ℕ} (back : List ℕ) → Digit front → Digit (front ++ back)
longer back d = record { digit = d.digit; rest = d.rest ++ back; spelt = ap (λ (l : List ℕ). l ++ back) d.spelt; small = d.small }

digit_by : (b : Bool) (n : ℕ) (front : List ℕ) → ltb n 10 ≡ b → Digit front → Digit (cond b (digit_of n ∷ []) (front ++ (digit_of (n % 10) ∷ [])))
digit_by true n front e d = alone n (ltb-true n 10 e)
digit_by false n front e d = longer (digit_of (n % 10) ∷ []) d

first_by : (b : Bool) (n : ℕ) → ltb n 10 ≡ b → Digit (cond b (digit_of n ∷ []) (digit_of (n % 10) ∷ []))
first_by true n e = alone n (ltb-true n 10 e)
first_by false n e = alone (n % 10) (omega arith)

digit_in : (k n : ℕ) → Digit (decimal_in (suc k) n)
unfolding decimal_in
digit_in zero n = first_by (ltb n 10) n refl
digit_in (suc k) n = digit_by (ltb n 10) n (decimal_in (suc k) (n / 10)) refl (digit_in k (n / 10))

pub first_digit : (n : ℕ) → Digit (decimal n)
first_digit n = digit_in n n
