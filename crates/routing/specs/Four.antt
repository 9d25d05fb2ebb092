-- Words for what is said of each of the four inputs, or of each of the four outputs, and for bits.
use Rattle.std.specs.Prelude.{Bool, true, false, ◌||◌, List, [], ◌∷◌, ℕ, ◌+◌, ◌*◌, ◌/◌, ◌%◌, ◌^◌, eqb}

-- f at 0, 1, 2 and 3, as a row of four
abbrev pub four : {A : Type 0} → (ℕ → A) → List A
four f = f 0 ∷ f 1 ∷ f 2 ∷ f 3 ∷ []

-- f says yes at one of 0, 1, 2 and 3, or at more
abbrev pub some : (ℕ → Bool) → Bool
some f = f 0 || f 1 || f 2 || f 3

-- a yes is 1, a no is 0
abbrev pub bit : Bool → ℕ
bit true = 1
bit false = 0

-- bit n of a number is 1
abbrev pub bit_at : ℕ → ℕ → Bool
bit_at n x = eqb (x / 2 ^ n % 2) 1

-- at how many of 0, 1, 2 and 3 f says yes
abbrev pub count : (ℕ → Bool) → ℕ
count f = bit (f 0) + bit (f 1) + bit (f 2) + bit (f 3)

-- f's four answers as a mask: the answer at n is bit n
abbrev pub mask : (ℕ → Bool) → ℕ
mask f = bit (f 0) + 2 * bit (f 1) + 4 * bit (f 2) + 8 * bit (f 3)
