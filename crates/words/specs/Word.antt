-- A gate word, 32 bits: kind in 31..28; four net numbers of 6 bits in 27..4, the first highest; count of inputs in 3..0.
-- Nets are the bits of one number: net n is bit n.
use Rattle.std.specs.Prelude.{Bool, true, false, not, ◌&&◌, ◌||◌, List, [], ◌∷◌, ℕ, ◌+◌, ◌*◌, ◌/◌, ◌%◌, ◌^◌, eqb, leb, length, get_or, take, drop}
use Rattle.std.specs.Bool.{beq}
use Rattle.routing.specs.Four.{bit_at}

abbrev pub kind_of : ℕ → ℕ
kind_of w = w / 2 ^ 28

abbrev pub count_of : ℕ → ℕ
count_of w = w % 16

-- f of each of the four net numbers; of those that the count covers; of the unused ones
abbrev pub fields : {A : Type 0} → (ℕ → A) → ℕ → List A
fields f w = f (w / 2 ^ 22 % 64) ∷ f (w / 2 ^ 16 % 64) ∷ f (w / 2 ^ 10 % 64) ∷ f (w / 2 ^ 4 % 64) ∷ []

abbrev pub used : {A : Type 0} → (ℕ → A) → ℕ → List A
used f w = take (count_of w) (fields f w)

abbrev pub unused : {A : Type 0} → (ℕ → A) → ℕ → List A
unused f w = drop (count_of w) (fields f w)

-- the word of a kind that reads these nets
abbrev pub word : ℕ → List ℕ → ℕ
word kind nets = kind * 2 ^ 28 + get_or nets 0 0 * 2 ^ 22 + get_or nets 1 0 * 2 ^ 16 + get_or nets 2 0 * 2 ^ 10 + get_or nets 3 0 * 2 ^ 4 + length nets

-- all of some answers are yes; one of them is, or more
abbrev pub every : List Bool → Bool
every [] = true
every (b ∷ bs) = b && every bs

abbrev pub any : List Bool → Bool
any [] = false
any (b ∷ bs) = b || any bs

abbrev pub differ : Bool → Bool → Bool
differ a b = not (beq a b)

-- What a gate makes of the values bs that it reads, one entry for each kind: 0 buffer, 1 inverter, 2 AND, 3 NAND, 4 OR, 5 NOR, 6 XOR, 7 XNOR,
-- 8 first AND second, OR third AND fourth.
abbrev pub values : List Bool → List Bool
values bs =
    let read : ℕ → Bool = λ i. get_or bs i false in
    read 0
    ∷ not (read 0)
    ∷ every bs
    ∷ not (every bs)
    ∷ any bs
    ∷ not (any bs)
    ∷ differ (read 0) (read 1)
    ∷ not (differ (read 0) (read 1))
    ∷ ((read 0 && read 1) || (read 2 && read 3))
    ∷ []

-- an unknown kind makes 0
unfoldable pub made : ℕ → List Bool → Bool
made kind bs = get_or (values bs) kind false

-- the value of the gate w over the nets v
unfoldable pub gate : ℕ → ℕ → Bool
gate w v = made (kind_of w) (used (λ n. bit_at n v) w)

-- how many inputs a gate has: buffer and inverter 1, AND to NOR 2 to 4, XOR and XNOR 2, kind 8 four; an unknown kind has no right count
abbrev pub two_to_four : ℕ → Bool
two_to_four n = leb 2 n && leb n 4

unfoldable pub right_count : ℕ → ℕ → Bool
right_count kind n =
    get_or
    (eqb n 1 ∷ eqb n 1 ∷ two_to_four n ∷ two_to_four n ∷ two_to_four n ∷ two_to_four n ∷ eqb n 2 ∷ eqb n 2 ∷ eqb n 4 ∷ [])
    kind
    false

-- 11: wrong kind, count or unused field
unfoldable pub wrong : ℕ → Bool
wrong w = not (right_count (kind_of w) (count_of w)) || any (unused (λ n. not (eqb n 0)) w)

-- 12: the gate that makes net m reads net m or a later one
unfoldable pub late : ℕ → ℕ → Bool
late w m = any (used (leb m) w)
