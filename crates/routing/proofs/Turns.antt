-- The first in turn: it depends on the holder modulo 4 and on four answers alone, and it is one of those who are named. Assumes nothing.
use mathlib.Core.Bool.{Bool, true, false, cond, not, ◌||◌}
use mathlib.Core.Path.{◌≡◌, refl, sym, ap, subst, ◌∙◌}
use mathlib.Core.List.{[], ◌∷◌}
use Prim.Native.Nat.{ℕ, ◌+◌, ◌%◌, ◌<◌}
use native.Mathlib.Nat.{mod-lt, mod-mod, mod-add-mod}
use lib.Dec.{T, lit<}
use Rattle.routing.specs.Four.{some}
use Rattle.routing.specs.Turn.{in_turn}
use Rattle.routing.proofs.Fours.{row, at_four}
use Rattle.routing.proofs.Tests.{upto, flags, everywhere}

pub turn_agree : (f g : ℕ → Bool) (h : ℕ) → ((i : ℕ) → i < 4 → f i ≡ g i) → in_turn f h ≡ in_turn g h
unfolding in_turn
turn_agree f g h e =
    simp (e ((h + 1) % 4) (mod-lt (h + 1) (lit< tt)), e ((h + 2) % 4) (mod-lt (h + 2) (lit< tt)), e ((h + 3) % 4) (mod-lt (h + 3) (lit< tt)))

pub turn_mod : (f : ℕ → Bool) (h : ℕ) → in_turn f (h % 4) ≡ in_turn f h
unfolding in_turn
turn_mod f h = simp (mod-add-mod h 4 1, mod-add-mod h 4 2, mod-add-mod h 4 3, mod-mod h 4)

cond_lt : (b : Bool) (x y : ℕ) → x < 4 → y < 4 → cond b x y < 4
cond_lt true x y p q = p
cond_lt false x y p q = q

pub turn_lt : (f : ℕ → Bool) (h : ℕ) → in_turn f h < 4
unfolding in_turn
turn_lt f h =
    cond_lt (f ((h + 1) % 4)) _ _ (mod-lt (h + 1) (lit< tt))
    (cond_lt (f ((h + 2) % 4)) _ _ (mod-lt (h + 2) (lit< tt))
    (cond_lt (f ((h + 3) % 4)) _ _ (mod-lt (h + 3) (lit< tt)) (mod-lt h (lit< tt))))

-- tested at all answers and holders: where somebody is named, the first in turn is named
named : (a b c d : Bool) (h : ℕ) → h < 4 → (a || b || c || d) ≡ true → row a b c d (in_turn (row a b c d) h) ≡ true
unfolding in_turn
named a b c d h below-4 some-named =
    is_true (row a b c d (in_turn (row a b c d) h))
    (subst (λ (x : Bool). T (not x || row a b c d (in_turn (row a b c d) h))) some-named
    (everywhere (upto 4 ∷ flags []) (λ h a b c d. not (a || b || c || d) || row a b c d (in_turn (row a b c d) h)) tt h below-4 a b c d))
  where
    is_true : (b : Bool) → T b → b ≡ true
    is_true true t = refl
    is_true false t = absurd t

pub turn_named : (f : ℕ → Bool) (h : ℕ) → some f ≡ true → f (in_turn f h) ≡ true
turn_named f h e =
    let g : ℕ → Bool = row (f 0) (f 1) (f 2) (f 3) in
    let same : in_turn g (h % 4) ≡ in_turn f h = turn_mod g h ∙ turn_agree g f h (at_four f false) in
    sym (at_four f false (in_turn f h) (turn_lt f h)) ∙ ap g (sym same) ∙ named (f 0) (f 1) (f 2) (f 3) (h % 4) (mod-lt h (lit< tt)) e
