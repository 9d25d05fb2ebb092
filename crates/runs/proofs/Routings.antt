-- An input that keeps asking comes nearer to its turn at each routing that it does not win. Assumes nothing.
use mathlib.Core.Bool.{Bool, true, false}
use mathlib.Core.Path.{◌≡◌, refl, sym, ap, subst, ◌∙◌}
use mathlib.Core.Logic.{◌⊎◌, inl, inr}
use Prim.Native.Nat.{ℕ, zero, suc, ◌+◌, ◌<◌, ◌≤◌}
use native.Mathlib.Omega.{arith}
use native.Mathlib.Nat.{add-zero}
use native.Mathlib.Decide.{le_ind}
use lib.Dec.{ltb}
use borrow.Author.Tests.{ltb-true, ltb-false}
use Rattle.routing.proofs.Fours.{no_unless}
use Rattle.routing.specs.Four.{bit}
use Rattle.routing.specs.Route.{remains, winner}
use Rattle.runs.specs.Run.{Run, holder, headers_at}
use Rattle.runs.specs.Routing.{RoutingAt, NoRoutingAt, AskedFor, InHighestClass, Wins, routings_before, KthRouting}
use Rattle.runs.specs.Routings.{InARow, WinsOneOf, FourRoutings}
use Rattle.runs.proofs.Cycles.{holder_kept, holder_won}
use Rattle.runs.proofs.Askers.{is_asked, remains_then}
use Rattle.runs.proofs.Turning.{first_after, Ahead, somewhere_ahead, Nearer, wins_or_nearer}

module _ (r : Run) where
  -- ---- the routings counted

  counted : (t : ℕ) → RoutingAt r t → routings_before r (suc t) ≡ suc (routings_before r t)
  unfolding routings_before
  counted t n = ap (λ (b : Bool). routings_before r t + bit b) n ∙ omega arith

  more : (s t : ℕ) → s ≤ t → routings_before r s ≤ routings_before r t
  unfolding routings_before
  more s t = le_ind {n = s} (λ (k : ℕ). routings_before r s ≤ routings_before r k) (omega arith) (λ k m p. omega arith) t

  module _ (k s t : ℕ) (a : KthRouting r k s) (b : KthRouting r (suc k) t) where
    in_order : s < t
    in_order = go (ltb s t) refl
      where
        go : (x : Bool) → ltb s t ≡ x → s < t
        go true e = ltb-true s t e
        go false e = let m = more t s (ltb-false s t e) in let p = a.number in let q = b.number in absurd (omega arith)

    none_between : (j : ℕ) → suc s ≤ j → j < t → NoRoutingAt r j
    none_between j lo hi =
        no_unless (λ n.
        let m = more (suc s) j lo in
        let u = more (suc j) t hi in
        let c = counted s a.happens in
        let d = counted j n in
        let p = a.number in
        let q = b.number in omega arith)

    -- from one routing to the next no holder changes
    still : (o : ℕ) → o < 4 → holder r t o ≡ holder r (suc s) o
    still o l =
        le_ind {n = suc s} (λ (j : ℕ). j ≤ t → holder r j o ≡ holder r (suc s) o) (λ _. refl)
        (λ j m p u. holder_kept r j o l (none_between j m u) ∙ p (omega arith)) t in_order (omega arith)

  -- ---- one routing

  module _ (t i o d : ℕ) (k : i < 4) (l : o < 4) (n : RoutingAt r t) (c : InHighestClass r t i o) (a : Ahead (holder r t o) i d) where
    is_asked_for : AskedFor r t o
    is_asked_for = record { by = i; is_input = k; asks = c.asks }

    won : holder r (suc t) o ≡ winner (headers_at r t) o (holder r t o)
    won = holder_won r t o l n (is_asked r t o is_asked_for)

    routed : Wins r t i o ⊎ Nearer (holder r (suc t) o) i d
    routed = go (wins_or_nearer f (holder r t o) (winner (headers_at r t) o (holder r t o)) i d (first_after f (holder r t o)) a (remains_then r t o i c))
      where
        f : ℕ → Bool
        f = remains (headers_at r t) o

        go : (winner (headers_at r t) o (holder r t o) ≡ i) ⊎ Nearer (winner (headers_at r t) o (holder r t o)) i d → Wins r t i o ⊎ Nearer (holder r (suc t) o) i d
        go (inl e) = inl (record { routing = n; asked = is_asked_for; new_holder = won ∙ e })
        go (inr x) = inr (subst (λ (h : ℕ). Nearer h i d) (sym won) x)

  -- ---- routings in a row: one whose turn is at most n steps away wins one of n

  module _ (i o : ℕ) (k : i < 4) (l : o < 4) where
    abbrev rest : (ℕ → ℕ) → ℕ → ℕ
    rest cycle j = cycle (suc j)

    row_rest : (n m : ℕ) (cycle : ℕ → ℕ) → InARow r (suc n) m cycle → InARow r n (suc m) (rest cycle)
    row_rest n m cycle row j h =
        let e : m + suc j ≡ suc m + j = omega arith in subst (λ (x : ℕ). KthRouting r x (cycle (suc j))) e (row (suc j) (omega arith))

    first_of : (n m : ℕ) (cycle : ℕ → ℕ) → InARow r (suc n) m cycle → KthRouting r m (cycle 0)
    first_of n m cycle row = subst (λ (x : ℕ). KthRouting r x (cycle 0)) (add-zero m) (row 0 (omega arith))

    one_of_rest : (n : ℕ) (cycle : ℕ → ℕ) → WinsOneOf r n (rest cycle) i o → WinsOneOf r (suc n) cycle i o
    one_of_rest n cycle w = record { which = suc w.which; is_one = let p = w.is_one in omega arith; wins = w.wins }

    -- after the first of them: it is won, or the rest is enough
    after_first : (n m : ℕ) (cycle : ℕ → ℕ) (d : ℕ) → d ≤ suc n → InARow r (suc n) m cycle
        → ((e : ℕ) → e ≤ n → Ahead (holder r (cycle 1) o) i e → WinsOneOf r n (rest cycle) i o)
        → Wins r (cycle 0) i o ⊎ Nearer (holder r (suc (cycle 0)) o) i d → WinsOneOf r (suc n) cycle i o
    after_first n m cycle d h row more (inl w) = record { which = 0; is_one = omega arith; wins = w }
    after_first zero m cycle d h row more (inr x) = let p = x.ahead.from_one in let q = x.fewer in absurd (omega arith)
    after_first (suc n) m cycle d h row more (inr x) =
        let first = first_of (suc n) m cycle row in
        let second = first_of n (suc m) (rest cycle) (row_rest (suc n) m cycle row) in
        let q = x.fewer in
        one_of_rest (suc n) cycle
        (more x.left (omega arith) (subst (λ (g : ℕ). Ahead g i x.left) (sym (still m (cycle 0) (cycle 1) first second o l)) x.ahead))

    within : (n m : ℕ) (cycle : ℕ → ℕ) (d : ℕ) → d ≤ n → Ahead (holder r (cycle 0) o) i d
        → InARow r n m cycle → ((j : ℕ) → j < n → InHighestClass r (cycle j) i o) → WinsOneOf r n cycle i o
    within zero m cycle d h a row asks = let p = a.from_one in absurd (omega arith)
    within (suc n) m cycle d h a row asks =
        after_first n m cycle d h row
        (λ e q b. within n (suc m) (rest cycle) e q b (row_rest n m cycle row) (λ j p. asks (suc j) (omega arith)))
        (routed (cycle 0) i o d k l (row 0 (omega arith)).happens (asks 0 (omega arith)) a)

pub four_routings : (r : Run) → FourRoutings r
four_routings r i o k cycle li lo row asks =
    within r i o li lo 4 k cycle _ (omega arith) (somewhere_ahead (holder r (cycle 0) o) i li) row asks
