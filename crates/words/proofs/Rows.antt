-- What the library says of an array that a closure made, as a list: of what it gave at each index, or of each element. Assumes nothing.
use mathlib.Core.Path.{◌≡◌, sym, ap, subst, ◌∙◌}
use mathlib.Core.Logic.{⊎_elim}
use mathlib.Core.List.{List, map}
use Prim.Native.Nat.{ℕ, zero, suc, ◌+◌, ◌<◌, ◌≤◌}
use native.Mathlib.Nat.{eq-or-lt_of_le}
use native.Mathlib.Omega.{arith}
use denote.Param.Members.{Mut, Called}
use lib.ListN.{length, get_or}
use Rattle.std.specs.Array.{IsFromFnResultFrom, IsFromFnResult, MapsFrom, IsMapOf}
use Rattle.std.specs.List.{range_with_len}
use Rattle.std.proofs.lemmas.List.{same_lists, get_or-map, length-map}
use Rattle.std.proofs.lemmas.List.FromFn.{length-map-range_with_len, get_or-map-range_with_len}

module _ {F B : Type 0} (g : Mut F (ℕ × Unit {0}) B) (h : ℕ → B) (f : F) (end : ℕ)
    (each : (i : ℕ) (y : B) (q : F) → i < end → Called g f (i, tt) y q → (q ≡ f) × (y ≡ h i)) where
  made_at : (ys : List B) (i n : ℕ) → i + n ≤ end → IsFromFnResultFrom g f ys i n → (j : ℕ) (d : B) → i ≤ j → j < i + n → get_or ys j d ≡ h j
  made_at ys i zero in_range made j d l m = absurd (omega arith)
  made_at ys i (suc n) in_range made j d l m =
      let here = each i made.1 made.0 (omega arith) made.3 in
      let rest : IsFromFnResultFrom g f ys (i + 1) n = subst (λ (q : F). IsFromFnResultFrom g q ys (i + 1) n) here.0 made.4 in
      ⊎_elim
      (λ e. ap (λ (k : ℕ). get_or ys k d) (sym e) ∙ made.2.1 d ∙ here.1 ∙ ap h e)
      (λ b. made_at ys (i + 1) n (omega arith) rest j d (omega arith) (omega arith))
      (eq-or-lt_of_le l)

  pub made_of : {ys : List B} → IsFromFnResult g f ys end → ys ≡ map h (range_with_len 0 end)
  made_of {ys = ys} made =
      same_lists ys (map h (range_with_len 0 end)) (made.long ∙ sym (length-map-range_with_len h 0 end))
      (λ k d l.
      let below : k < end = omega (arith, made.long) in
      made_at ys 0 end (omega arith) made.each k d (omega arith) (omega arith) ∙ sym (get_or-map-range_with_len h 0 end k k d below (omega arith)))

module _ {F A B : Type 0} (g : Mut F (A × Unit {0}) B) (h : A → B) (f : F)
    (each : (x : A) (y : B) (q : F) → Called g f (x, tt) y q → (q ≡ f) × (y ≡ h x)) where
  mapped_at : (xs : List A) (ys : List B) (i n : ℕ) → MapsFrom g f xs ys i n → (j : ℕ) (e : B) → i ≤ j → j < i + n
      → (x : A) × ((d : A) → get_or xs j d ≡ x) × (get_or ys j e ≡ h x)
  mapped_at xs ys i zero maps j e l m = absurd (omega arith)
  mapped_at xs ys i (suc n) maps j e l m =
      let here = each maps.1 maps.2 maps.0 maps.5 in
      let rest : MapsFrom g f xs ys (i + 1) n = subst (λ (q : F). MapsFrom g q xs ys (i + 1) n) here.0 maps.6 in
      ⊎_elim
      (λ p. (maps.1, λ d. ap (λ (k : ℕ). get_or xs k d) (sym p) ∙ maps.3.1 d, ap (λ (k : ℕ). get_or ys k e) (sym p) ∙ maps.4.1 e ∙ here.1))
      (λ b. mapped_at xs ys (i + 1) n rest j e (omega arith) (omega arith))
      (eq-or-lt_of_le l)

  pub map_of : {xs xs' : List A} {ys : List B} {n : ℕ} → IsMapOf g f xs ys n → xs ≡ xs' → length xs' ≡ n → ys ≡ map h xs'
  map_of {xs = xs} {xs' = xs'} {ys = ys} {n = n} maps same long =
      same_lists ys (map h xs') (maps.long ∙ sym (length-map xs' h ∙ long))
      (λ k e l.
      let below : k < n = omega (arith, maps.long) in
      let at = mapped_at xs ys 0 n maps.each k e (omega arith) (omega arith) in
      at.2 ∙ sym (get_or-map h xs' k at.0 e (omega (arith, long)) ∙ ap h (ap (λ (l : List A). get_or l k at.0) (sym same) ∙ at.1 at.0)))

  -- the same by places, for an array of which only its type says how long it is
  pub map_at : {xs : List A} {ys : List B} {n : ℕ} (d : A) → IsMapOf g f xs ys n → ys ≡ map (λ k. h (get_or xs k d)) (range_with_len 0 n)
  map_at {xs = xs} {ys = ys} {n = n} d maps =
      let given = λ (k : ℕ). h (get_or xs k d) in
      same_lists ys (map given (range_with_len 0 n)) (maps.long ∙ sym (length-map-range_with_len given 0 n))
      (λ k e l.
      let below : k < n = omega (arith, maps.long) in
      let at = mapped_at xs ys 0 n maps.each k e (omega arith) (omega arith) in
      at.2 ∙ ap h (sym (at.1 d)) ∙ sym (get_or-map-range_with_len given 0 n k k e below (omega arith)))
