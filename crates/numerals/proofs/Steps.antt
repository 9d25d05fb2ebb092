-- Runs of numeral bytes, a byte at a time. Assumes nothing.
use mathlib.Core.Bool.{true, false}
use mathlib.Core.Path.{◌≡◌, refl, sym, ap, ◌∙◌}
use mathlib.Core.List.{List}
use Prim.Native.Nat.{ℕ, zero, suc, ◌+◌, ◌-◌, ◌<◌, ◌≤◌}
use native.Mathlib.Omega.{arith}
use native.Mathlib.Numerals.{add-one}
use lib.ListN.{length, get_or, drop, drop_of_length-le}
use lib.Seq.{drop-cons}
use Rattle.numerals.specs.Numeral.{numeral, run_begins, leading, run_ends}

module _ (text : List ℕ) where
  module _ (at : ℕ) (some : 0 < at) where
    before : at ≡ suc (at - 1)
    before = omega (arith, some)

    pub begins_back : numeral (get_or text (at - 1) 0) ≡ true → run_begins text at ≡ run_begins text (at - 1)
    unfolding run_begins
    begins_back e = ap (run_begins text) before ∙ rw e

    pub begins_here : numeral (get_or text (at - 1) 0) ≡ false → run_begins text at ≡ at
    unfolding run_begins
    begins_here e =
        let stays : run_begins text (suc (at - 1)) ≡ suc (at - 1) = rw e in ap (run_begins text) before ∙ stays ∙ sym before

  pub begins_first : (at : ℕ) → at ≤ 0 → run_begins text at ≡ at
  unfolding run_begins
  begins_first zero h = refl
  begins_first (suc k) h = absurd (omega (arith, h))

  module _ (at : ℕ) (here : at < length text) where
    leads : numeral (get_or text at 0) ≡ true → leading (drop at text) ≡ suc (leading (drop (suc at) text))
    unfolding leading
    leads e = ap leading (drop-cons text at 0 here) ∙ rw e

    pub ends_on : numeral (get_or text at 0) ≡ true → run_ends text at ≡ run_ends text (at + 1)
    ends_on e =
        let one : leading (drop (suc at) text) ≡ leading (drop (at + 1) text) = rw (add-one at) in
        omega (arith, leads e, one)

    leads_not : numeral (get_or text at 0) ≡ false → leading (drop at text) ≡ 0
    unfolding leading
    leads_not e = ap leading (drop-cons text at 0 here) ∙ rw e

    pub ends_here : numeral (get_or text at 0) ≡ false → run_ends text at ≡ at
    ends_here e = omega (arith, leads_not e)

  pub ends_last : (at : ℕ) → length text ≤ at → run_ends text at ≡ at
  unfolding leading
  ends_last at h =
      let none : leading (drop at text) ≡ 0 = ap leading (drop_of_length-le text h) in
      omega (arith, none)
