-- The two loops over a list of words: what is made or found from the start is what is made or found from here. Assumes nothing.
use mathlib.Core.Bool.{Bool, true, false, cond}
use mathlib.Core.Path.{◌≡◌, sym, ◌∙◌}
use mathlib.Core.List.{List}
use Prim.Native.Nat.{ℕ, ◌+◌, ◌*◌, ◌^◌, ◌≤◌, ◌<◌}
use native.Mathlib.Nat.{add_assoc, add-zero}
use native.Mathlib.Numerals.{add-one}
use lib.ListN.{length, drop, get_or, drop_of_length-le}
use lib.Seq.{drop-cons}
use Rattle.routing.specs.Four.{bit}
use Rattle.words.specs.Word.{gate, wrong, late}
use Rattle.gates.specs.Evaluation.{nets_after, fault, first_fault}

module _ (ws : List ℕ) (m x : ℕ) where
  pub nets_start : nets_after ws m x ≡ nets_after (drop 0 ws) (m + 0) x
  nets_start = rw add-zero

  module _ (i v : ℕ) (inv : nets_after ws m x ≡ nets_after (drop i ws) (m + i) v) where
    pub nets_again : {b : Bool} {r : ℕ} → i < length ws → b ≡ gate (get_or ws i 0) v → r ≡ v + bit b * 2 ^ (m + i)
        → nets_after ws m x ≡ nets_after (drop (i + 1) ws) (m + (i + 1)) r
    unfolding nets_after
    nets_again more eb er = inv ∙ rw (er, eb, ← add_assoc, add-one i, add-one (m + i), drop-cons ws i 0)

    pub nets_end : length ws ≤ i → v ≡ nets_after ws m x
    unfolding nets_after
    nets_end all = sym (inv ∙ rw (drop_of_length-le ws all))

module _ (ws : List ℕ) (m : ℕ) where
  pub fault_start : first_fault ws m 0 ≡ first_fault (drop 0 ws) (m + 0) 0
  fault_start = rw add-zero

  module _ (i : ℕ) (inv : first_fault ws m 0 ≡ first_fault (drop i ws) (m + i) i) where
    split : i < length ws
        → first_fault ws m 0 ≡ cond (wrong (get_or ws i 0)) (fault 11 i)
        (cond (late (get_or ws i 0) (m + i)) (fault 12 i) (first_fault (drop (i + 1) ws) (m + (i + 1)) (i + 1)))
    unfolding first_fault
    split more = inv ∙ rw (← add_assoc, add-one i, add-one (m + i), drop-cons ws i 0)

    pub found_11 : i < length ws → wrong (get_or ws i 0) ≡ true → fault 11 i ≡ first_fault ws m 0
    found_11 more t = sym (split more ∙ rw t)

    pub found_12 : i < length ws → wrong (get_or ws i 0) ≡ false → late (get_or ws i 0) (m + i) ≡ true → fault 12 i ≡ first_fault ws m 0
    found_12 more t u = sym (split more ∙ rw (t, u))

    pub fault_again : i < length ws → wrong (get_or ws i 0) ≡ false → late (get_or ws i 0) (m + i) ≡ false
        → first_fault ws m 0 ≡ first_fault (drop (i + 1) ws) (m + (i + 1)) (i + 1)
    fault_again more t u = split more ∙ rw (t, u)

    pub none_found : length ws ≤ i → fault 0 0 ≡ first_fault ws m 0
    unfolding first_fault
    none_found all = sym (inv ∙ rw (drop_of_length-le ws all))
