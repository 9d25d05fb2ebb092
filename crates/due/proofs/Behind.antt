-- Texts one behind the other. Assumes nothing.
use mathlib.Core.Path.{◌≡◌, sym, ap}
use mathlib.Core.List.{List}
use Prim.Native.Nat.{ℕ, suc, ◌+◌, ◌-◌, ◌<◌, ◌≤◌}
use native.Mathlib.Omega.{arith}
use Rattle.due.specs.Texts.{behind_text, behind}

module _ (bytes : List ℕ) where
  pub one_passed : (h k : ℕ) → k < h → behind (behind_text bytes) (h - (k + 1)) ≡ behind bytes (h - k)
  unfolding behind
  one_passed h k some =
      let more : h - k ≡ suc (h - (k + 1)) = omega arith in ap (behind bytes) (sym more)

  pub all_passed : (h k : ℕ) → h ≤ k → behind bytes (h - k) ≡ bytes
  unfolding behind
  all_passed h k over =
      let none : h - k ≡ 0 = omega arith in ap (behind bytes) none
