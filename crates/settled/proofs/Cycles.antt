-- Four cycles of the quiet run, as the code has them. Assumes nothing.
use mathlib.Core.Path.{◌≡◌, ap, ◌∙◌}
use Prim.Native.Nat.{ℕ, suc}
use Rattle.routing.specs.Four.{four}
use Rattle.fabric.specs.declared.cycle.Moved.{Moved}
use Rattle.fabric.specs.Cycle.{Machine, moved_of, rows_after}
use Rattle.fabric.specs.Run.{run_of}
use Rattle.settled.specs.Ahead.{quiet_cycle, quiet, some_shown, on_its_way}

module _ (m : Machine) where
  abbrev pub cycle : ℕ → Moved
  cycle k = moved_of (run_of m quiet k) quiet_cycle

  pub cycle_first : {t : Moved} → t ≡ moved_of m quiet_cycle → t ≡ cycle 0
  unfolding run_of
  cycle_first e = e

  pub cycle_next : {t u : Moved} (k : ℕ) → t ≡ cycle k → u ≡ moved_of t.machine quiet_cycle → u ≡ cycle (suc k)
  unfolding run_of rows_after
  cycle_next k e f = f ∙ ap (λ (x : Moved). moved_of x.machine quiet_cycle) e

  pub seen_ahead : {a b c d : Moved} → a ≡ cycle 0 → b ≡ cycle 1 → c ≡ cycle 2 → d ≡ cycle 3
      → four (some_shown a.shown b.shown c.shown d.shown) ≡ four (on_its_way m)
  unfolding on_its_way
  seen_ahead ea eb ec ed = rw (ea, eb, ec, ed)
