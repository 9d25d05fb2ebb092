-- A record where there is one, and an answer where it has a place. Assumes nothing.
use mathlib.Core.Path.{◌≡◌, ap}
use mathlib.Core.List.{List, [], ◌∷◌}
use Prim.Native.Nat.{ℕ, ◌*◌, ◌<◌, ◌≤◌}
use lib.Seq.{sets}
use borrow.Author.Tests.{lt-ltb, le-ltb}
use Rattle.records.specs.Record.{byte_at}
use Rattle.places.specs.Capture.{records, five_at, record_at, with_answer}

module _ (bytes : List ℕ) (k : ℕ) where
  pub record_there : k < records bytes → record_at bytes k ≡ five_at bytes (5 * k)
  unfolding record_at
  record_there h = rw (lt-ltb _ _ h)

  pub record_past : records bytes ≤ k → record_at bytes k ≡ (0 ∷ 0 ∷ 0 ∷ 0 ∷ 0 ∷ [])
  unfolding record_at
  record_past h = rw (le-ltb _ _ h)

  pub first_byte : k < records bytes → byte_at (record_at bytes k) 0 ≡ byte_at bytes (5 * k)
  first_byte h = ap (λ (l : List ℕ). byte_at l 0) (record_there h)

  pub answer_there : (answer : List ℕ) → k < records bytes → with_answer bytes k answer ≡ sets bytes (5 * k) answer
  unfolding with_answer
  answer_there answer h = rw (lt-ltb _ _ h)

  pub answer_past : (answer : List ℕ) → records bytes ≤ k → with_answer bytes k answer ≡ bytes
  unfolding with_answer
  answer_past answer h = rw (le-ltb _ _ h)
