-- Where each head byte comes from.
use Rattle.std.specs.Prelude.{Bool, true, cond, ◌≡◌, ℕ, ◌-◌, ◌<◌, ltb}
use Rattle.states.specs.State.{shut_at}
use Rattle.runs.specs.Run.{Run, sent, head, holder}

-- f n cycles before t; d where that is before cycle 0
abbrev pub before : {A : Type 0} → ℕ → A → (ℕ → A) → ℕ → A
before n d f t = cond (ltb t n) d (f (t - n))

-- cycles before the run count as zeros, with all outputs shut
abbrev pub shut_two_before : Run → ℕ → ℕ → Bool
shut_two_before r t o = before 2 true (λ k. shut_at (r.at k).state o) t

abbrev pub holder_two_before : Run → ℕ → ℕ → ℕ
holder_two_before r t o = before 2 0 (λ k. holder r k o) t

abbrev pub sent_four_before : Run → ℕ → ℕ → ℕ
sent_four_before r t i = before 4 0 (λ k. sent r k i) t

-- A head shows 0 if its output was shut two cycles before, and otherwise the byte that the holder of that cycle sent four cycles before.
abbrev pub Showing : Run → Type 0
Showing r = (t o : ℕ) → o < 4 → head r t o ≡ cond (shut_two_before r t o) 0 (sent_four_before r t (holder_two_before r t o))
