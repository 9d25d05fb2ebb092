-- The turn of rule 4.
use Rattle.std.specs.Prelude.{Bool, cond, ℕ, ◌+◌, ◌%◌}

-- the first whom f names in the order h+1, h+2, h+3, h, modulo 4; where f names nobody, h modulo 4
unfoldable pub in_turn : (ℕ → Bool) → ℕ → ℕ
in_turn f h =
    cond (f ((h + 1) % 4)) ((h + 1) % 4)
    (cond (f ((h + 2) % 4)) ((h + 2) % 4)
    (cond (f ((h + 3) % 4)) ((h + 3) % 4) (h % 4)))
