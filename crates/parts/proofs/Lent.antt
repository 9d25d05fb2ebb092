-- As many marks as a payload asks for. Assumes nothing.
use mathlib.Core.Path.{◌≡◌, ap, ◌∙◌}
use mathlib.Core.List.{List}
use Prim.Native.Nat.{ℕ, ◌≤◌}
use lib.ListN.{take}
use Rattle.std.proofs.lemmas.List.{take-replicate}
use Rattle.parts.specs.Parts.{marked, room_at}

pub marks_cut : (payload : List ℕ) (k : ℕ) {space : List ℕ} {room : ℕ} → space ≡ marked 65536 → (room ≡ room_at payload k) × (room ≤ 65536) → take room space ≡ marked (room_at payload k)
marks_cut payload k {room = room} e r = ap (take room) e ∙ take-replicate room 65536 165 r.1 ∙ ap marked r.0
