-- The truth table of each block, in the words of the rules: a test that antt computes at every pattern of the block's inputs, over the meaning
-- of its gate words, and one law that carries it to each pattern. Assumes nothing.
use mathlib.Core.Bool.{Bool, true, false, cond, ◌&&◌, ◌||◌, beq}
use mathlib.Core.Path.{◌≡◌, refl, ap}
use mathlib.Core.List.{List, [], ◌∷◌}
use Prim.Native.Nat.{ℕ}
use lib.Dec.{T, eqb}
use Rattle.routing.specs.Four.{four, some}
use Rattle.routing.proofs.Tests.{flag, flags, everywhere, beq→eq}
use Rattle.routing.proofs.Fours.{row}
use Rattle.fabric.specs.Cycle.{waiting_after}
use Rattle.words.specs.Word.{made, gate}
use Rattle.gates.specs.Evaluation.{early_refusal, nets_after, value_of}
use Rattle.blocks.specs.Lines.{lines}
use Rattle.blocks.specs.Decode.{decoded}
use Rattle.blocks.specs.Filter.{filtered}
use Rattle.blocks.specs.Phase.{phased}

-- two rows are the same
abbrev pub same : List Bool → List Bool → Bool
same [] [] = true
same [] (b ∷ bs) = false
same (a ∷ l) [] = false
same (a ∷ l) (b ∷ bs) = beq a b && same l bs

pub same→eq : (l r : List Bool) → T (same l r) → l ≡ r
same→eq [] [] t = refl
same→eq [] (b ∷ bs) t = absurd t
same→eq (a ∷ l) [] t = absurd t
same→eq (true ∷ l) (true ∷ bs) t = ap (λ (x : List Bool). true ∷ x) (same→eq l bs t)
same→eq (true ∷ l) (false ∷ bs) t = absurd t
same→eq (false ∷ l) (true ∷ bs) t = absurd t
same→eq (false ∷ l) (false ∷ bs) t = ap (λ (x : List Bool). false ∷ x) (same→eq l bs t)

-- decode: for each output, whether the header asks for it in the high class, and whether it asks for it
module _ (a p l h : Bool) where
  pub decode_high : (decoded a p l h).high ≡ four (λ o. (a && eqb (lines (l ∷ h ∷ [])) o) && p)
  unfolding decoded value_of early_refusal nets_after gate made
  decode_high = same→eq _ _
      (everywhere (flags []) (λ a p l h. same (decoded a p l h).high (four (λ o. (a && eqb (lines (l ∷ h ∷ [])) o) && p))) tt a p l h)

  pub decode_asks : (decoded a p l h).asks ≡ four (λ o. a && eqb (lines (l ∷ h ∷ [])) o)
  unfolding decoded value_of early_refusal nets_after gate made
  decode_asks = same→eq _ _
      (everywhere (flags []) (λ a p l h. same (decoded a p l h).asks (four (λ o. a && eqb (lines (l ∷ h ∷ [])) o))) tt a p l h)

-- filter: where some input asks in the high class only such inputs remain
pub filter_law : (f g : ℕ → Bool) → filtered (four f) (four g) ≡ four (λ i. cond (some f) (f i) (g i))
unfolding filtered value_of early_refusal nets_after gate made
filter_law f g = same→eq _ _
    (everywhere (flags (flags []))
    (λ a b c d e f g h. same (filtered (a ∷ b ∷ c ∷ d ∷ []) (e ∷ f ∷ g ∷ h ∷ [])) (four (λ i. cond (a || b || c || d) (row a b c d i) (row e f g h i))))
    tt (f 0) (f 1) (f 2) (f 3) (g 0) (g 1) (g 2) (g 3))

-- phase: rules 3 and 5
module _ (w s : Bool) (f : ℕ → Bool) where
  pub phase_routing : (phased w s (four f)).routing ≡ (w && some f)
  unfolding phased value_of early_refusal nets_after gate made
  phase_routing = beq→eq _ _
      (everywhere (flag ∷ flag ∷ flags []) (λ w s a b c d. beq (phased w s (a ∷ b ∷ c ∷ d ∷ [])).routing (w && (a || b || c || d))) tt w s (f 0) (f 1) (f 2) (f 3))

  pub phase_waiting : (phased w s (four f)).waiting ≡ waiting_after s (w && some f) w
  unfolding phased value_of early_refusal nets_after gate made
  phase_waiting = beq→eq _ _
      (everywhere (flag ∷ flag ∷ flags [])
      (λ w s a b c d. beq (phased w s (a ∷ b ∷ c ∷ d ∷ [])).waiting (waiting_after s (w && (a || b || c || d)) w)) tt w s (f 0) (f 1) (f 2) (f 3))
