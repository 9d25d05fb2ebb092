-- The truth table of each of these blocks, in the words of the rules: a test that antt computes at every pattern of the block's inputs, over the meaning
-- of its gate words, and one law that carries it to each pattern. Assumes nothing.
use mathlib.Core.Bool.{Bool, false, cond, not, ◌&&◌, ◌||◌, beq}
use mathlib.Core.Path.{◌≡◌, ap, ◌∙◌}
use mathlib.Core.List.{[], ◌∷◌}
use Prim.Native.Nat.{ℕ}
use lib.Dec.{eqb, eqb→eq}
use Rattle.routing.specs.Four.{four, some}
use Rattle.routing.specs.Turn.{in_turn}
use Rattle.routing.proofs.Tests.{flag, flags, everywhere, beq→eq}
use Rattle.routing.proofs.Fours.{row, at_four}
use Rattle.routing.proofs.Turns.{turn_agree}
use Rattle.fabric.specs.Cycle.{shut_after}
use Rattle.words.specs.Word.{made, gate}
use Rattle.gates.specs.Evaluation.{early_refusal, nets_after, value_of}
use Rattle.blocks.specs.Lines.{lines}
use Rattle.ways.specs.Turn.{number_of, turned}
use Rattle.ways.specs.Shut.{shut_next}
use Rattle.ways.specs.Select.{selected}
use Rattle.ways.specs.Choose.{chosen}
use Rattle.blocks.proofs.Truths.{same, same→eq}

-- turn: at a routing the first in turn of those who remain, if there is one; otherwise the old holder
turn_row : (a b c d l h r : Bool)
    → number_of (turned (a ∷ b ∷ c ∷ d ∷ []) l h r) ≡ cond (r && (a || b || c || d)) (in_turn (row a b c d) (lines (l ∷ h ∷ []))) (lines (l ∷ h ∷ []))
unfolding turned in_turn value_of early_refusal nets_after gate made
turn_row a b c d l h r = eqb→eq _ _
    (everywhere (flags (flag ∷ flag ∷ flag ∷ []))
    (λ a b c d l h r. eqb (number_of (turned (a ∷ b ∷ c ∷ d ∷ []) l h r)) (cond (r && (a || b || c || d)) (in_turn (row a b c d) (lines (l ∷ h ∷ []))) (lines (l ∷ h ∷ []))))
    tt a b c d l h r)

pub turn_law : (f : ℕ → Bool) (l h r : Bool) → number_of (turned (four f) l h r) ≡ cond (r && some f) (in_turn f (lines (l ∷ h ∷ []))) (lines (l ∷ h ∷ []))
turn_law f l h r =
    let old = lines (l ∷ h ∷ []) in
    turn_row (f 0) (f 1) (f 2) (f 3) l h r
    ∙ ap (λ (w : ℕ). cond (r && some f) w old) (turn_agree (row (f 0) (f 1) (f 2) (f 3)) f old (at_four f false))

-- shut: rule 6
pub shut_law : (s t r : Bool) (f : ℕ → Bool) → shut_next s t r (four f) ≡ shut_after t (r && some f) s
unfolding shut_next value_of early_refusal nets_after gate made
shut_law s t r f = beq→eq _ _
    (everywhere (flag ∷ flag ∷ flag ∷ flags [])
    (λ s t r a b c d. beq (shut_next s t r (a ∷ b ∷ c ∷ d ∷ [])) (shut_after t (r && (a || b || c || d)) s)) tt s t r (f 0) (f 1) (f 2) (f 3))

-- select: an output that is open lets its holder through, and nobody else
pub select_law : (l h s : Bool) → selected l h s ≡ four (λ i. not s && eqb (lines (l ∷ h ∷ [])) i)
unfolding selected value_of early_refusal nets_after gate made
select_law l h s = same→eq _ _
    (everywhere (flag ∷ flag ∷ flag ∷ []) (λ l h s. same (selected l h s) (four (λ i. not s && eqb (lines (l ∷ h ∷ [])) i))) tt l h s)

-- choose: a bit that is let through is 1
pub choose_law : (f g : ℕ → Bool) → chosen (four f) (four g) ≡ some (λ i. g i && f i)
unfolding chosen value_of early_refusal nets_after gate made
choose_law f g = beq→eq _ _
    (everywhere (flags (flags []))
    (λ a b c d e f g h. beq (chosen (a ∷ b ∷ c ∷ d ∷ []) (e ∷ f ∷ g ∷ h ∷ [])) (some (λ i. row e f g h i && row a b c d i)))
    tt (f 0) (f 1) (f 2) (f 3) (g 0) (g 1) (g 2) (g 3))
