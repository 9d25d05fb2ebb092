use mathlib.Core.Path.{ap}
use Prim.Native.Nat.{ℕ}
use native.Mathlib.Omega.{arith}
use Rattle.gates.specs.Evaluation.{fault}
use Rattle.gates.proofs.Limits.{few_inputs, inputs_outside, gates_outside, bit_above_lem, passed}
use borrow.Author.Rules.{rules}
use Rattle.gates.proofs.evaluator.early_refusal.Goals as goal

pub returns-then-inputs : goal.returns-then-inputs
returns-then-inputs c = ap (λ (n : ℕ). fault n 0) (inputs_outside _ _ _ c.if-inputs.true)

pub returns-then-gates-inputs : goal.returns-then-gates-inputs
returns-then-gates-inputs c = ap (λ (n : ℕ). fault n 0) (gates_outside _ _ _ c.if-inputs.false c.if-gates-inputs.true)

pub returns-then-input-inputs-ne0 : goal.returns-then-input-inputs-ne0
returns-then-input-inputs-ne0 c = ap (λ (n : ℕ). fault n 0) (bit_above_lem _ _ _ c.if-inputs.false c.if-gates-inputs.false c.if-input-inputs-ne0.true)

pub returns : goal.returns
returns c = ap (λ (n : ℕ). fault n 0) (passed _ _ _ c.if-inputs.false c.if-gates-inputs.false c.if-input-inputs-ne0.false)
