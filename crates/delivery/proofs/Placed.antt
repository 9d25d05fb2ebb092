-- Written records, found again in bytes. Assumes nothing.
use mathlib.Core.Path.{◌≡◌, sym, ap, ◌∙◌}
use mathlib.Core.List.{List, [], ◌∷◌, ◌++◌, append_assoc, append-nil}
use mathlib.Core.Logic.{⊎_elim}
use Prim.Native.Nat.{ℕ, zero, suc, ◌+◌, ◌*◌, ◌<◌}
use native.Mathlib.Nat.{eq-or-lt_of_le, le_of_suc-le-suc}
use native.Mathlib.Omega.{arith}
use lib.ListN.{length, length-append}
use lib.Seq.{get_or-append-add}
use Rattle.fabric.specs.declared.cycle.Inputs.{Inputs}
use Rattle.records.specs.Record.{byte_at, record_of, inputs_from}
use Rattle.places.specs.Capture.{record_at, inputs_in}
use Rattle.places.proofs.Records.{record_there}
use Rattle.plans.specs.Plan.{Plan, te, inputs_of}
use Rattle.frames.specs.Writing.{records_of, frame_records}
use Rattle.frames.proofs.Writes.{records_length}

five : {a a' b b' c c' d d' e e' : ℕ} → a ≡ a' → b ≡ b' → c ≡ c' → d ≡ d' → e ≡ e'
    → (a ∷ b ∷ c ∷ d ∷ e ∷ []) ≡ (a' ∷ b' ∷ c' ∷ d' ∷ e' ∷ [])
five p q r s t = cc

-- a record with k records before it is record k
module _ (x y : List ℕ) (i : Inputs) (k : ℕ) (before : length x ≡ 5 * k) where
  abbrev all : List ℕ
  all = x ++ (record_of i ++ y)

  here : (j : ℕ) → byte_at all (5 * k + j) ≡ byte_at (record_of i ++ y) j
  here j =
      let place : 5 * k + j ≡ length x + j = omega (arith, before) in ap (byte_at all) place ∙ get_or-append-add x (record_of i ++ y) j 0

  pub record_here : record_at all k ≡ record_of i
  record_here =
      let long = length-append x (record_of i ++ y) in
      let first : 5 * k ≡ 5 * k + 0 = omega arith in
      record_there all k (omega (arith, long, before)) ∙ five (ap (byte_at all) first ∙ here 0) (here 1) (here 2) (here 3) (here 4)

-- a frame's records: those before record k, record k, and those behind it
record Cut (p : Plan) (n k : ℕ) : Type 0 where
  pub behind : List ℕ
  pub is : records_of p n ≡ records_of p k ++ (record_of (inputs_of p k) ++ behind)

cut : (p : Plan) (n k : ℕ) → k < n → Cut p n k
unfolding records_of
cut p zero k h = absurd (omega (arith, h))
cut p (suc n) k h = ⊎_elim last (λ less. earlier (cut p n k less)) (eq-or-lt_of_le (le_of_suc-le-suc h))
  where
    one : ℕ → List ℕ
    one j = record_of (inputs_of p j)

    last : k ≡ n → Cut p (suc n) k
    last same = record {
      behind = [];
      is = ap (λ (j : ℕ). records_of p j ++ one j) (sym same) ∙ ap (λ (l : List ℕ). records_of p k ++ l) (sym (append-nil (one k)));
    }

    earlier : Cut p n k → Cut p (suc n) k
    earlier c = record {
      behind = c.behind ++ one n;
      is =
          ap (λ (l : List ℕ). l ++ one n) c.is
          ∙ append_assoc (records_of p k) (one k ++ c.behind) (one n)
          ∙ ap (λ (l : List ℕ). records_of p k ++ l) (append_assoc (one k) c.behind (one n));
    }

-- the records of a frame with s records before them are records s, s+1, ..
pub frame_here : (p : Plan) (x y : List ℕ) (s k : ℕ) → length x ≡ 5 * s → k < te p → inputs_in (x ++ (frame_records p ++ y)) (s + k) ≡ inputs_from (record_of (inputs_of p k))
frame_here p x y s k before h =
    let c = cut p (te p) k h in
    let front = records_of p k in
    let one = record_of (inputs_of p k) in
    let apart : x ++ (frame_records p ++ y) ≡ (x ++ front) ++ (one ++ (c.behind ++ y)) =
    ap (λ (l : List ℕ). x ++ (l ++ y)) c.is
    ∙ ap (λ (l : List ℕ). x ++ l) (append_assoc front (one ++ c.behind) y ∙ ap (λ (l : List ℕ). front ++ l) (append_assoc one c.behind y))
    ∙ sym (append_assoc x front (one ++ (c.behind ++ y))) in
    let long : length (x ++ front) ≡ 5 * (s + k) = length-append x front ∙ omega (arith, before, records_length p k) in
    ap (λ (l : List ℕ). inputs_in l (s + k)) apart ∙ ap inputs_from (record_here (x ++ front) (c.behind ++ y) (inputs_of p k) (s + k) long)
