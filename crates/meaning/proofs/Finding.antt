-- Texts and a capture, put into an input and found in it again. Assumes nothing.
use mathlib.Core.Bool.{Bool, false}
use mathlib.Core.Path.{◌≡◌, refl, sym, ap, subst, ◌∙◌}
use mathlib.Core.List.{List, [], ◌∷◌, ◌++◌}
use Prim.Native.Nat.{ℕ, zero, suc, ◌+◌, ◌<◌, ◌≤◌}
use native.Mathlib.Omega.{arith}
use native.Mathlib.Numerals.{add-one}
use lib.Dec.{leb}
use lib.ListN.{length, take, drop, length-append, take-append-drop}
use lib.Seq.{take-append_seam, drop-append_seam, length-take-le}
use borrow.Author.Tests.{leb-false, lt-leb}
use Rattle.routing.specs.Four.{four}
use Rattle.routing.proofs.Equal.{row_of}
use Rattle.routing.proofs.Fours.{no_at, none_of}
use Rattle.records.specs.Record.{byte_at}
use Rattle.due.specs.Texts.{first_text, behind_text, behind, text_due, capture_in, cut, ends_inside}
use Rattle.meaning.specs.Inputs.{input_of, TextsFound, NothingElse}

-- a text, its length before it, and what stands behind it
abbrev before : List ℕ → List ℕ → List ℕ
before text rest = (length text ∷ text) ++ rest

-- whether the text at the start of bytes is cut
abbrev cut_here : List ℕ → Bool
cut_here bytes = leb (length bytes) (byte_at bytes 0)

module _ (text rest : List ℕ) where
  text_there : first_text (before text rest) ≡ text
  text_there = take-append_seam text rest

  rest_there : behind_text (before text rest) ≡ rest
  rest_there = ap (λ (n : ℕ). drop n (before text rest)) (add-one (length text)) ∙ drop-append_seam text rest

  not_cut : cut_here (before text rest) ≡ false
  not_cut = lt-leb (length (before text rest)) (length text) (omega (arith, length-append text rest))

module _ (capture : List ℕ) where
  passed : (h : ℕ) (texts : List (List ℕ)) → h ≤ length texts → behind (input_of texts capture) h ≡ input_of (drop h texts) capture
  unfolding behind input_of
  passed zero texts few = refl
  passed (suc h) [] few = absurd (omega (arith, few))
  passed (suc h) (text ∷ texts) few = ap (λ (l : List ℕ). behind l h) (rest_there text (input_of texts capture)) ∙ passed h texts (omega (arith, few))

  module _ (texts : List (List ℕ)) (h : ℕ) (text : List ℕ) (more : List (List ℕ)) (few : h ≤ length texts) (is : drop h texts ≡ (text ∷ more)) where
    here : behind (input_of texts capture) h ≡ before text (input_of more capture)
    unfolding input_of
    here = passed h texts few ∙ ap (λ (l : List (List ℕ)). input_of l capture) is

    found : text_due (input_of texts capture) h ≡ text
    found = ap first_text here ∙ text_there text (input_of more capture)

    whole : cut (input_of texts capture) h ≡ false
    whole = ap cut_here here ∙ not_cut text (input_of more capture)

module _ (t0 t1 t2 t3 capture : List ℕ) where
  abbrev texts : List (List ℕ)
  texts = t0 ∷ t1 ∷ t2 ∷ t3 ∷ []

  none_cut : (h : ℕ) → h < 4 → cut (input_of texts capture) h ≡ false
  none_cut zero less = whole capture texts 0 t0 (t1 ∷ t2 ∷ t3 ∷ []) (omega arith) refl
  none_cut (suc zero) less = whole capture texts 1 t1 (t2 ∷ t3 ∷ []) (omega arith) refl
  none_cut (suc (suc zero)) less = whole capture texts 2 t2 (t3 ∷ []) (omega arith) refl
  none_cut (suc (suc (suc zero))) less = whole capture texts 3 t3 [] (omega arith) refl
  none_cut (suc (suc (suc (suc h)))) less = absurd (omega (arith, less))

  all_found : (ends_inside (input_of texts capture) ≡ false) × (four (text_due (input_of texts capture)) ≡ texts) × (capture_in (input_of texts capture) ≡ capture)
  unfolding input_of
  all_found = (
    none_of (cut (input_of texts capture)) none_cut,
    row_of
        (found capture texts 0 t0 (t1 ∷ t2 ∷ t3 ∷ []) (omega arith) refl)
        (found capture texts 1 t1 (t2 ∷ t3 ∷ []) (omega arith) refl)
        (found capture texts 2 t2 (t3 ∷ []) (omega arith) refl)
        (found capture texts 3 t3 [] (omega arith) refl),
    passed capture 4 texts (omega arith),
  )

pub texts_found : TextsFound
texts_found input t0 t1 t2 t3 capture is =
    subst (λ (l : List ℕ). (ends_inside l ≡ false) × (four (text_due l) ≡ texts t0 t1 t2 t3 capture) × (capture_in l ≡ capture)) (sym is) (all_found t0 t1 t2 t3 capture)

-- bytes whose first text is not cut are that text and what stands behind it
one_text : (bytes : List ℕ) → cut_here bytes ≡ false → bytes ≡ before (first_text bytes) (behind_text bytes)
one_text [] e = absurd (omega (arith, leb-false 0 0 e))
one_text (n ∷ bytes) e =
    let long : n ≤ length bytes = omega (arith, leb-false (suc (length bytes)) n e) in
    let count : length (take n bytes) ≡ n = length-take-le n bytes long in
    let split : take n bytes ++ drop n bytes ≡ bytes = take-append-drop n bytes in
    let rest : drop (n + 1) (n ∷ bytes) ≡ drop n bytes = ap (λ (m : ℕ). drop m (n ∷ bytes)) (add-one n) in
    sym (ap (λ (m : ℕ). (m ∷ take n bytes) ++ drop (n + 1) (n ∷ bytes)) count ∙ ap (λ (l : List ℕ). (n ∷ take n bytes) ++ l) rest ∙ ap (λ (l : List ℕ). n ∷ l) split)

pub nothing_else : NothingElse
unfolding input_of behind
nothing_else input e =
    let no = no_at (cut input) e in
    one_text input (no 0 (omega arith))
    ∙ ap (before (text_due input 0)) (one_text (behind input 1) (no 1 (omega arith))
    ∙ ap (before (text_due input 1)) (one_text (behind input 2) (no 2 (omega arith))
    ∙ ap (before (text_due input 2)) (one_text (behind input 3) (no 3 (omega arith)))))
