-- Four times `same`, and what it means. Assumes nothing.
use mathlib.Core.Bool.{Bool, true, false}
use mathlib.Core.Path.{◌≡◌, refl, sym, ap, ◌∙◌}
use mathlib.Core.List.{List, [], ◌++◌, append_assoc, append-nil}
use Rattle.std.proofs.Common.{Option, None}
use Prim.Native.Nat.{ℕ, zero, suc, ◌<◌}
use native.Mathlib.Omega.{arith}
use lib.Dec.{eqb}
use lib.ListN.{length, get_or}
use borrow.Author.Tests.{eqb-true, eqb-false}
use Rattle.text.specs.Digits.{decimal_in}
use Rattle.fabric.specs.Run.{reset_machine}
use Rattle.capture.specs.Replay.{replay_of}
use Rattle.listing.specs.Refusal.{refusal_line, refusal_line_any_index, given as printed}
use Rattle.comparison.specs.Both.{index_given}
use Rattle.verdict.specs.Printed.{printed_by}
use Rattle.verdict.proofs.Verdicts.{done_text, refused_text_lem}
use Rattle.numerals.specs.Line.{same_line}
use Rattle.meaning.proofs.Telling.{says_same}
use Rattle.heads.specs.Shown.{head_text}
use Rattle.due.specs.Texts.{text_due, capture_in, ends_inside}
use Rattle.readings.specs.Lines.{line_of, four_lines}
use Rattle.readings.specs.ReadBack.{read_back}
use Rattle.meaning.specs.ReadBacks.{four_same, answers_to, CameThrough, FourSame}
use Rattle.readings.proofs.Saids.{cut_short, not_cut_short}

-- a refusal line, with whatever index, is none of the lines that a read-back begins with
no_refusal : (number : ℕ) (index : Option ℕ) → refusal_line_any_index number index ≡ four_same → ⊥
unfolding decimal_in
no_refusal number index e =
    let first : ◌≡◌ {A = ℕ} 114 48 = ap (λ (l : List ℕ). get_or l 0 0) e in omega (arith, first)

module _ (input answers : List ℕ) where
  abbrev due : ℕ → List ℕ
  due = text_due input

  abbrev line : ℕ → List ℕ
  line = line_of input answers

  -- the lines from the first on, each before all that follow
  in_turn_lem : (a b c d : List ℕ) → a ++ b ++ c ++ d ≡ a ++ (b ++ (c ++ (d ++ [])))
  in_turn_lem a b c d = ap (λ (l : List ℕ). a ++ b ++ c ++ l) (sym (append-nil d)) ∙ append_assoc (a ++ b) c (d ++ []) ∙ append_assoc a b (c ++ (d ++ []))

  -- one line, all that follows the others
  one : (h : ℕ) (rest other : List ℕ) → line h ++ rest ≡ same_line h ++ other → (due h ≡ head_text answers h) × (rest ≡ other)
  one h rest other = (says_same h (due h) (head_text answers h) rest other).0

  all_same : four_lines input answers ≡ four_same → (h : ℕ) → h < 4 → due h ≡ head_text answers h
  unfolding four_lines
  all_same e h less =
      let first = one 0 (line 1 ++ (line 2 ++ (line 3 ++ []))) (same_line 1 ++ (same_line 2 ++ (same_line 3 ++ []))) (sym (in_turn_lem (line 0) (line 1) (line 2) (line 3)) ∙ e ∙ in_turn_lem (same_line 0) (same_line 1) (same_line 2) (same_line 3)) in
      let second = one 1 (line 2 ++ (line 3 ++ [])) (same_line 2 ++ (same_line 3 ++ [])) first.1 in
      let third = one 2 (line 3 ++ []) (same_line 3 ++ []) second.1 in
      let fourth = one 3 [] [] third.1 in each first.0 second.0 third.0 fourth.0 h less
    where
      each : due 0 ≡ head_text answers 0 → due 1 ≡ head_text answers 1 → due 2 ≡ head_text answers 2 → due 3 ≡ head_text answers 3 → (h : ℕ) → h < 4 → due h ≡ head_text answers h
      each a b c d zero less = a
      each a b c d (suc zero) less = b
      each a b c d (suc (suc zero)) less = c
      each a b c d (suc (suc (suc zero))) less = d
      each a b c d (suc (suc (suc (suc h)))) less = absurd (omega (arith, less))

  says : (h : ℕ) → due h ≡ head_text answers h → line h ≡ same_line h
  says h = (says_same h (due h) (head_text answers h) [] []).1

  same_all : ((h : ℕ) → h < 4 → due h ≡ head_text answers h) → four_lines input answers ≡ four_same
  unfolding four_lines
  same_all shown =
      let l0 = says 0 (shown 0 (omega arith)) in
      let l1 = says 1 (shown 1 (omega arith)) in
      let l2 = says 2 (shown 2 (omega arith)) in
      let l3 = says 3 (shown 3 (omega arith)) in cc

module _ (input : List ℕ) where
  abbrev capture : List ℕ
  capture = capture_in input

  abbrev number : ℕ
  number = (replay_of reset_machine capture (length capture)).number

  -- the index that is printed with it
  abbrev given : Option ℕ
  given = index_given number (replay_of reset_machine capture (length capture)).index

  -- what is printed of the capture, by the number that its replay hands back
  lines_printed : number ≡ 0 → four_lines input (answers_to capture) ≡ printed_by (four_lines input) capture
  unfolding printed_by
  lines_printed z = done_text (four_lines input) number (replay_of reset_machine capture (length capture)).index (answers_to capture) z

  refusal_printed : (number ≡ 0 → ⊥) → refusal_line number given ≡ printed_by (four_lines input) capture
  unfolding printed_by
  refusal_printed n = refused_text_lem (four_lines input) number (replay_of reset_machine capture (length capture)).index (answers_to capture) n

  through : (t z : Bool) → ends_inside input ≡ t → eqb number 0 ≡ z → read_back input ≡ four_same → CameThrough input
  through true z et ez e = absurd (no_refusal 25 None (cut_short input capture et ∙ e))
  through false true et ez e =
      let done : number ≡ 0 = eqb-true _ _ ez in
      record { texts = et; done = done; shown = all_same input (answers_to capture) (lines_printed done ∙ not_cut_short input capture et ∙ e) }
  through false false et ez e =
      absurd (no_refusal number (printed number given) (refusal_printed (eqb-false _ _ ez) ∙ not_cut_short input capture et ∙ e))

pub four_same_lem : FourSame
four_same_lem input = (
  through input (ends_inside input) (eqb (number input) 0) refl refl,
  λ c. sym (not_cut_short input (capture_in input) c.texts) ∙ sym (lines_printed input c.done) ∙ same_all input (answers_to (capture_in input)) c.shown,
)
