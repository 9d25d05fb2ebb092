-- How far a piece reaches: it holds the place, has nothing but numeral bytes and cannot grow. Assumes nothing.
use mathlib.Core.Bool.{Bool, true, false, cond}
use mathlib.Core.Path.{◌≡◌, refl, sym, ap, ◌∙◌}
use mathlib.Core.List.{List, [], ◌∷◌}
use Prim.Native.Nat.{ℕ, zero, suc, ◌+◌, ◌-◌, ◌<◌, ◌≤◌}
use native.Mathlib.Omega.{arith}
use lib.Dec.{ltb}
use lib.ListN.{length, get_or, take, drop, length-drop}
use lib.Seq.{get_or-drop, drop-cons}
use borrow.Author.Tests.{ltb-true, ltb-false}
use Rattle.std.proofs.Common.{Option}
use Rattle.routing.proofs.Fours.{not_both}
use Rattle.numerals.specs.Numeral.{numeral, run_begins, leading, run_ends}
use Rattle.numerals.specs.Piece.{holding, begins, ends, around, piece_at}
use Rattle.meaning.specs.Texts.{PieceHolds, OnlyNumerals, CannotGrow, ByteAlone}
use Rattle.numerals.proofs.Pieces.{inside}

abbrev Numeral : List ℕ → ℕ → Type 0
Numeral text j = numeral (get_or text j 0) ≡ true

abbrev Other : List ℕ → ℕ → Type 0
Other text j = numeral (get_or text j 0) ≡ false

module _ (text : List ℕ) where
  -- the run before place k: `from` is where it begins
  record Back (k from : ℕ) : Type 0 where
    low : from ≤ k
    all : (j : ℕ) → from ≤ j → j < k → Numeral text j
    ended : (j : ℕ) → suc j ≡ from → Other text j

  one_more : {k from : ℕ} → Back k from → Numeral text k → Back (suc k) from
  one_more {k = k} {from = from} b is = record {
    low = omega (arith, b.low);
    all = λ j h i. by (ltb j k) j refl h i;
    ended = b.ended;
  }
    where
      by : (t : Bool) (j : ℕ) → ltb j k ≡ t → from ≤ j → j < suc k → Numeral text j
      by true j e h i = b.all j h (ltb-true _ _ e)
      by false j e h i =
          let last : k ≡ j = omega (arith, i, ltb-false j k e) in ap (λ (n : ℕ). numeral (get_or text n 0)) (sym last) ∙ is

  none : (k : ℕ) → Other text k → Back (suc k) (suc k)
  none k not = record {
    low = omega arith;
    all = λ j h i. absurd (omega (arith, h, i));
    ended = λ j e.
        let last : j ≡ k = omega (arith, e) in ap (λ (n : ℕ). numeral (get_or text n 0)) last ∙ not;
  }

  back_by : (t : Bool) (k : ℕ) → numeral (get_or text k 0) ≡ t → Back k (run_begins text k) → Back (suc k) (cond t (run_begins text k) (suc k))
  back_by true k e b = one_more b e
  back_by false k e b = none k e

  back : (k : ℕ) → Back k (run_begins text k)
  unfolding run_begins
  back zero = record { low = omega arith; all = λ j h i. absurd (omega (arith, i)); ended = λ j e. absurd (omega (arith, e)) }
  back (suc k) = back_by (numeral (get_or text k 0)) k refl (back k)

-- with how many numeral bytes a text begins: n
record Ahead (text : List ℕ) (n : ℕ) : Type 0 where
  most : n ≤ length text
  all : (j : ℕ) → j < n → Numeral text j
  ended : Other text n

ahead_by : (t : Bool) (b : ℕ) (text : List ℕ) → numeral b ≡ t → Ahead text (leading text) → Ahead (b ∷ text) (cond t (suc (leading text)) 0)
ahead_by true b text e a = record { most = omega (arith, a.most); all = by; ended = a.ended }
  where
    by : (j : ℕ) → j < suc (leading text) → Numeral (b ∷ text) j
    by zero i = e
    by (suc j) i = a.all j (omega (arith, i))
ahead_by false b text e a = record { most = omega arith; all = λ j i. absurd (omega (arith, i)); ended = e }

-- past the end of a text there is no numeral byte
no_byte : numeral 0 ≡ false
unfolding numeral
no_byte = refl

ahead : (text : List ℕ) → Ahead text (leading text)
unfolding leading
ahead [] = record { most = omega arith; all = λ j i. absurd (omega (arith, i)); ended = no_byte }
ahead (b ∷ text) = ahead_by (numeral b) b text refl (ahead text)

module _ (text : List ℕ) (k : ℕ) where
  a : Ahead (drop k text) (leading (drop k text))
  a = ahead (drop k text)

  -- the byte that stands j places behind place k
  behind : (j : ℕ) → numeral (get_or (drop k text) j 0) ≡ numeral (get_or text (k + j) 0)
  behind j = ap numeral (get_or-drop k text j 0)

  ends_most : k ≤ length text → run_ends text k ≤ length text
  ends_most h = omega (arith, h, a.most, length-drop k text)

  ends_all : (j : ℕ) → k ≤ j → j < run_ends text k → Numeral text j
  ends_all j h i =
      let n : k + (j - k) ≡ j = omega (arith, h) in
      ap (λ (m : ℕ). numeral (get_or text m 0)) (sym n) ∙ sym (behind (j - k)) ∙ a.all (j - k) (omega (arith, h, i))

  ends_not : Other text (run_ends text k)
  ends_not = sym (behind (leading (drop k text))) ∙ a.ended

  -- a place that is no numeral byte, or past the end, lies not within numeral bytes
  no_further : (from to at : ℕ) → ((j : ℕ) → from ≤ j → j < to → Numeral text j) → from ≤ at → Other text at → to ≤ at
  no_further from to at all h not = by (ltb at to) refl
    where
      by : (t : Bool) → ltb at to ≡ t → to ≤ at
      by true e = absurd (not_both (all at h (ltb-true _ _ e)) not)
      by false e = ltb-false _ _ e

  -- numeral bytes from place `from` on cannot begin before the run does
  no_earlier : (from to : ℕ) → ((j : ℕ) → from ≤ j → j < to → Numeral text j) → k < to → run_begins text k ≤ from
  no_earlier from to all i = by (ltb from (run_begins text k)) refl
    where
      b : Back text k (run_begins text k)
      b = back text k

      by : (t : Bool) → ltb from (run_begins text k) ≡ t → run_begins text k ≤ from
      by true e =
          let less : from < run_begins text k = ltb-true _ _ e in
          let at : ℕ = run_begins text k - 1 in
          absurd (not_both (all at (omega (arith, less)) (omega (arith, i, b.low))) (b.ended at (omega (arith, less))))
      by false e = ltb-false _ _ e

  module _ (is : Numeral text k) where
    run_begins_lem : begins text k ≡ run_begins text k
    run_begins_lem = rw is

    run_ends_lem : ends text k ≡ run_ends text k
    run_ends_lem = rw is

    this : (j : ℕ) → k ≤ j → j < suc k → Numeral text j
    this j h i =
        let n : k ≡ j = omega (arith, h, i) in ap (λ (m : ℕ). numeral (get_or text m 0)) (sym n) ∙ is

    run_holds : k < length text → (begins text k ≤ k) × (k < ends text k) × (ends text k ≤ length text)
    run_holds h =
        let past : suc k ≤ run_ends text k = no_further k (suc k) (run_ends text k) this (omega arith) ends_not in (
          omega (arith, run_begins_lem, (back text k).low),
          omega (arith, run_ends_lem, past),
          omega (arith, run_ends_lem, ends_most (omega (arith, h))),
        )

    run_all : (j : ℕ) → begins text k ≤ j → j < ends text k → Numeral text j
    run_all j h i = by (ltb j k) refl
      where
        by : (t : Bool) → ltb j k ≡ t → Numeral text j
        by true e = (back text k).all j (omega (arith, run_begins_lem, h)) (ltb-true _ _ e)
        by false e = ends_all j (ltb-false _ _ e) (omega (arith, run_ends_lem, i))

  module _ (not : Other text k) where
    byte_begins : begins text k ≡ k
    byte_begins = rw not

    byte_ends : ends text k ≡ suc k
    byte_ends = rw not

  holds_by : (t : Bool) → numeral (get_or text k 0) ≡ t → k < length text → (begins text k ≤ k) × (k < ends text k) × (ends text k ≤ length text)
  holds_by true e h = run_holds e h
  holds_by false e h = (omega (arith, byte_begins e), omega (arith, byte_ends e), omega (arith, byte_ends e, h))

  all_by : (t : Bool) → numeral (get_or text k 0) ≡ t → suc (begins text k) < ends text k → (j : ℕ) → begins text k ≤ j → j < ends text k → Numeral text j
  all_by true e more = run_all e
  all_by false e more = absurd (omega (arith, more, byte_begins e, byte_ends e))

pub piece_holds : PieceHolds
unfolding around
piece_holds station head k text e is =
    let l : length text ≡ length (holding station head k) = ap length is in
    let r = holds_by text k (numeral (get_or text k 0)) refl (omega (arith, l, inside station head k e)) in
    (ap (λ (d : Option ℕ). piece_at d station head) e ∙ ap (λ (t : List ℕ). around t k) (sym is), r.0, r.1, r.2)

pub only_numerals : OnlyNumerals
only_numerals text k j more = all_by text k (numeral (get_or text k 0)) refl more j

pub cannot_grow : CannotGrow
cannot_grow text k from to h i long all =
    let is = all k h i in (
      omega (arith, run_begins_lem text k is, no_earlier text k from to all i),
      omega (arith, run_ends_lem text k is, no_further text k k to (run_ends text k) (λ j m. all j (omega (arith, h, m))) (omega arith) (ends_not text k)),
    )

pub byte_alone : ByteAlone
unfolding around
byte_alone text k h not =
    let n : suc k - k ≡ 1 = omega arith in
    rw not (ap (λ (m : ℕ). take m (drop k text)) n ∙ ap (take 1) (drop-cons text k 0 h))
