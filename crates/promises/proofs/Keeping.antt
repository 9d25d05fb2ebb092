-- Saving and taking up, both ways. The state word's fields are read off by linear arithmetic one way, and put together digit by digit the
-- other. Assumes nothing.
use mathlib.Core.Bool.{Bool, true, false}
use mathlib.Core.Path.{◌≡◌, refl, sym, ap, ◌∙◌}
use mathlib.Core.List.{List, [], ◌∷◌}
use Prim.Native.Nat.{ℕ, ◌+◌, ◌*◌, ◌/◌, ◌%◌, ◌<◌, ◌≤◌}
use native.Mathlib.Nat.{div-add-mod', div-div-eq-div-mul, div-eq_of_lt}
use native.Mathlib.Omega.{arith}
use lib.Dec.{eqb}
use lib.ListN.{length, get_or, take, drop}
use lib.Seq.{take_at}
use Rattle.states.specs.declared.state.State.{State}
use Rattle.routing.specs.Four.{bit}
use Rattle.routing.specs.Port.{input}
use Rattle.states.specs.State.{shut_at, holder_at, Held, first_row, second_row, switch_row, head_row, state_refusal}
use Rattle.fabric.specs.Cycle.{Machine, machine}
use Rattle.states.proofs.Calls.{answered}
use Rattle.states.proofs.Equal.{state_of}
use Rattle.routing.proofs.Equal.{row_of}
use Rattle.routing.proofs.Masks.{bit_digit, bit_le}
use Rattle.states.proofs.States.{held}
use Rattle.saved.specs.Saved.{TakenUp, word_of, saved_of, save_refusal, save_writes, word_in, state_in, take_up_refusal, taken_up, take_up_of}
use Rattle.saved.proofs.Keeps.{save_done, written_as_lem, number_7_8, take_up_done, save_refusal_of}
use Rattle.records.proofs.Places.{spelt}
use Rattle.promises.specs.Kept.{FourOfEach, taken_up_as, machine_in, SavedTakenUp, TakenUpSaved}

bit_back : (b : Bool) → eqb (bit b) 1 ≡ b
bit_back true = refl
bit_back false = refl

-- ---- the fields of a word that was put together

module _ (w s3 s2 s1 s0 h3 h2 h1 h0 : ℕ) (pw : w ≤ 1) (p3 : s3 ≤ 1) (p2 : s2 ≤ 1) (p1 : s1 ≤ 1) (p0 : s0 ≤ 1) (q3 : h3 < 4) (q2 : h2 < 4) (q1 : h1 < 4) (q0 : h0 < 4) where
  abbrev packed : ℕ
  packed = 32768 * w + 16384 * s3 + 8192 * s2 + 4096 * s1 + 2048 * s0 + 512 * h3 + 128 * h2 + 32 * h1 + 8 * h0

  record Fields : Type 0 where
    at_w : packed / 32768 % 2 ≡ w
    at_s3 : packed / 16384 % 2 ≡ s3
    at_s2 : packed / 8192 % 2 ≡ s2
    at_s1 : packed / 4096 % 2 ≡ s1
    at_s0 : packed / 2048 % 2 ≡ s0
    at_h3 : packed / 512 % 4 ≡ h3
    at_h2 : packed / 128 % 4 ≡ h2
    at_h1 : packed / 32 % 4 ≡ h1
    at_h0 : packed / 8 % 4 ≡ h0
    low : packed % 8 ≡ 0

  fields : Fields
  fields = record {
    at_w = omega arith;
    at_s3 = omega arith;
    at_s2 = omega arith;
    at_s1 = omega arith;
    at_s0 = omega arith;
    at_h3 = omega arith;
    at_h2 = omega arith;
    at_h1 = omega arith;
    at_h0 = omega arith;
    low = omega arith;
  }

module _ (s : State) (h : Held s) where
  of_state : Fields (bit s.waiting) (bit (shut_at s 3)) (bit (shut_at s 2)) (bit (shut_at s 1)) (bit (shut_at s 0)) (holder_at s 3) (holder_at s 2) (holder_at s 1) (holder_at s 0)
      (bit_le s.waiting) (bit_le (shut_at s 3)) (bit_le (shut_at s 2)) (bit_le (shut_at s 1)) (bit_le (shut_at s 0)) h.held3 h.held2 h.held1 h.held0
  of_state = fields _ _ _ _ _ _ _ _ _ _ _ _ _ _ _ _ _ _

  one_bit : {x : ℕ} (b : Bool) → x ≡ bit b → eqb x 1 ≡ b
  one_bit b e = ap (λ (n : ℕ). eqb n 1) e ∙ bit_back b

  state_back : length s.shut ≡ 4 → length s.holders ≡ 4 → state_in (word_of s) ≡ s
  unfolding word_of state_in
  state_back ls lh =
      state_of (one_bit s.waiting of_state.at_w)
      (row_of (one_bit (shut_at s 0) of_state.at_s0) (one_bit (shut_at s 1) of_state.at_s1) (one_bit (shut_at s 2) of_state.at_s2) (one_bit (shut_at s 3) of_state.at_s3)
      ∙ spelt false 4 s.shut ls)
      (row_of (ap input of_state.at_h0) (ap input of_state.at_h1) (ap input of_state.at_h2) (ap input of_state.at_h3) ∙ spelt (input 0) 4 s.holders lh)

  word_low : word_of s % 8 ≡ 0
  unfolding word_of
  word_low = of_state.low

abbrev taken : State → List ℕ → List ℕ → List ℕ → List ℕ → TakenUp
taken s a b c d = record { number = 0; machine = machine s (a ∷ b ∷ c ∷ d ∷ []) }

taken_of : {s s' : State} {a a' b b' c c' d d' : List ℕ} → s ≡ s' → a ≡ a' → b ≡ b' → c ≡ c' → d ≡ d' → taken s a b c d ≡ taken s' a' b' c' d'
taken_of p q r t u = cc

-- the bytes of a machine, taken up
pub saved_taken : (m : Machine) → FourOfEach m → state_refusal m.state ≡ 0 → take_up_of (saved_of m) ≡ taken_up_as m
saved_taken m f ok =
    let h = held m.state ok in
    let w : word_in (saved_of m) ≡ word_of m.state = omega arith in
    let back : state_in (word_in (saved_of m)) ≡ m.state = ap state_in w ∙ state_back m.state h f.flags f.holders in
    let n : take_up_refusal (saved_of m) ≡ 0 =
    sym (number_7_8 (saved_of m) refl (sym w) (word_low m.state h)) ∙ ap state_refusal (state_back m.state h f.flags f.holders) ∙ ok in
    sym (answered refl (taken_up (saved_of m)) _ n)
    ∙ taken_of back (spelt 0 4 (first_row m.rows) f.first) (spelt 0 4 (second_row m.rows) f.second) (spelt 0 4 (switch_row m.rows) f.switched) (spelt 0 4 (head_row m.rows) f.heads)

-- the first 18 bytes that saving writes
first_18 : (m : Machine) (buffer : List ℕ) → save_refusal m.state (length buffer) ≡ 0 → take 18 (save_writes m buffer) ≡ saved_of m
first_18 m buffer e = ap (take 18) (written_as_lem m buffer e) ∙ take_at (saved_of m) (drop 18 buffer) 18 refl

pub saved_taken_up : SavedTakenUp
saved_taken_up m buffer f e =
    ap take_up_of (first_18 m buffer e) ∙ saved_taken m f (save_done m.state (length buffer) e).0

-- ---- a word put together again from its fields

digit : (w m k : ℕ) → w / m ≡ w / (m * k) * k + w / m % k
digit w m k = sym (div-add-mod' (w / m) k) ∙ ap (λ (q : ℕ). q * k + w / m % k) (div-div-eq-div-mul w m k)

-- nine digits above three zero bits
regroup : (w a b c d e f g h i : ℕ) → w ≡ a * 8 → a ≡ b * 4 + a % 4 → b ≡ c * 4 + b % 4 → c ≡ d * 4 + c % 4 → d ≡ e * 4 + d % 4
    → e ≡ f * 2 + e % 2 → f ≡ g * 2 + f % 2 → g ≡ h * 2 + g % 2 → h ≡ i * 2 + h % 2 → i ≡ i % 2
    → 32768 * (i % 2) + 16384 * (h % 2) + 8192 * (g % 2) + 4096 * (f % 2) + 2048 * (e % 2) + 512 * (d % 4) + 128 * (c % 4) + 32 * (b % 4) + 8 * (a % 4) ≡ w
regroup w a b c d e f g h i p0 p1 p2 p3 p4 p5 p6 p7 p8 p9 =
    plain w a b c d e f g h i (a % 4) (b % 4) (c % 4) (d % 4) (e % 2) (f % 2) (g % 2) (h % 2) (i % 2) p0 p1 p2 p3 p4 p5 p6 p7 p8 p9
  where
    plain : (w a b c d e f g h i a' b' c' d' e' f' g' h' i' : ℕ) → w ≡ a * 8 → a ≡ b * 4 + a' → b ≡ c * 4 + b' → c ≡ d * 4 + c' → d ≡ e * 4 + d'
        → e ≡ f * 2 + e' → f ≡ g * 2 + f' → g ≡ h * 2 + g' → h ≡ i * 2 + h' → i ≡ i'
        → 32768 * i' + 16384 * h' + 8192 * g' + 4096 * f' + 2048 * e' + 512 * d' + 128 * c' + 32 * b' + 8 * a' ≡ w
    plain w a b c d e f g h i a' b' c' d' e' f' g' h' i' p0 p1 p2 p3 p4 p5 p6 p7 p8 p9 = omega arith

word_back : (w : ℕ) → w < 65536 → w % 8 ≡ 0 → word_of (state_in w) ≡ w
unfolding word_of state_in
word_back w small low =
    let top : w / 32768 ≡ w / 32768 % 2 = digit w 32768 2 ∙ ap (λ (q : ℕ). q * 2 + w / 32768 % 2) (div-eq_of_lt small) ∙ omega arith in
    rw (bit_digit (w / 32768), bit_digit (w / 16384), bit_digit (w / 8192), bit_digit (w / 4096), bit_digit (w / 2048))
    (regroup w (w / 8) (w / 32) (w / 128) (w / 512) (w / 2048) (w / 4096) (w / 8192) (w / 16384) (w / 32768) (omega arith)
    (digit w 8 4) (digit w 32 4) (digit w 128 4) (digit w 512 4) (digit w 2048 2) (digit w 4096 2) (digit w 8192 2) (digit w 16384 2) top)

pub taken_up_saved : TakenUpSaved
taken_up_saved saved buffer bytes ok room =
    let d = take_up_done saved ok in
    let w = word_in saved in
    let high = bytes 0 in
    let low = bytes 1 in
    let small : w < 65536 = omega arith in
    let t : take_up_of saved ≡ taken_up saved = sym (answered refl (taken_up saved) _ ok) in
    let m = machine_in (taken_up saved) in
    let n : save_refusal m.state (length buffer) ≡ 0 = save_refusal_of m.state (length buffer) d.2 room in
    let hi : w / 256 ≡ get_or saved 0 0 = omega arith in
    let lo : w % 256 ≡ get_or saved 1 0 = omega arith in
    let same : word_of m.state ≡ w = word_back w small d.1 in
    ap (λ (x : TakenUp). take 18 (save_writes (machine_in x) buffer)) t
    ∙ first_18 m buffer n
    ∙ rw (same, hi, lo)
    (spelt 0 18 saved d.0)
