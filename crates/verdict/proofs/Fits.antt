-- What is printed of a capture has room on its page, so that all of it stands there. Assumes nothing.
use mathlib.Core.Bool.{Bool, true, false}
use mathlib.Core.Path.{◌≡◌, refl, ap}
use mathlib.Core.List.{List, ◌++◌}
use Rattle.std.proofs.Common.{Some}
use Prim.Native.Nat.{ℕ, ◌*◌, ◌/◌, ◌%◌, ◌≤◌, ◌<◌}
use native.Mathlib.Omega.{arith}
use lib.Dec.{eqb, ltb}
use lib.ListN.{length, drop, length-append, length-drop, length-replicate}
use borrow.Author.Tests.{eqb-true, eqb-false, ltb-true, ltb-false}
use Rattle.text.specs.Ascii.{ascii}
use Rattle.text.specs.Digits.{decimal_in, decimal}
use Rattle.text.proofs.Decimals.{few_digits}
use Rattle.text.proofs.Room.{all_there}
use Rattle.states.specs.State.{reset_state, state_refusal}
use Rattle.fabric.specs.Run.{reset_machine}
use Rattle.records.proofs.Answered.{answers_length}
use Rattle.places.specs.Capture.{records, inputs_in}
use Rattle.capture.specs.Refusal.{limit, early_refusal, first_bad}
use Rattle.capture.specs.Replay.{answers}
use Rattle.capture.proofs.Fates.{no_number, refused_3, done}
use Rattle.listing.specs.Listing.{listing}
use Rattle.listing.specs.Refusal.{refusal_line}
use Rattle.listing.proofs.Sizes.{listing_size}
use Rattle.verdict.specs.Verdict.{outcome_text}
use Rattle.comparison.specs.Both.{zeros}
use Rattle.verdict.specs.Printed.{printed_by, PrintedFits, AllPrinted}
use Rattle.verdict.proofs.Whole.{printed_by_lem, bytes_left, too_many}

-- the answer buffer of a replay that is done is as long as the capture
module _ (capture : List ℕ) where
  abbrev buffer : List ℕ
  buffer = answers reset_machine capture ++ drop (5 * records capture) (zeros (length capture))

  buffer_length : length buffer ≡ length capture
  buffer_length =
      let a = length-append (answers reset_machine capture) (drop (5 * records capture) (zeros (length capture))) in
      let b = answers_length reset_machine (inputs_in capture) (records capture) in
      let c = length-drop (5 * records capture) (zeros (length capture)) in
      let d : length (zeros (length capture)) ≡ length capture = length-replicate (length capture) 0 in
      omega (arith, a, b, c, d)

-- a page has room for whatever is printed if it has room for what is said of answers, and for a refusal line
module _ (said : List ℕ → List ℕ) (page : ℕ) (line : 64 ≤ page) (room : (answers : List ℕ) → records answers ≤ limit → length (said answers) ≤ page) (capture : List ℕ) where
  module _ (whole : length capture % 5 ≡ 0) (few : records capture ≤ limit) where
    early : 0 ≡ early_refusal reset_state capture (length capture)
    unfolding state_refusal
    early = no_number reset_state capture (length capture) refl refl whole few (omega arith)

    -- the index is a record's
    bad_line : (k : ℕ) → k < records capture → length (refusal_line 3 (Some k)) ≤ page
    unfolding decimal_in
    bad_line k h =
        let d : length (decimal k) ≤ 5 = few_digits 4 k (omega (arith, h, few)) in omega (arith, d, line, length-append (decimal k) (ascii "\n"))

    by_bad : (b : Bool) → ltb (first_bad capture 0 (records capture)) (records capture) ≡ b → length (printed_by said capture) ≤ page
    unfolding outcome_text
    by_bad true e =
        let less : first_bad capture 0 (records capture) < records capture = ltb-true _ _ e in
        let p = printed_by_lem said capture (refused_3 reset_state capture (length capture) early refl refl less) in
        let l : length (printed_by said capture) ≡ length (refusal_line 3 (Some (first_bad capture 0 (records capture)))) = ap length p in
        omega (arith, l, bad_line (first_bad capture 0 (records capture)) less)
    by_bad false e =
        let p = printed_by_lem said capture (done reset_state capture (length capture) early refl refl (ltb-false _ _ e)) in
        let l : length (printed_by said capture) ≡ length (said (buffer capture)) = ap length p in
        let n : records (buffer capture) ≡ records capture = ap (λ (k : ℕ). k / 5) (buffer_length capture) in
        omega (arith, l, room (buffer capture) (omega (arith, n, few)))

  by_limit : (b : Bool) → ltb limit (records capture) ≡ b → length capture % 5 ≡ 0 → length (printed_by said capture) ≤ page
  unfolding decimal_in
  by_limit true e whole =
      let l : length (printed_by said capture) ≡ 10 = ap length (too_many said capture whole (ltb-true _ _ e)) in omega (arith, l, line)
  by_limit false e whole = by_bad whole (ltb-false _ _ e) (ltb (first_bad capture 0 (records capture)) (records capture)) refl

  by_rest : (b : Bool) → eqb (length capture % 5) 0 ≡ b → length (printed_by said capture) ≤ page
  unfolding decimal_in
  by_rest true e = by_limit (ltb limit (records capture)) refl (eqb-true _ _ e)
  by_rest false e =
      let l : length (printed_by said capture) ≡ 10 = ap length (bytes_left said capture (eqb-false _ _ e)) in omega (arith, l, line)

  pub fits : length (printed_by said capture) ≤ page
  fits = by_rest (eqb (length capture % 5) 0) refl

pub printed_fits : PrintedFits
printed_fits = fits listing 262144 (omega arith) (λ answers few. omega (arith, few, listing_size answers (omega (arith, few))))

pub all_printed : AllPrinted
all_printed capture bytes after n room w = all_there w (omega (arith, room, printed_fits capture))
