-- What is said of an input, call by call. Assumes nothing.
use Rattle.std.proofs.Common.{◌≡◌, ℕ, zero, suc, ◌+◌, ◌-◌, ◌≤◌, true, false, List, [], ◌++◌, length, take, Option, Some, None, Ok, Err, refl, sym, ap, ◌∙◌, arith}
use native.Mathlib.Numerals.{add-one}
use lib.ListN.{length-replicate}
use Rattle.text.specs.declared.page.Page.{Page}
use Rattle.text.specs.Page.{Blank, Put, Wrote, seen, page}
use Rattle.text.proofs.Pages.{◌then◌, spelt}
use Rattle.text.proofs.Room.{onto, all_there}
use Rattle.routing.proofs.Equal.{two}
use Rattle.states.specs.declared.refusal.Refusal.{Refusal}
use Rattle.states.specs.Refusal.{number_in}
use Rattle.states.proofs.Refusals.{never_0}
use Rattle.places.specs.Capture.{records}
use Rattle.listing.specs.Listing.{listing}
use Rattle.listing.specs.Refusal.{refusal_line}
use Rattle.comparison.specs.declared.both.Both.{Both}
use Rattle.comparison.specs.Both.{zeros, kept, told, place_in}
use Rattle.verdict.specs.Verdict.{outcome_text, unless_differ, verdict_of, verdict_text}
use Rattle.verdict.specs.Printed.{printed_by}
use Rattle.verdict.proofs.Verdicts.{done_text, refused_text_lem}
use Rattle.heads.specs.Shown.{head_text}
use Rattle.heads.proofs.Shows.{at_most}
use Rattle.due.specs.Texts.{capture_in, ends_inside}
use Rattle.readings.specs.Lines.{line_of, four_lines}
use Rattle.readings.specs.declared.refusal.Refusal as Short
use Rattle.readings.specs.declared.refusal.Refusal.TheVariants.{CutShort}
use Rattle.readings.specs.ReadBack.{number_of, capture_kept, read_with}

-- what stands for the capture, by how many bytes the texts take and how many are left
pub captured : (bytes rest : List ℕ) (total size n : ℕ) → rest ≡ capture_in bytes → size ≡ length bytes - length rest → n ≡ total - size → kept rest n ≡ capture_kept bytes total
captured bytes rest total size n er es en = two kept er (en ∙ ap (λ (s : ℕ). total - s) (es ∙ ap (λ (l : List ℕ). length bytes - length l) er))

-- a head's bytes have room in the space that is lent for them
pub collected : (answers : List ℕ) (h : ℕ) {p q : Page} → records answers ≤ 12289 → Blank (zeros 12289) p → Put p (head_text answers h) q
    → take q.place q.bytes.now ≡ head_text answers h
collected answers h few blank w =
    let room : length (zeros 12289) ≡ 12289 = length-replicate {A = ℕ} 12289 0 in (all_there (onto blank w) (omega (arith, few, room, at_most answers h))).1

-- the same of any page, the code's or not, and how many bytes these are
pub collected_any_page : (answers : List ℕ) (h : ℕ) {space after : List ℕ} {n : ℕ} → records answers ≤ 12289 → 12289 ≡ length space → Wrote (page space 0) (head_text answers h) (page after n)
    → (n ≡ length (head_text answers h)) × (take n after ≡ head_text answers h)
collected_any_page answers h few room w = all_there w (omega (arith, few, room, at_most answers h))

-- the lines of the first heads
unfoldable pub first_lines : List ℕ → List ℕ → ℕ → List ℕ
first_lines input answers zero = []
first_lines input answers (suc h) = first_lines input answers h ++ line_of input answers h

pub one_more : (input answers : List ℕ) (h : ℕ) {p q r : Page} → Put p (first_lines input answers h) q → Put q (line_of input answers h) r → Put p (first_lines input answers (h + 1)) r
unfolding first_lines
one_more input answers h first next = spelt (first then next) (ap (first_lines input answers) (sym (add-one h)))

pub all_four : (input answers : List ℕ) → first_lines input answers 4 ≡ four_lines input answers
unfolding first_lines four_lines
all_four input answers = refl

-- done and the same: the lines; otherwise what the program replay would say
module _ (said : List ℕ → List ℕ) (b : Both) (answers : List ℕ) where
  pub lines_said : b.outcome ≡ Ok tt → b.difference ≡ None → said answers ≡ verdict_of said (told b) answers
  lines_said done same =
      done_text said (number_in b.outcome) (place_in b.outcome) answers (ap number_in done)
      ∙ ap (λ (d : Option ℕ). unless_differ d (outcome_text said (number_in b.outcome) (place_in b.outcome) answers)) (sym same)

  pub differ_said : {k : ℕ} → b.difference ≡ Some k → verdict_text (told b) answers ≡ verdict_of said (told b) answers
  differ_said e =
      ap (λ (d : Option ℕ). unless_differ d (outcome_text listing (number_in b.outcome) (place_in b.outcome) answers)) e
      ∙ sym (ap (λ (d : Option ℕ). unless_differ d (outcome_text said (number_in b.outcome) (place_in b.outcome) answers)) e)

  pub refused_said : {why : Refusal} → b.outcome ≡ Err why → verdict_text (told b) answers ≡ verdict_of said (told b) answers
  refused_said {why = why} e =
      let no : number_in b.outcome ≡ 0 → ⊥ = λ z. never_0 why (sym (ap number_in e) ∙ z) in
      ap (unless_differ b.difference) (sym (refused_text_lem listing _ _ answers no) ∙ refused_text_lem said _ _ answers no)

pub always_25 : (why : Short.Refusal) → number_of why ≡ 25
always_25 CutShort = refl

module _ (input capture : List ℕ) where
  pub cut_short : ends_inside input ≡ true → refusal_line 25 None ≡ read_with input capture
  unfolding read_with
  cut_short e = rw e

  pub cut_short_by : {n : ℕ} → n ≡ 25 → ends_inside input ≡ true → refusal_line n None ≡ read_with input capture
  cut_short_by en e = ap (λ (k : ℕ). refusal_line k None) en ∙ cut_short e

  pub not_cut_short : ends_inside input ≡ false → printed_by (four_lines input) capture ≡ read_with input capture
  unfolding read_with
  not_cut_short e = rw e
