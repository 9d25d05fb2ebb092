-- What the heads show of a frame. Assumes nothing.
use mathlib.Core.Bool.{true}
use mathlib.Core.Path.{◌≡◌, refl, sym, ap, ◌∙◌}
use mathlib.Core.List.{List, [], ◌∷◌}
use mathlib.Core.Logic.{◌↔◌}
use Prim.Native.Nat.{ℕ, suc, ◌+◌, ◌-◌, ◌*◌, ◌<◌, ◌≤◌}
use native.Mathlib.Omega.{arith}
use lib.ListN.{length, get_or}
use Rattle.routing.specs.Header.{asks, header_of}
use Rattle.routing.proofs.Fours.{at_four, not_both, yes_unless}
use Rattle.records.specs.Record.{byte_at}
use Rattle.runs.specs.Run.{Run, sent, head, headers_at}
use Rattle.runs.specs.Routing.{Asks, AskedFor, Wins}
use Rattle.runs.specs.Winning.{Winner}
use Rattle.runs.specs.Frame.{ActiveFrame, ActiveShows}
use Rattle.runs.proofs.Frames.{active_frames}
use Rattle.runs.proofs.Winning.{winning}
use Rattle.frames.specs.Listed.{listed, trimmed}
use Rattle.plans.specs.Plan.{Plan, cell_of, is_cell, header_in, body_in, th, te, sends}
use Rattle.frames.proofs.Lists.{listed_length, listed_as, trimmed_back, trimmed_less, only_zeros}
use Rattle.plans.proofs.Refusals.{Taken, taken}
use Rattle.frames.proofs.Writes.{sending}
use Rattle.delivery.proofs.Takings.{Good, good, no_bytes}
use Rattle.delivery.specs.Written.{has_cell, InPlace}
use Rattle.delivery.specs.Delivered.{frame_text, SendsText, WholeTexts, Delivers, FramesDeliver}
use Rattle.delivery.proofs.Writing.{row_at, written_frames}

module _ (r : Run) (ts first next o w : ℕ) (text : List ℕ) (f : ActiveFrame r ts first next) (is : o < 4) (wins : Wins r (first + 2) w o) (s : SendsText r first next w text) where
  abbrev shown : List ℕ
  shown = listed (λ t. head r t o) (first + 5) (next - first - 2)

  -- the byte that the head shows in cycle th+5+j is byte j of the text
  each : (j : ℕ) → j < next - first - 2 → head r (first + 5 + j) o ≡ byte_at text j
  each j h =
      let t = first + 5 + j in
      let place : t - 4 - (first + 1) ≡ j = omega arith in
      (active_frames r ts first next f).heads.winner's t o w is (omega arith) (omega (arith, h)) wins ∙ s.bytes (t - 4) (omega arith) (omega (arith, h)) ∙ ap (byte_at text) place

  whole : first + length text + 2 ≤ next → frame_text r o first next ≡ text
  whole h =
      ap trimmed (listed_as text (λ t. head r t o) (first + 5) (next - first - 2) (omega (arith, h)) each)
      ∙ trimmed_back text (next - first - 2 - length text) s.some_bytes s.last

  long_enough : frame_text r o first next ≡ text → first + length text + 2 ≤ next
  long_enough e =
      let n = listed_length (λ t. head r t o) (first + 5) (next - first - 2) in
      let less = trimmed_less shown in
      let same : length (trimmed shown) ≡ length text = ap length e in
      omega (arith, n, less, same, f.long)

pub whole_texts : WholeTexts
whole_texts r ts first next o w text f is wins s = (long_enough r ts first next o w text f is wins s, whole r ts first next o w text f is wins s)

-- behind the header stands the body
body_byte : (cell : List ℕ) (j : ℕ) → byte_at cell (suc j) ≡ byte_at (body_in cell) j
body_byte [] j = refl
body_byte (h ∷ b) j = refl

module _ (r : Run) (s : ℕ) (p : Plan) (i : InPlace r s p) (there : has_cell p ≡ true) where
  abbrev first : ℕ
  first = s + th p

  abbrev next : ℕ
  next = s + te p

  abbrev f : ActiveFrame r s first next
  f = (written_frames r s p i).active there

  abbrev shows : ActiveShows r s first next
  shows = active_frames r s first next f

  abbrev t : Taken p (5 * te p)
  t = taken p (5 * te p) i.writable

  -- from th on input j sends its cell
  sends_cell : (c j : ℕ) → j < 4 → first ≤ c → c < next → sent r c j ≡ byte_at (cell_of p j) (c - first)
  sends_cell c j is lo hi =
      let place : c - s - th p ≡ c - first = omega arith in
      ap (λ (l : List ℕ). get_or l j 0) (row_at r s p i.written c (c - s) (omega (arith, lo)) (omega (arith, lo, hi)))
      ∙ at_four (sends p (c - s)) 0 j is
      ∙ sym (sending (th p) (cell_of p j) (c - s) (omega (arith, lo)))
      ∙ ap (byte_at (cell_of p j)) place

  header_is : (j : ℕ) → j < 4 → header_of (headers_at r (first + 2)) j ≡ header_in (cell_of p j)
  header_is j is =
      let none : first - first ≡ 0 = omega arith in
      shows.routing.headers j ∙ sends_cell first j is (omega arith) (omega (arith, t.limits.cycles_some)) ∙ ap (byte_at (cell_of p j)) none

  asked : (j o : ℕ) → j < 4 → Asks r (first + 2) j o ↔ (asks o (header_in (cell_of p j)) ≡ true)
  asked j o is = (λ e. sym (ap (asks o) (header_is j is)) ∙ e, λ e. ap (asks o) (header_is j is) ∙ e)

  -- no cell asks for nothing
  is_cell_lem : (j o : ℕ) → asks o (header_in (cell_of p j)) ≡ true → is_cell (cell_of p j) ≡ true
  is_cell_lem j o e = yes_unless (λ gone. not_both e (ap (λ (c : List ℕ). asks o (header_in c)) (no_bytes (cell_of p j) gone)))

  module _ (w o : ℕ) (is : o < 4) (wins : Wins r (first + 2) w o) where
    abbrev won : Winner r (first + 2) w o
    won = (winning r).winner_is (first + 2) w o is wins

    asks_it : asks o (header_in (cell_of p w)) ≡ true
    asks_it = (asked w o won.is_input).0 won.highest_class.asks

    abbrev g : Good p (cell_of p w)
    g = good t w won.is_input (is_cell_lem w o asks_it)

    sends_body : SendsText r first next w (body_in (cell_of p w))
    sends_body = record {
      bytes = λ c lo hi.
          let place : c - first ≡ suc (c - (first + 1)) = omega (arith, lo) in
          sends_cell c w won.is_input (omega (arith, lo)) hi ∙ ap (byte_at (cell_of p w)) place ∙ body_byte (cell_of p w) (c - (first + 1));
      some_bytes = g.some_body;
      last = g.last;
    }

    text_is : frame_text r o first next ≡ body_in (cell_of p w)
    text_is = whole r s first next o w (body_in (cell_of p w)) f is wins sends_body (omega (arith, g.in_time))

  empty : (o : ℕ) → o < 4 → (AskedFor r (first + 2) o → ⊥) → frame_text r o first next ≡ []
  empty o is none =
      ap trimmed (listed_as [] (λ c. head r c o) (first + 5) (next - first - 2) (omega arith) (λ j h. shows.heads.unasked (first + 5 + j) o is (omega arith) (omega (arith, h)) none))
      ∙ only_zeros (next - first - 2 - 0)

  delivers : Delivers r s p
  delivers = record {
    asked = asked;
    winner_cell = λ w o is wins. (is_cell_lem w o (asks_it w o is wins), asks_it w o is wins);
    text = text_is;
    unasked = empty;
  }

pub frames_deliver : FramesDeliver
frames_deliver = delivers
