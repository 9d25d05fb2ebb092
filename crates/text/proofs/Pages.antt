-- Text on a page, piece by piece: what the calls put there is one text in the end. Assumes nothing.
use mathlib.Core.Path.{◌≡◌, refl, sym, ap, ◌∙◌}
use mathlib.Core.List.{List, [], ◌∷◌, ◌++◌}
use Prim.Native.Nat.{ℕ, ◌+◌, ◌<◌, ◌≤◌}
use native.Mathlib.Numerals.{add-one}
use lib.ListN.{length, get_or, set, drop}
use lib.Seq.{drop-cons}
use borrow.Author.Tests.{lt-ltb, le-ltb}
use Rattle.text.specs.declared.page.Page.{Page as Sheet}
use Rattle.text.specs.Page.{Page, page, put, puts, Wrote, seen, Put}
use Rattle.text.specs.Digits.{hex, hexes}

pub put_there : (bytes : List ℕ) (place b : ℕ) → place < length bytes → Wrote (page bytes place) (b ∷ []) (page (set bytes place b) (place + 1))
unfolding put puts
put_there bytes place b h = record { left = rw (lt-ltb _ _ h, add-one place) }

pub put_full : (bytes : List ℕ) (place b : ℕ) → length bytes ≤ place → Wrote (page bytes place) (b ∷ []) (page bytes place)
unfolding put puts
put_full bytes place b h = record { left = rw (le-ltb _ _ h) }

puts_both : (p : Page) (s t : List ℕ) → puts (puts p s) t ≡ puts p (s ++ t)
unfolding puts
puts_both p [] t = refl
puts_both p (b ∷ s) t = puts_both (put p b) s t

-- one text, and another after it
pub both : {p q r : Page} {s t : List ℕ} → Wrote p s q → Wrote q t r → Wrote p (s ++ t) r
both {p = p} {s = s} {t = t} first next = record { left = next.left ∙ ap (λ (x : Page). puts x t) first.left ∙ puts_both p s t }

-- the same text, spelt otherwise
pub other_words : {p q : Page} {s t : List ℕ} → Wrote p s q → s ≡ t → Wrote p t q
other_words {p = p} w e = record { left = w.left ∙ ap (puts p) e }

-- the same of the code's pages
infixl 10 ◌then◌
pub ◌then◌ : {p q r : Sheet} {s t : List ℕ} → Put p s q → Put q t r → Put p (s ++ t) r
first then next = record { wrote = both first.wrote next.wrote; same = next.same ∙ first.same }

pub spelt : {p q : Sheet} {s t : List ℕ} → Put p s q → s ≡ t → Put p t q
spelt w e = record { wrote = other_words w.wrote e; same = w.same }

-- nothing to put
pub nothing : (p : Sheet) → Put p [] p
unfolding puts
nothing p = record { wrote = record { left = refl }; same = refl }

-- What a loop still has to put: `left` after the page q will be `all` after the page p.
pub record Ahead (p : Sheet) (all : List ℕ) (q : Sheet) (left : List ℕ) : Type 0 where
  pub same_text : puts (seen p) all ≡ puts (seen q) left
  pub same : q.bytes.ghost_name ≡ p.bytes.ghost_name

pub begun : {p : Sheet} {all left : List ℕ} → all ≡ left → Ahead p all p left
begun {p = p} e = record { same_text = ap (puts (seen p)) e; same = refl }

pub went_on : {p q r : Sheet} {all left part rest : List ℕ} → Ahead p all q left → left ≡ part ++ rest → Put q part r → Ahead p all r rest
went_on {q = q} {part = part} {rest = rest} a cut w = record {
  same_text = a.same_text ∙ ap (puts (seen q)) cut ∙ sym (puts_both (seen q) part rest) ∙ ap (λ (x : Page). puts x rest) (sym w.wrote.left);
  same = w.same ∙ a.same;
}

pub ended : {p q : Sheet} {all left : List ℕ} → Ahead p all q left → left ≡ [] → Put p all q
unfolding puts
ended {q = q} a e = record { wrote = record { left = sym (a.same_text ∙ ap (puts (seen q)) e) }; same = a.same }

-- The same of any page, the code's or not.
pub nothing_any_page : (p : Page) → Wrote p [] p
unfolding puts
nothing_any_page p = record { left = refl }

pub record AheadAnyPage (p : Page) (all : List ℕ) (q : Page) (left : List ℕ) : Type 0 where
  pub same : puts p all ≡ puts q left

pub begun_any_page : {p : Page} {all left : List ℕ} → all ≡ left → AheadAnyPage p all p left
begun_any_page {p = p} e = record { same = ap (puts p) e }

pub went_on_any_page : {p q r : Page} {all left part rest : List ℕ} → AheadAnyPage p all q left → left ≡ part ++ rest → Wrote q part r → AheadAnyPage p all r rest
went_on_any_page {q = q} {part = part} {rest = rest} a cut w =
    record { same = a.same ∙ ap (puts q) cut ∙ sym (puts_both q part rest) ∙ ap (λ (x : Page). puts x rest) (sym w.left) }

pub ended_any_page : {p q : Page} {all left : List ℕ} → AheadAnyPage p all q left → left ≡ [] → Wrote p all q
unfolding puts
ended_any_page {q = q} a e = record { left = sym (a.same ∙ ap (puts q) e) }

pub next_byte : (text : List ℕ) (i : ℕ) → i < length text → drop i text ≡ (get_or text i 0 ∷ []) ++ drop (i + 1) text
next_byte text i h = drop-cons text i 0 h ∙ ap (λ (j : ℕ). get_or text i 0 ∷ drop j text) (sym (add-one i))

pub next_pair : (bytes : List ℕ) (i : ℕ) → i < length bytes → hexes (drop i bytes) ≡ hex (get_or bytes i 0) ++ hexes (drop (i + 1) bytes)
unfolding hexes
next_pair bytes i h = ap hexes (next_byte bytes i h)
