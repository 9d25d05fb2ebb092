-- A page: lent bytes, and the place where the next byte goes. Text is put onto it byte by byte.
use Rattle.std.specs.Prelude.{cond, ◌≡◌, List, [], ◌∷◌, ℕ, suc, ltb, length, set}
use Rattle.text.specs.declared.page.Page.{Page as Sheet}

pub record Page : Type 0 where
  pub bytes : List ℕ
  pub place : ℕ

abbrev pub page : List ℕ → ℕ → Page
page bytes place = record { bytes = bytes; place = place }

-- one byte at the place, which moves on; a full page stays as it is
unfoldable pub put : Page → ℕ → Page
put p b = cond (ltb p.place (length p.bytes)) (page (set p.bytes p.place b) (suc p.place)) p

unfoldable pub puts : Page → List ℕ → Page
puts p [] = p
puts p (b ∷ text) = puts (put p b) text

-- what a call leaves that puts a text onto page p: page q
pub record Wrote (p : Page) (text : List ℕ) (q : Page) : Type 0 where
  pub left : q ≡ puts p text

-- ---- the same of the code's pages

abbrev pub seen : Sheet → Page
seen s = page s.bytes.now s.place

-- a page over these bytes on which nothing stands
pub record Blank (bytes : List ℕ) (s : Sheet) : Type 0 where
  pub bytes_are : s.bytes.now ≡ bytes
  pub at_start : s.place ≡ 0

-- A call puts a text onto page s and leaves page t, which is over the same lent bytes.
pub record Put (s : Sheet) (text : List ℕ) (t : Sheet) : Type 0 where
  pub wrote : Wrote (seen s) text (seen t)
  pub same : t.bytes.ghost_name ≡ s.bytes.ghost_name
