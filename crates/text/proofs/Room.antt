-- What a page holds: a text that has room stands there whole, and nothing else has changed. Assumes nothing.
use mathlib.Core.Bool.{Bool, true, false}
use mathlib.Core.Path.{◌≡◌, refl, sym, ap, subst, ◌∙◌}
use mathlib.Core.List.{List, [], ◌∷◌, ◌++◌, append-nil}
use Prim.Native.Nat.{ℕ, suc, ◌+◌, ◌<◌, ◌≤◌}
use native.Mathlib.Omega.{arith}
use native.Mathlib.Numerals.{add-one}
use lib.Dec.{ltb}
use lib.ListN.{length, take, drop, set, length-set, take-append-drop}
use lib.Seq.{take-suc-set, drop-set-lt, append_snoc, take-append_seam, length-take-le}
use borrow.Author.Tests.{ltb-true}
use Rattle.text.specs.declared.page.Page.{Page as Sheet}
use Rattle.text.specs.Page.{Page, page, put, puts, Wrote, Blank, Put}
use Rattle.text.proofs.Pages.{put_there}

-- a text put onto a page of the code on which nothing stood
pub onto : {bytes text : List ℕ} {p q : Sheet} → Blank bytes p → Put p text q → Wrote (page bytes 0) text (page q.bytes.now q.place)
onto {text = text} blank w = rw (blank.bytes_are, blank.at_start) at w.wrote

-- a place on the page stays on the page
put_within : (p : Page) (b : ℕ) (t : Bool) → ltb p.place (length p.bytes) ≡ t → p.place ≤ length p.bytes → (put p b).place ≤ length (put p b).bytes
unfolding put
put_within p b true e h =
    let less : p.place < length p.bytes = ltb-true _ _ e in rw (e, length-set p.bytes p.place b) (omega (arith, less))
put_within p b false e h = rw e h

puts_within : (p : Page) (text : List ℕ) → p.place ≤ length p.bytes → (puts p text).place ≤ length (puts p text).bytes
unfolding puts
puts_within p [] h = h
puts_within p (b ∷ text) h = puts_within (put p b) text (put_within p b (ltb p.place (length p.bytes)) refl h)

pub within : {bytes after text : List ℕ} {next : ℕ} → Wrote (page bytes 0) text (page after next) → next ≤ length after
within {bytes = bytes} {text = text} w =
    let start : 0 ≤ length bytes = omega arith in subst (λ (q : Page). q.place ≤ length q.bytes) (sym w.left) (puts_within (page bytes 0) text start)

-- so many bytes are there to be read from the page's start
pub counted : {bytes after text : List ℕ} {next : ℕ} → Wrote (page bytes 0) text (page after next) → next ≡ length (take next after)
counted {after = after} {next = next} w = sym (length-take-le next after (within w))

-- a text that has room: the bytes before it and after it stay, and the place moves by its length
has_room : (bytes : List ℕ) (place : ℕ) (text : List ℕ) → place + length text ≤ length bytes
    → puts (page bytes place) text ≡ page (take place bytes ++ text ++ drop (place + length text) bytes) (place + length text)
unfolding puts put
has_room bytes place [] h =
    let none : place ≡ place + 0 = omega arith in
    let all : bytes ≡ take place bytes ++ [] ++ drop (place + 0) bytes =
    sym (ap (λ (l : List ℕ). l ++ drop (place + 0) bytes) (append-nil (take place bytes)) ∙ ap (λ (k : ℕ). take place bytes ++ drop k bytes) (sym none) ∙ take-append-drop place bytes) in
    ap (λ (l : List ℕ). page l place) all ∙ ap (page (take place bytes ++ [] ++ drop (place + 0) bytes)) none
has_room bytes place (b ∷ text) h =
    let l = set bytes place b in
    let here : place < length bytes = omega (arith, h) in
    let n = place + 1 + length text in
    let next : n ≡ place + suc (length text) = omega arith in
    let room : n ≤ length l = omega (arith, h, length-set bytes place b) in
    let front : take (place + 1) l ++ text ≡ take place bytes ++ (b ∷ text) =
    ap (λ (k : ℕ). take k l ++ text) (add-one place) ∙ ap (λ (f : List ℕ). f ++ text) (take-suc-set bytes place b here) ∙ append_snoc (take place bytes) b text in
    let back : drop n l ≡ drop (place + suc (length text)) bytes = drop-set-lt n bytes place b (omega arith) ∙ ap (λ (k : ℕ). drop k bytes) next in
    ap (λ (q : Page). puts q text) (sym (put_there bytes place b here).left)
    ∙ has_room l (place + 1) text room
    ∙ ap (λ (f : List ℕ). page (f ++ drop n l) n) front
    ∙ ap (λ (d : List ℕ). page (take place bytes ++ (b ∷ text) ++ d) n) back
    ∙ ap (page (take place bytes ++ (b ∷ text) ++ drop (place + suc (length text)) bytes)) next

-- a text that has room on a page from its start on is what stands there
pub all_there : {bytes after text : List ℕ} {next : ℕ} → Wrote (page bytes 0) text (page after next) → length text ≤ length bytes → (next ≡ length text) × (take next after ≡ text)
all_there {bytes = bytes} {text = text} w h =
    let n : 0 + length text ≡ length text = omega arith in
    let e = w.left ∙ has_room bytes 0 text (omega (arith, h)) ∙ ap (page (text ++ drop (0 + length text) bytes)) n in
    (ap (λ (q : Page). q.place) e, ap (λ (q : Page). take q.place q.bytes) e ∙ take-append_seam text (drop (0 + length text) bytes))

-- and behind it stands what stood there before
pub stands : (bytes text : List ℕ) → length text ≤ length bytes → Wrote (page bytes 0) text (page (text ++ drop (length text) bytes) (length text))
stands bytes text h =
    let n : 0 + length text ≡ length text = omega arith in
    record { left = sym (has_room bytes 0 text (omega (arith, h)) ∙ ap (λ (k : ℕ). page (text ++ drop k bytes) k) n) }

pub behind_it : {bytes after text : List ℕ} {next : ℕ} → Wrote (page bytes 0) text (page after next) → length text ≤ length bytes → after ≡ text ++ drop (length text) bytes
behind_it {bytes = bytes} {text = text} w h = ap (λ (q : Page). q.bytes) (w.left ∙ sym (stands bytes text h).left)
