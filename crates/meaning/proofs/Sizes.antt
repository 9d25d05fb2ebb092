-- How many bytes four texts take: at most 1,024. So they are found in the start of a long input as in all of it. Assumes nothing.
use mathlib.Core.Bool.{false}
use mathlib.Core.Path.{◌≡◌, refl, sym, ap, ◌∙◌}
use mathlib.Core.List.{List, [], ◌∷◌}
use Prim.Native.Nat.{ℕ, zero, suc, ◌+◌, ◌-◌, ◌*◌, ◌<◌, ◌≤◌}
use native.Mathlib.Omega.{arith}
use lib.ListN.{length, take, drop, length-drop, length-take}
use lib.Seq.{get_or-take, get_or-drop, drop-drop, take-nil}
use borrow.Author.Tests.{lt-leb}
use Rattle.routing.proofs.Fours.{none_of}
use Rattle.records.specs.Record.{byte_at, Bytes}
use Rattle.due.specs.Texts.{behind_text, behind, text_due, capture_in, cut, ends_inside}

-- the bytes that the first h texts take
unfoldable pub sizes : List ℕ → ℕ → ℕ
sizes bytes zero = 0
sizes bytes (suc h) = byte_at bytes 0 + 1 + sizes (behind_text bytes) h

pub passed_by : (h : ℕ) (bytes : List ℕ) → behind bytes h ≡ drop (sizes bytes h) bytes
unfolding behind sizes
passed_by zero bytes = refl
passed_by (suc h) bytes = passed_by h (behind_text bytes) ∙ drop-drop (sizes (behind_text bytes) h) (byte_at bytes 0 + 1) bytes

bytes_behind : (bytes : List ℕ) → Bytes bytes → Bytes (behind_text bytes)
bytes_behind bytes b k = omega (arith, get_or-drop (byte_at bytes 0 + 1) bytes k 0, b (byte_at bytes 0 + 1 + k))

pub few_bytes : (h : ℕ) (bytes : List ℕ) → Bytes bytes → sizes bytes h ≤ 256 * h
unfolding sizes
few_bytes zero bytes b = omega arith
few_bytes (suc h) bytes b = omega (arith, b 0, few_bytes h (behind_text bytes) (bytes_behind bytes b))

byte_behind : (h : ℕ) (bytes : List ℕ) → Bytes bytes → byte_at (behind bytes h) 0 < 256
byte_behind h bytes b = omega (arith, ap (λ (l : List ℕ). byte_at l 0) (passed_by h bytes), get_or-drop (sizes bytes h) bytes 0 0, b (sizes bytes h + 0))

-- all four texts are whole where there are 1,024 bytes
module _ (bytes : List ℕ) (b : Bytes bytes) (long : 1024 ≤ length bytes) where
  whole : (h : ℕ) → h < 4 → cut bytes h ≡ false
  whole h less =
      let here : length (behind bytes h) ≡ length bytes - sizes bytes h = ap length (passed_by h bytes) ∙ length-drop (sizes bytes h) bytes in
      lt-leb (length (behind bytes h)) (byte_at (behind bytes h) 0) (omega (arith, less, long, here, byte_behind h bytes b, few_bytes h bytes b))

  pub texts_whole : ends_inside bytes ≡ false
  texts_whole = none_of (cut bytes) whole

pub capture_length : (bytes : List ℕ) → length (capture_in bytes) ≡ length bytes - sizes bytes 4
capture_length bytes = ap length (passed_by 4 bytes) ∙ length-drop (sizes bytes 4) bytes

drop_of_take : (n m : ℕ) (bytes : List ℕ) → drop m (take n bytes) ≡ take (n - m) (drop m bytes)
drop_of_take n zero bytes =
    let all : n ≡ n - 0 = omega arith in ap (λ (k : ℕ). take k bytes) all
drop_of_take zero (suc m) bytes =
    let none : 0 ≡ 0 - suc m = omega arith in ap (λ (k : ℕ). take k (drop (suc m) bytes)) none
drop_of_take (suc n) (suc m) [] = sym (take-nil (suc n - suc m))
drop_of_take (suc n) (suc m) (x ∷ bytes) =
    let one : n - m ≡ suc n - suc m = omega arith in drop_of_take n m bytes ∙ ap (λ (k : ℕ). take k (drop m bytes)) one

-- the start of bytes has the same texts
pub same_sizes : (h n : ℕ) (bytes : List ℕ) → Bytes bytes → 256 * h ≤ n → sizes (take n bytes) h ≡ sizes bytes h
unfolding sizes
same_sizes zero n bytes b few = refl
same_sizes (suc h) n bytes b few =
    let first : byte_at (take n bytes) 0 ≡ byte_at bytes 0 = get_or-take n bytes 0 0 (omega (arith, few)) in
    let rest : behind_text (take n bytes) ≡ take (n - (byte_at bytes 0 + 1)) (behind_text bytes) =
    ap (λ (k : ℕ). drop (k + 1) (take n bytes)) first ∙ drop_of_take n (byte_at bytes 0 + 1) bytes in
    let after : sizes (behind_text (take n bytes)) h ≡ sizes (behind_text bytes) h =
    ap (λ (l : List ℕ). sizes l h) rest ∙ same_sizes h (n - (byte_at bytes 0 + 1)) (behind_text bytes) (bytes_behind bytes b) (omega (arith, few, b 0)) in
    omega (arith, first, after)

-- taking bytes from the start leaves bytes
pub bytes_start : (n : ℕ) (bytes : List ℕ) → Bytes bytes → Bytes (take n bytes)
bytes_start zero bytes b k = omega arith
bytes_start (suc n) [] b k = omega arith
bytes_start (suc n) (x ∷ bytes) b zero = b 0
bytes_start (suc n) (x ∷ bytes) b (suc k) = bytes_start n bytes (λ j. b (suc j)) k

pub short_text : (h : ℕ) (bytes : List ℕ) → Bytes bytes → length (text_due bytes h) < 256
short_text h bytes b =
    let rest = behind bytes h in
    let byte : byte_at rest 0 < 256 = byte_behind h bytes b in
    omega (arith, byte, length-take (byte_at rest 0) (drop 1 rest))
