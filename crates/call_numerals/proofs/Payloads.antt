-- Two texts, or a head's bytes, asked for by a payload. Assumes nothing.
use mathlib.Core.Path.{◌≡◌, ap, ◌∙◌}
use mathlib.Core.List.{List}
use Prim.Native.Nat.{ℕ, ◌+◌, ◌-◌, ◌<◌, ◌≤◌}
use native.Mathlib.Omega.{arith}
use lib.ListN.{length, take, drop}
use borrow.Author.Tests.{lt-ltb, le-ltb}
use Rattle.text.specs.Page.{Page, page, puts, Wrote}
use Rattle.text.proofs.Lists.{part_all}
use Rattle.routing.proofs.Equal.{two}
use Rattle.records.specs.Record.{byte_at}
use Rattle.parts.specs.Parts.{word_at, buffer_text, malformed}
use Rattle.heads.specs.Shown.{head_text}
use Rattle.call_numerals.specs.Calls.{piece_text, piece_line, shown_text}

module _ (payload : List ℕ) where
  module _ {n : ℕ} (is : n ≡ word_at payload 0) where
    pub texts_missing : length payload < 4 + n → malformed ≡ piece_line payload
    unfolding piece_line
    texts_missing h = rw (lt-ltb (length payload) (4 + word_at payload 0) (omega (arith, h, is)))

    pub texts_there : 4 + n ≤ length payload → piece_text (take (4 + n - 4) (drop 4 payload)) (take (length payload - (4 + n)) (drop (4 + n) payload)) ≡ piece_line payload
    unfolding piece_line
    texts_there h =
        let count : 4 + n - 4 ≡ word_at payload 0 = omega (arith, is) in
        two piece_text (ap (λ (k : ℕ). take k (drop 4 payload)) count) (part_all (4 + n) payload ∙ ap (λ (k : ℕ). drop (4 + k) payload) is)
        ∙ rw (le-ltb (length payload) (4 + word_at payload 0) (omega (arith, h, is)))

  pub shown : {buffer after : List ℕ} {n h : ℕ} → h ≡ byte_at payload 4 → Wrote (page buffer 0) (head_text (take (length payload - 5) (drop 5 payload)) h) (page after n)
      → buffer_text n after ≡ shown_text payload buffer
  shown {buffer = buffer} e w =
      ap (λ (q : Page). buffer_text q.place q.bytes) (w.left ∙ ap (puts (page buffer 0)) (two head_text (part_all 5 payload) e))
