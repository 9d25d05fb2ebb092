-- A reply, by how far a request could be read. Assumes nothing.
use mathlib.Core.Bool.{true, false}
use mathlib.Core.Path.{◌≡◌, sym}
use mathlib.Core.List.{List, []}
use Prim.Native.Nat.{ℕ, ◌<◌, ◌≤◌}
use lib.ListN.{length}
use borrow.Author.Tests.{eq-eqb, ne_eqb, lt-ltb, le-ltb}
use Rattle.text.specs.Ascii.{ascii}
use Rattle.parts.specs.Parts.{word_at}
use Rattle.records.specs.Record.{byte_at}
use Rattle.requests.specs.Letter.{too_long, line_of}
use Rattle.requests.specs.Reply.{lastly, answered, reply_of}

module _ (header payload : List ℕ) where
  pub no_header : length header ≡ 0 → lastly [] ≡ reply_of header payload
  unfolding reply_of
  no_header h = rw (eq-eqb _ _ h)

  module _ (some : ¬ (length header ≡ 0)) where
    pub header_cut : length header < 5 → lastly (ascii "cut short\n") ≡ reply_of header payload
    unfolding reply_of
    header_cut h = rw (ne_eqb _ _ some, lt-ltb _ _ h)

    module _ (whole : 5 ≤ length header) {n : ℕ} (is : n ≡ word_at header 1) where
      pub too_much : 65536 < n → lastly (ascii "too long\n") ≡ reply_of header payload
      unfolding reply_of
      too_much h = rw (ne_eqb _ _ some, le-ltb _ _ whole, sym is, lt-ltb _ _ h)

      module _ (most : n ≤ 65536) where
        pub payload_cut : length payload < n → lastly (ascii "cut short\n") ≡ reply_of header payload
        unfolding reply_of
        payload_cut h = rw (ne_eqb _ _ some, le-ltb _ _ whole, sym is, le-ltb _ _ most, lt-ltb _ _ h)

        pub all_read : n ≤ length payload → answered (byte_at header 0) payload ≡ reply_of header payload
        unfolding reply_of
        all_read h = rw (ne_eqb _ _ some, le-ltb _ _ whole, sym is, le-ltb _ _ most, le-ltb _ _ h)

-- and of one that is read whole: a buffer that is too long, or the line of its call
pub buffer_too_long : (letter : ℕ) (payload : List ℕ) → too_long letter payload ≡ true → lastly (ascii "too long\n") ≡ answered letter payload
buffer_too_long letter payload h = rw h

pub line_given : (letter : ℕ) (payload : List ℕ) → too_long letter payload ≡ false → record { text = line_of letter payload; last = false } ≡ answered letter payload
line_given letter payload h = rw h
