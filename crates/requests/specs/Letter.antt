-- One letter for each call.
use Rattle.std.specs.Prelude.{Bool, true, false, cond, ◌&&◌, ◌||◌, List, ℕ, eqb, ltb, leb, length}
use Prim.Native.Char.{code}
use Rattle.text.specs.Ascii.{ascii}
use Rattle.parts.specs.Parts.{word_at}
use Rattle.call_cycle.specs.Cycle.{cycle_line}
use Rattle.call_replay.specs.Replay.{replay_line}
use Rattle.call_replay.specs.State.{save_line, take_up_line}
use Rattle.call_gates.specs.Evaluate.{evaluate_line}
use Rattle.call_frames.specs.Calls.{asks_frame, write_line, read_line}
use Rattle.call_numerals.specs.Calls.{piece_line, shown_line}

-- a request that is well-formed asks for a buffer of more than 65,536 bytes
abbrev pub too_long : ℕ → List ℕ → Bool
too_long letter payload =
    ((eqb letter (code "R") || eqb letter (code "G")) && leb 29 (length payload) || eqb letter (code "S") && eqb (length payload) 29)
    && ltb 65536 (word_at payload 25)
    || (eqb letter (code "W") && asks_frame payload || eqb letter (code "K") && leb 8 (length payload) || eqb letter (code "H") && leb 5 (length payload)) && ltb 65536 (word_at payload 0)

-- the calls that came after the base
unfoldable pub later_line : ℕ → List ℕ → List ℕ
later_line letter payload =
    cond (eqb letter (code "W")) (write_line payload)
    (cond (eqb letter (code "K")) (read_line payload)
    (cond (eqb letter (code "N")) (piece_line payload)
    (cond (eqb letter (code "H")) (shown_line payload) (ascii "unknown\n"))))

unfoldable pub line_of : ℕ → List ℕ → List ℕ
line_of letter payload =
    cond (eqb letter (code "C")) (cycle_line payload false)
    (cond (eqb letter (code "D")) (cycle_line payload true)
    (cond (eqb letter (code "R")) (replay_line payload)
    (cond (eqb letter (code "G")) (replay_line payload)
    (cond (eqb letter (code "S")) (save_line payload)
    (cond (eqb letter (code "T")) (take_up_line payload)
    (cond (eqb letter (code "E")) (evaluate_line payload) (later_line letter payload)))))))
