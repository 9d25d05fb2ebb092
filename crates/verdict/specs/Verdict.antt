-- What is said of both engines' replays: something of the answers, or the refusal line; where the two differ, where they do.
use Rattle.std.specs.Prelude.{Bool, cond, List, ◌++◌, Option, Some, None, ℕ, eqb}
use Rattle.text.specs.Ascii.{ascii}
use Rattle.text.specs.Digits.{decimal}
use Rattle.input.specs.declared.streams.Stream.{Stream}
use Rattle.input.specs.declared.streams.Stream.TheVariants.{Output, Error}
use Rattle.listing.specs.Listing.{listing}
use Rattle.listing.specs.Refusal.{refusal_line}
use Rattle.comparison.specs.Both.{Both, index_given}

-- of a replay that is done what `said` makes of its answers, otherwise the refusal line
unfoldable pub outcome_text : (List ℕ → List ℕ) → ℕ → ℕ → List ℕ → List ℕ
outcome_text said number index answers = cond (eqb number 0) (said answers) (refusal_line number (index_given number index))

abbrev pub differ_text : ℕ → List ℕ
differ_text k = ascii "engines differ at " ++ decimal k ++ ascii "\n"

abbrev pub unless_differ : Option ℕ → List ℕ → List ℕ
unless_differ None text = text
unless_differ (Some k) text = differ_text k

abbrev pub verdict_of : (List ℕ → List ℕ) → Both → List ℕ → List ℕ
verdict_of said b answers = unless_differ b.difference (outcome_text said b.number b.index answers)

-- the program replay lists the answers
abbrev pub verdict_text : Both → List ℕ → List ℕ
verdict_text = verdict_of listing

-- where a program puts the text: on standard output, or where the engines differ on standard error, so that nothing stands on standard output
abbrev pub stream_of : Bool → Stream
stream_of agreed = cond agreed Output Error
