-- One input, one answer. Every contract of a public call settles the result and each lent buffer at exit: each of them, or what a definition tells of
-- it, equals what a definition gives for the arguments. Two answers that such a contract allows are equal, or are told alike; that what is told of a
-- refusal settles it is a law of the crate that tells it.
use Rattle.std.specs.Prelude.{◌≡◌}

abbrev pub OneAnswer : Type 1
OneAnswer = (A : Type 0) (settled one other : A) → one ≡ settled → other ≡ settled → one ≡ other
