use native.Mathlib.Omega.{arith}
use Rattle.routing.proofs.Flags.{bit_is}
use Rattle.saved.specs.Saved.{word_of}
use Rattle.saved.proofs.saving.word.Goals as goal

pub returns : goal.returns
unfolding word_of
returns c = simp (c.from.ensures, c.from-2.ensures, c.from-3.ensures, c.from-4.ensures, c.from-5.ensures, c.from-6.ensures, c.from-7.ensures, c.from-8.ensures, c.from-9.ensures, bit_is)
