use Rattle.words.proofs.Bits.{no_bit_64}
use borrow.Author.Rules.{rules}
use Rattle.words.proofs.word.net.Goals as goal

pub returns-else-n-lt64 : goal.returns-else-n-lt64
returns-else-n-lt64 c = no_bit_64 c.args.v c.args.n (search rules) c.if-n-lt64.false
