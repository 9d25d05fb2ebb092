-- The measure is the number: its tenth is less where it has more than one digit.
use Rattle.text.proofs.page.Page.+put_decimal.Given as goal

abbrev pub decreases-put_decimal : goal.decreases-put_decimal
decreases-put_decimal l = l.n
