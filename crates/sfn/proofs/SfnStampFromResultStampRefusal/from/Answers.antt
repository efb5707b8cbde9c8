-- A refused reading of a stamp is laid out flat: the refusal's number and zeros.
use borrow.Author.Rules.{rules}
use borrow.Author.Tests.{ne_eqb}
use Rattle.refusals.proofs.NumberLaws.{number-not-0}
use Rattle.sfn.specs.Answers.{kind_read}
use Rattle.sfn.proofs.SfnStampFromResultStampRefusal.from.Goals as goal

pub returns-in-Err : goal.returns-in-Err
unfolding kind_read
returns-in-Err c = rw (c.in-Err.is, ne_eqb _ 0 (number-not-0 c.in-Err.e), c.number.ensures) (search rules)
