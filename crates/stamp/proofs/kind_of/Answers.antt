-- `stamp::kind_of` meets its contract. This answer is written out so that a wrong kind is refused by its name.
use borrow.Author.Tests.{eq-eqb}
use mathlib.Core.Path.{sym, ◌∙◌}
use Rattle.stamp.specs.Layout.{kind_of}
use Rattle.stamp.proofs.kind_of.Goals as goal

pub returns-then-stamp-eq0 : goal.returns-then-stamp-eq0
unfolding kind_of
returns-then-stamp-eq0 c = rw (sym c.is_null.ensures ∙ c.if-is_null.false, eq-eqb _ _ c.if-stamp-eq0.true)
