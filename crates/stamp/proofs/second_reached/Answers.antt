-- `stamp::second_reached` meets its contract. This answer is written out so that a wrong bound is refused by its values.
use borrow.Author.Tests.{lt-leb}
use Rattle.stamp.specs.Layout.{second_of, second_reached}
use Rattle.stamp.proofs.second_reached.Goals as goal

pub returns-else-units-stamp : goal.returns-else-units-stamp
unfolding second_reached
returns-else-units-stamp c =
    let s = c.args.stamp in
    rw (c.units.ensures, lt-leb (second_of s.bw) s.subseconds.0 (rw c.units.ensures at c.if-units-stamp.false))
