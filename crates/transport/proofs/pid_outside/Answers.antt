-- `transport::pid_outside` meets its contract: under the least, or over the greatest.
use Rattle.std.proofs.Common.{arith}
use Rattle.std.proofs.lemmas.Grind.{common_steps}
use Rattle.transport.specs.Tests.{pid_outside}
use Rattle.transport.proofs.pid_outside.Goals as goal

pub returns : goal.returns
unfolding pid_outside
returns c = let k = c.new.ensures in rw (c.contains.ensures.value, k.start, k.end, k.exhausted) (grind (arith, common_steps))
