-- `packet::header_number` meets its contract: the code multiplies by the weights that the format gives its fields.
use Rattle.std.proofs.Common.{arith}
use Rattle.fields.specs.Formats.{pack}
use Rattle.packet.proofs.header_number.Goals as goal

pub returns : goal.returns
unfolding pack
returns c = omega arith
