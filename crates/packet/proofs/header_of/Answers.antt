-- `packet::header_of` meets its contract: the code divides by the weights that the format gives its fields.
use Rattle.std.proofs.Common.{div-one}
use Rattle.fields.specs.Formats.{unpack}
use Rattle.packet.specs.Read.{header_of}
use Rattle.packet.proofs.header_of.Goals as goal

pub returns : goal.returns
unfolding header_of unpack
returns c = rw (c.number_at-h.ensures, div-one)
