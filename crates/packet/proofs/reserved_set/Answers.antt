-- `packet::reserved_set` meets its contract: the nine bits stand above the last nineteen.
use Rattle.fields.specs.Formats.{unpack}
use Rattle.packet.proofs.reserved_set.Goals as goal

pub returns : goal.returns
unfolding unpack
returns c = rw c.number_at-h.ensures
