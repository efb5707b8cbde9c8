-- The fault of what is left of the batch is the fault of all of it.
use Rattle.std.proofs.Common.{◌≡◌}
use Rattle.packet.specs.Cut.{coming, batch_fault}
use Rattle.packet.proofs.BatchLaws.{fault_in}
use Rattle.packet.proofs.check_batch.Given as goal

abbrev pub invariant-loop-packet : goal.invariant-loop-packet
invariant-loop-packet l = fault_in (coming l.packet-iterator) ≡ batch_fault l.batch
