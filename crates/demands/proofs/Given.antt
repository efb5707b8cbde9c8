-- Every operation's list gives each of its numbers exactly where 01 says: all that it takes is that no number in it is 0.
-- Assumes nothing.
use Rattle.refusals.proofs.CheckLaws.{given-exactly}
use Rattle.packet.specs.Read as packet
use Rattle.packet.specs.Write as packet_writing
use Rattle.stamp.specs.Read as stamp
use Rattle.stamp.specs.Write as stamp_writing
use Rattle.functions.specs.Read as function
use Rattle.functions.specs.Write as function_writing
use Rattle.addressing.specs.Data.{group_checks, function_checks}
use Rattle.addressing.specs.Payload as addressing
use Rattle.addressing.specs.Walk.{walk_checks}
use Rattle.mip.specs.Read as mip
use Rattle.mip.specs.Write as mip_writing
use Rattle.mip.specs.Timing.{emission_checks, extra_checks}
use Rattle.transport.specs.Tests.{transport_checks}
use Rattle.carry.specs.Carry as carrying
use Rattle.gather.specs.State.{gather_checks}
use Rattle.demands.specs.Given.{Given}

pub given : Given
unfolding gather_checks transport_checks carrying.carry_checks packet.read_checks packet_writing.write_checks stamp.read_checks stamp_writing.write_checks function.read_checks function_writing.write_checks group_checks function_checks addressing.payload_checks addressing.write_checks walk_checks mip.read_checks mip_writing.write_checks emission_checks extra_checks
given =
    record {
      starting = λ pid. given-exactly _ tt;
      gathering = λ s t room space. given-exactly _ tt;
      carrying = λ pid count batch room. given-exactly _ tt;
      packet_read = λ s. given-exactly _ tt;
      packet_write = λ h payload room. given-exactly _ tt;
      stamp_read = λ payload. given-exactly _ tt;
      stamp_write = λ s room. given-exactly _ tt;
      function_read = λ tag body. given-exactly _ tt;
      function_write = λ f carried room. given-exactly _ tt;
      group = λ l. given-exactly _ tt;
      functions = λ own l. given-exactly _ tt;
      addressing_read = λ own payload. given-exactly _ tt;
      addressing_write = λ own d room. given-exactly _ tt;
      walk = λ own d tx place. given-exactly _ tt;
      mip_read = λ p. given-exactly _ tt;
      mip_write = λ m d room. given-exactly _ tt;
      emission = λ stamp delay offset. given-exactly _ tt;
      extra_delay = λ stamp delay offset reception. given-exactly _ tt;
    }
