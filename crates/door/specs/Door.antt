-- A door: what each of the 18 C functions of include/sfn.h does, as a total function on C's values. `ours` is made of the very
-- definitions that the contracts of our C functions cite; the demands are stated of any door.
use Rattle.std.specs.Prelude.{ℕ, List, ℤ, length}
use Rattle.refusals.specs.Answers.{Wrote}
use Rattle.crc.specs.Crc.{crc_of}
use Rattle.packet.specs.Read as packet
use Rattle.packet.specs.Write as packet_writing
use Rattle.stamp.specs.Read as stamp
use Rattle.stamp.specs.Write as stamp_writing
use Rattle.functions.specs.Read as function
use Rattle.addressing.specs.Data.{house}
use Rattle.addressing.specs.Payload as addressing
use Rattle.addressing.specs.Walk.{walk_of}
use Rattle.mip.specs.Read as mip
use Rattle.mip.specs.Timing.{steps, emission_of, extra_of}
use Rattle.carry.specs.Carry as carrying
use Rattle.gather.specs.State.{start_of}
use Rattle.sfn.specs.Answers.{packet_of, length_held, stamp_of, stamp_from, function_of}
use Rattle.sfn.specs.Making.{made_of, function_written}
use Rattle.sfn.specs.Site.{addressing_of, walked_of, mip_flat, mip_written, time_of}
use Rattle.sfn.specs.Reader.{started_of, SfnOutcome, gathered_by}
use Rattle.sfn.specs.declared.SfnPacket.{SfnPacket}
use Rattle.sfn.specs.declared.SfnStamp.{SfnStamp}
use Rattle.sfn.specs.declared.SfnFunction.{SfnFunction}
use Rattle.sfn.specs.declared.site.SfnAddressing.{SfnAddressing}
use Rattle.sfn.specs.declared.site.SfnWalked.{SfnWalked}
use Rattle.sfn.specs.declared.site.SfnMip.{SfnMip}
use Rattle.sfn.specs.declared.site.SfnTime.{SfnTime}
use Rattle.sfn.specs.declared.reader.SfnReader.{SfnReader}
use Rattle.sfn.specs.declared.reader.SfnStarted.{SfnStarted}

-- The arguments stand in C's order. A pointer with its length is a list of bytes. A function that writes takes the lent output
-- as it was, and gives it as it then is, beside the struct that C gets
pub record Door : Type 0 where
  pub crc : List ℕ → ℕ
  -- T2-MI packets. Writing takes type, count, frame, stream, bits and the payload
  pub packet_length : List ℕ → ℕ
  pub packet_read : List ℕ → SfnPacket
  pub packet_write : ℕ → ℕ → ℕ → ℕ → ℕ → List ℕ → List ℕ → Wrote
  -- carriage: PID, first count and batch; PID; state, transport packet, gathering buffer
  pub carry : ℕ → ℕ → List ℕ → List ℕ → carrying.Outcome
  pub start : ℕ → SfnStarted
  pub gather : SfnReader → List ℕ → List ℕ → List ℕ → SfnOutcome
  -- timestamp payloads: bw, seconds, subseconds and utco
  pub stamp_read : List ℕ → SfnStamp
  pub stamp_write : ℕ → ℕ → ℕ → ℕ → List ℕ → Wrote
  -- addressing payloads, and the walk of data for a transmitter from a place
  pub addressing_read : List ℕ → SfnAddressing
  pub addressing_write : List ℕ → List ℕ → Wrote
  pub walk : List ℕ → ℕ → ℕ → SfnWalked
  -- function bodies: tag and body; kind, tag, value, wait, reserved and the bytes
  pub function_read : ℕ → List ℕ → SfnFunction
  pub function_write : ℕ → ℕ → ℤ → ℕ → ℕ → List ℕ → List ℕ → Wrote
  -- MIPs: count, pointer, periodic, future, stamp, delay, tps and the addressing data
  pub mip_read : List ℕ → SfnMip
  pub mip_write : ℕ → ℕ → ℕ → ℕ → ℕ → ℕ → ℕ → List ℕ → List ℕ → Wrote
  -- site timing: stamp, delay and offset; and the reception time
  pub emission : ℕ → ℕ → ℤ → SfnTime
  pub extra_delay : ℕ → ℕ → ℤ → ℕ → SfnTime

abbrev pub ours : Door
ours =
    record {
      crc = crc_of;
      packet_length = length_held;
      packet_read = λ s. packet_of (packet.read_of s);
      packet_write = λ kind count frame stream bits. packet_writing.write_of (record { kind = kind; count = count; frame = frame; stream = stream; bits = bits });
      carry = carrying.carry_of;
      start = λ pid. started_of (start_of pid);
      gather = gathered_by;
      stamp_read = λ payload. stamp_of (stamp.read_of payload);
      stamp_write = λ bw seconds subseconds utco. stamp_writing.write_of (stamp_from bw seconds subseconds utco);
      addressing_read = λ payload. addressing_of (addressing.payload_of house payload);
      addressing_write = addressing.write_of house;
      walk = λ d tx place. walked_of (walk_of house d tx place);
      function_read = λ tag body. let r = function.function_read tag body in function_of r.refusal r.function;
      function_write = λ kind tag value wait reserved bytes. function_written (made_of kind tag value wait reserved (length bytes)) bytes;
      mip_read = λ p. mip_flat (mip.read_of p);
      mip_write = mip_written;
      emission = λ stamp delay offset. time_of (emission_of (steps stamp) (steps delay) offset);
      extra_delay = λ stamp delay offset reception. time_of (extra_of (steps stamp) (steps delay) offset (steps reception));
    }
