-- A library: what each operation of 01 does, as functions on lists and numbers. `ours` is made of the very definitions that
-- the contracts of our functions cite; the demands are stated of any library.
use Rattle.std.specs.Prelude.{◌≡◌, ℕ, ◌<◌, List, ℤ}
use Rattle.refusals.specs.Answers.{Wrote}
use Rattle.crc.specs.Crc.{crc_of}
use Rattle.packet.specs.Layout.{count_after}
use Rattle.packet.specs.Read as packet
use Rattle.packet.specs.Write as packet_writing
use Rattle.packet.specs.declared.Header.{Header}
use Rattle.packet.specs.Read.{Packet}
use Rattle.stamp.specs.Layout as stamp
use Rattle.stamp.specs.Read as stamp_reading
use Rattle.stamp.specs.Write as stamp_writing
use Rattle.stamp.specs.declared.Stamp.{Stamp}
use Rattle.stamp.specs.Read.{StampRead}
use Rattle.stamp.specs.declared.Kind.{Kind}
use Rattle.functions.specs.Read as function
use Rattle.functions.specs.Write as function_writing
use Rattle.functions.specs.declared.Function.{Function}
use Rattle.functions.specs.Read.{FunctionRead}
use Rattle.addressing.specs.Data.{house}
use Rattle.addressing.specs.Payload as addressing
use Rattle.addressing.specs.Walk.{walk_of, Walked}
use Rattle.addressing.specs.Payload.{PayloadRead}
use Rattle.mip.specs.Read as mip
use Rattle.mip.specs.Write as mip_writing
use Rattle.mip.specs.Timing.{emission_of, extra_of, Time}
use Rattle.mip.specs.declared.Mip.{Mip}
use Rattle.mip.specs.Read.{MipRead}
use Rattle.mip.specs.declared.Steps.{Steps}
use Rattle.carry.specs.Carry as carrying
use Rattle.gather.specs.State.{start_of}
use Rattle.gather.specs.Gather as gathering
use Rattle.gather.specs.declared.Reader.{Reader}
use Rattle.gather.specs.State.{Started}

-- an operation that writes takes the lent output as it was, and gives it as it then is
pub record Library : Type 0 where
  -- the CRC
  pub crc : List ℕ → ℕ
  -- T2-MI packets: reading a slice, its payload, writing fields and payload, and the packet count after a packet count
  pub packet_read : List ℕ → Packet
  pub packet_payload : List ℕ → List ℕ
  pub packet_write : Header → List ℕ → List ℕ → Wrote
  pub next_count : ℕ → ℕ
  -- timestamp payloads: reading, writing, the kind of a stamp, and the units per microsecond of a bandwidth code
  pub stamp_read : List ℕ → StampRead
  pub stamp_write : Stamp → List ℕ → Wrote
  pub stamp_kind : Stamp → Kind
  pub units : ℕ → ℕ
  -- function bodies: reading a tag and a body, writing a function and the bytes that it carries
  pub function_read : ℕ → List ℕ → FunctionRead
  pub function_write : Function → List ℕ → List ℕ → Wrote
  -- addressing payloads: reading, the data, writing data; and the walk of data for a transmitter, from a place
  pub addressing_read : List ℕ → PayloadRead
  pub addressing_data : List ℕ → List ℕ
  pub addressing_write : List ℕ → List ℕ → Wrote
  pub walk : List ℕ → ℕ → ℕ → Walked
  -- MIPs: reading, the addressing data, writing fields and addressing data
  pub mip_read : List ℕ → MipRead
  pub mip_addressing : List ℕ → List ℕ
  pub mip_write : Mip → List ℕ → List ℕ → Wrote
  -- site timing: of stamp, maximum delay and offset; and of these and the reception time
  pub emission : Steps → Steps → ℤ → Time
  pub extra_delay : Steps → Steps → ℤ → Steps → Time
  -- carriage: the batch writer (PID, first count, batch, output), a fresh reader of a PID, and gathering (state, transport
  -- packet, gathering buffer, output)
  pub carry : ℕ → ℕ → List ℕ → List ℕ → carrying.Outcome
  pub start : ℕ → Started
  pub gather : Reader → List ℕ → List ℕ → List ℕ → gathering.Outcome

abbrev pub ours : Library
ours =
    record {
      crc = crc_of;
      packet_read = packet.read_of;
      packet_payload = packet.payload_read;
      packet_write = packet_writing.write_of;
      next_count = count_after;
      stamp_read = stamp_reading.read_of;
      stamp_write = stamp_writing.write_of;
      stamp_kind = stamp.kind_of;
      units = stamp.units_of;
      function_read = function.function_read;
      function_write = function_writing.write_of;
      addressing_read = addressing.payload_of house;
      addressing_data = addressing.data_read house;
      addressing_write = addressing.write_of house;
      walk = walk_of house;
      mip_read = mip.read_of;
      mip_addressing = mip.addressing_read;
      mip_write = mip_writing.write_of;
      emission = emission_of;
      extra_delay = extra_of;
      carry = carrying.carry_of;
      start = start_of;
      gather = gathering.gather_of;
    }

-- two libraries that answer every input alike, and leave the same in lent memory; a packet count is a byte
pub record Alike (a b : Library) : Type 0 where
  pub crc : (l : List ℕ) → a.crc l ≡ b.crc l
  pub packet_read : (s : List ℕ) → a.packet_read s ≡ b.packet_read s
  pub packet_payload : (s : List ℕ) → a.packet_payload s ≡ b.packet_payload s
  pub packet_write : (h : Header) (payload out : List ℕ) → a.packet_write h payload out ≡ b.packet_write h payload out
  pub next_count : (n : ℕ) → n < 256 → a.next_count n ≡ b.next_count n
  pub stamp_read : (payload : List ℕ) → a.stamp_read payload ≡ b.stamp_read payload
  pub stamp_write : (s : Stamp) (out : List ℕ) → a.stamp_write s out ≡ b.stamp_write s out
  pub stamp_kind : (s : Stamp) → a.stamp_kind s ≡ b.stamp_kind s
  pub units : (bw : ℕ) → a.units bw ≡ b.units bw
  pub function_read : (tag : ℕ) (body : List ℕ) → a.function_read tag body ≡ b.function_read tag body
  pub function_write : (f : Function) (carried out : List ℕ) → a.function_write f carried out ≡ b.function_write f carried out
  pub addressing_read : (p : List ℕ) → a.addressing_read p ≡ b.addressing_read p
  pub addressing_data : (p : List ℕ) → a.addressing_data p ≡ b.addressing_data p
  pub addressing_write : (d out : List ℕ) → a.addressing_write d out ≡ b.addressing_write d out
  pub walk : (d : List ℕ) (tx place : ℕ) → a.walk d tx place ≡ b.walk d tx place
  pub mip_read : (p : List ℕ) → a.mip_read p ≡ b.mip_read p
  pub mip_addressing : (p : List ℕ) → a.mip_addressing p ≡ b.mip_addressing p
  pub mip_write : (m : Mip) (d out : List ℕ) → a.mip_write m d out ≡ b.mip_write m d out
  pub emission : (stamp delay : Steps) (offset : ℤ) → a.emission stamp delay offset ≡ b.emission stamp delay offset
  pub extra_delay : (stamp delay : Steps) (offset : ℤ) (reception : Steps) → a.extra_delay stamp delay offset reception ≡ b.extra_delay stamp delay offset reception
  pub carry : (pid count : ℕ) (batch out : List ℕ) → a.carry pid count batch out ≡ b.carry pid count batch out
  pub start : (pid : ℕ) → a.start pid ≡ b.start pid
  pub gather : (s : Reader) (t g o : List ℕ) → a.gather s t g o ≡ b.gather s t g o
