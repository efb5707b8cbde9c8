-- For the wrong libraries: small inputs of which no check of 01 holds, and libraries that are ours but for one operation.
-- Assumes nothing.
use mathlib.Core.Path.{◌≡◌, refl}
use mathlib.Core.Bool.{Bool, true, ◌&&◌}
use mathlib.Core.List.{List, [], ◌∷◌, ◌++◌}
use Prim.Native.Nat.{ℕ, zero, suc}
use lib.Dec.{ltb, lit<}
use lib.ListN.{length, replicate}
use borrow.Author.Tests.{ltb-true}
use Rattle.crc.specs.Crc.{shift, bit_at, feed, run, crc_of, crc_holds}
use Rattle.fields.specs.Formats.{pack, unpack}
use Rattle.fields.specs.Numbers.{Bytes, number, bytes}
use Rattle.fields.specs.Parts.{part, number_at}
use Rattle.fields.proofs.Cases.{and_left, and_right}
use Rattle.refusals.specs.Checks.{first}
use Rattle.refusals.specs.Answers.{Wrote}
use Rattle.packet.specs.Layout.{reserved_type, pad_set, size_of}
use Rattle.packet.specs.Read as packet
use Rattle.packet.specs.declared.Header.{Header}
use Rattle.packet.specs.Read.{Packet}
use Rattle.functions.specs.Tags.{body_long, body_wrong, bandwidth_reserved}
use Rattle.functions.specs.Read as function
use Rattle.functions.specs.declared.Function.{Function}
use Rattle.functions.specs.Read.{FunctionRead}
use Rattle.addressing.specs.Data.{entries_by, entries_in, fault_in, fault_of}
use Rattle.addressing.specs.Payload.{PayloadRead}
use Rattle.addressing.specs.Walk.{Walked}
use Rattle.mip.specs.Layout as mip_layout
use Rattle.mip.specs.Read as mip
use Rattle.mip.specs.Read.{MipRead}
use Rattle.transport.specs.Header.{header_field, payload_at}
use Rattle.transport.specs.Load.{plain, start, head_bytes, transport_of}
use Rattle.transport.specs.Tests.{pid_outside, field_long, pointer_beyond, transport_checks}
use Rattle.carry.specs.Carry as carrying
use Rattle.gather.specs.State.{fresh, unfit, gather_checks}
use Rattle.gather.specs.Gather as gathering
use Rattle.gather.specs.declared.Reader.{Reader}
use Rattle.demands.specs.Library.{Library, ours}

-- ---- two good packets of type 0x00 with no payload, of counts 5 and 6

abbrev pub five : List ℕ
five = 0x00 ∷ 5 ∷ 0 ∷ 0 ∷ 0 ∷ 0 ∷ 0x53 ∷ 0x83 ∷ 0x58 ∷ 0x7C ∷ []

abbrev pub six : List ℕ
six = 0x00 ∷ 6 ∷ 0 ∷ 0 ∷ 0 ∷ 0 ∷ 0x88 ∷ 0x94 ∷ 0xF0 ∷ 0xEB ∷ []

pub good-five : first (packet.read_checks five) ≡ 0
unfolding packet.read_checks size_of crc_holds crc_of run feed bit_at shift reserved_type pad_set packet.payload_of part number_at number pack unpack
good-five = refl

pub good-six : first (packet.read_checks six) ≡ 0
unfolding packet.read_checks size_of crc_holds crc_of run feed bit_at shift reserved_type pad_set packet.payload_of part number_at number pack unpack
good-six = refl

-- ---- a MIP of zeros with no addressing data, and a time offset of −1

abbrev pub zeros-mip : List ℕ
zeros-mip = 0x47 ∷ 0x60 ∷ 0x15 ∷ 0x10 ∷ 0 ∷ 19 ∷ (replicate 15 0 ++ (0x5B ∷ 0x53 ∷ 0xCE ∷ 0x34 ∷ replicate 163 0xFF))

pub good-mip : first (mip.read_checks zeros-mip) ≡ 0
unfolding mip.read_checks mip.addressing_of mip_layout.parameters_of header_field fault_of fault_in entries_in entries_by part number pack unpack crc_holds crc_of run feed bit_at shift
good-mip = refl

pub good-time : first (function.read_checks 0 (0xFF ∷ 0xFF ∷ [])) ≡ 0
unfolding function.read_checks body_long body_wrong bandwidth_reserved
good-time = refl

-- ---- transport packets: one that carries the first packet, and one of zeros with no start; and buffers of 01's sizes

abbrev pub carrier : List ℕ
carrier = transport_of 0x1000 0 (start 0 five)

abbrev pub startless : List ℕ
startless = transport_of 0x1000 0 (plain (replicate 184 0))

abbrev pub buffer : List ℕ
buffer = replicate 8202 0

abbrev pub space : List ℕ
space = replicate 8385 9

pub good-carrier : first (gather_checks (fresh 0x1000) carrier (length buffer) (length space)) ≡ 0
unfolding gather_checks unfit pid_outside transport_checks field_long pointer_beyond header_field payload_at transport_of head_bytes number bytes pack unpack
good-carrier = refl

pub good-startless : first (gather_checks (fresh 0x1000) startless (length buffer) (length space)) ≡ 0
unfolding gather_checks unfit pid_outside transport_checks field_long pointer_beyond header_field payload_at transport_of head_bytes number bytes pack unpack
good-startless = refl

-- the elements of a list are bytes, by computing
abbrev pub below : List ℕ → Bool
below [] = true
below (x ∷ l) = ltb x 256 && below l

pub bytes-by : (l : List ℕ) → below l ≡ true → Bytes l
bytes-by [] h i = lit< tt
bytes-by (x ∷ l) h zero = ltb-true x 256 (and_left (ltb x 256) (below l) h)
bytes-by (x ∷ l) h (suc i) = bytes-by l (and_right (ltb x 256) (below l) h) i

-- ---- ours with one operation changed

abbrev changed : (List ℕ → Packet)
    → (Header → List ℕ → List ℕ → Wrote)
    → (ℕ → List ℕ → FunctionRead)
    → (Function → List ℕ → List ℕ → Wrote)
    → (List ℕ → PayloadRead)
    → (List ℕ → ℕ → ℕ → Walked)
    → (List ℕ → MipRead)
    → (ℕ → ℕ → List ℕ → List ℕ → carrying.Outcome)
    → (Reader → List ℕ → List ℕ → List ℕ → gathering.Outcome)
    → Library
changed packet_read packet_write function_read function_write addressing_read walk mip_read carry gather =
    record {
      crc = ours.crc;
      packet_read = packet_read;
      packet_payload = ours.packet_payload;
      packet_write = packet_write;
      next_count = ours.next_count;
      stamp_read = ours.stamp_read;
      stamp_write = ours.stamp_write;
      stamp_kind = ours.stamp_kind;
      units = ours.units;
      function_read = function_read;
      function_write = function_write;
      addressing_read = addressing_read;
      addressing_data = ours.addressing_data;
      addressing_write = ours.addressing_write;
      walk = walk;
      mip_read = mip_read;
      mip_addressing = ours.mip_addressing;
      mip_write = ours.mip_write;
      emission = ours.emission;
      extra_delay = ours.extra_delay;
      carry = carry;
      start = ours.start;
      gather = gather;
    }

abbrev pub reading : (List ℕ → Packet) → Library
reading f =
    changed f ours.packet_write ours.function_read ours.function_write ours.addressing_read ours.walk ours.mip_read ours.carry ours.gather

abbrev pub writing : (Header → List ℕ → List ℕ → Wrote) → Library
writing f =
    changed ours.packet_read f ours.function_read ours.function_write ours.addressing_read ours.walk ours.mip_read ours.carry ours.gather

abbrev pub telling : (ℕ → List ℕ → FunctionRead) → Library
telling f =
    changed ours.packet_read ours.packet_write f ours.function_write ours.addressing_read ours.walk ours.mip_read ours.carry ours.gather

abbrev pub bodied : (Function → List ℕ → List ℕ → Wrote) → Library
bodied f =
    changed ours.packet_read ours.packet_write ours.function_read f ours.addressing_read ours.walk ours.mip_read ours.carry ours.gather

abbrev pub addressed : (List ℕ → PayloadRead) → Library
addressed f =
    changed ours.packet_read ours.packet_write ours.function_read ours.function_write f ours.walk ours.mip_read ours.carry ours.gather

abbrev pub walked : (List ℕ → ℕ → ℕ → Walked) → Library
walked f =
    changed ours.packet_read ours.packet_write ours.function_read ours.function_write ours.addressing_read f ours.mip_read ours.carry ours.gather

abbrev pub timed_by : (List ℕ → MipRead) → Library
timed_by f =
    changed ours.packet_read ours.packet_write ours.function_read ours.function_write ours.addressing_read ours.walk f ours.carry ours.gather

abbrev pub carried_by : (ℕ → ℕ → List ℕ → List ℕ → carrying.Outcome) → Library
carried_by f =
    changed ours.packet_read ours.packet_write ours.function_read ours.function_write ours.addressing_read ours.walk ours.mip_read f ours.gather

abbrev pub gathered_by : (Reader → List ℕ → List ℕ → List ℕ → gathering.Outcome) → Library
gathered_by f =
    changed ours.packet_read ours.packet_write ours.function_read ours.function_write ours.addressing_read ours.walk ours.mip_read ours.carry f
