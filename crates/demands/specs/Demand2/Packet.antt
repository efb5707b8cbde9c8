-- The CRC and T2-MI packets (01, "T2-MI packet").
use Rattle.std.specs.Prelude.{ℕ, ◌+◌, ◌≤◌, ◌<◌, ◌≡◌, List, ◌++◌, length}
use Rattle.fields.specs.Numbers.{Bytes, bytes}
use Rattle.refusals.specs.Checks.{first}
use Rattle.crc.specs.Crc.{crc_of}
use Rattle.packet.specs.Read.{read_checks, header_of, payload_of}
use Rattle.packet.specs.Write.{write_checks, packet_bytes}
use Rattle.packet.specs.declared.Header.{Header}
use Rattle.demands.specs.Library.{Library}
use Rattle.demands.specs.Demand2.Writing.{laid, written_by}

pub record Crcs (lib : Library) : Type 0 where
  -- annex A's register, fed with the bytes
  pub register : (l : List ℕ) → lib.crc l ≡ crc_of l
  -- over all bytes with the CRC it ends at zero
  pub own : (l : List ℕ) → lib.crc (l ++ bytes 4 (lib.crc l)) ≡ 0

pub record Packets (lib : Library) : Type 0 where
  -- where no check of 01's list holds: each field from its place, and the payload
  pub reads : (s : List ℕ) → first (read_checks s) ≡ 0 → lib.packet_read s ≡ record { refusal = 0; header = header_of s }
  pub payload : (s : List ℕ) → first (read_checks s) ≡ 0 → lib.packet_payload s ≡ payload_of s
  -- where none holds: the packet of these fields and this payload
  pub writes : (h : Header) (payload out : List ℕ) → first (write_checks h payload (length out)) ≡ 0
      → lib.packet_write h payload out ≡ laid (packet_bytes h payload) out
  -- what was written is read as the same fields and payload
  pub back : (h : Header) (payload out : List ℕ) → Bytes payload → (lib.packet_write h payload out).answer.refusal ≡ 0
      → (lib.packet_read (written_by (lib.packet_write h payload out)) ≡ record { refusal = 0; header = h })
      × (lib.packet_payload (written_by (lib.packet_write h payload out)) ≡ payload)
  -- what is read is written as the same bytes
  pub forth : (s out : List ℕ) → Bytes s → (lib.packet_read s).refusal ≡ 0 → length s ≤ length out
      → lib.packet_write (lib.packet_read s).header (lib.packet_payload s) out ≡ laid s out
  -- the packet count rises by 1, and goes from 255 on to 0
  pub rises : (n : ℕ) → n < 255 → lib.next_count n ≡ n + 1
  pub turns : lib.next_count 255 ≡ 0
