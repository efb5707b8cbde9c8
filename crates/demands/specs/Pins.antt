-- Each format pinned by rows of literal bytes and the fields that they stand for: reading the bytes gives the fields, and
-- writing the fields gives the bytes. The rows were laid out by hand from the standards' tables (002, clause 5; 000, table 1b
-- and tables 7 to 14) and 01, neighbouring fields unlike each other and with their top bits set where 01 takes them so. A wrong
-- width in a format's list moves a bit of its row. tests/independent has the same rows (src/model/pins.rs).
use Rattle.std.specs.Prelude.{◌≡◌, true, false, List, [], ◌∷◌, ◌++◌, ℕ, ℤ, pos, neg_ℤ, length, replicate}
use Rattle.refusals.specs.Answers.{Wrote}
use Rattle.packet.specs.declared.Header.{Header}
use Rattle.stamp.specs.declared.Stamp.{Stamp}
use Rattle.functions.specs.declared.Function.{Function}
use Rattle.functions.specs.declared.Function.TheVariants.{TimeOffset, FrequencyOffset, Power, Private, Cell, Enable, Bandwidth, Passed}
use Rattle.mip.specs.declared.Mip.{Mip}
use Rattle.transport.specs.Look.{look_of}
use Rattle.transport.specs.Look.{Looked}
use Rattle.gather.specs.Calls.{calls_by, lent, handed_all}
use Rattle.demands.specs.Library.{Library}
use Rattle.demands.specs.Demand2.Address.{whole_walk, told_by}

-- ---- what a row says

pub data Row : Type 0 where
  -- a T2-MI packet: its bytes, its header's fields, its payload with its pad
  packet : List ℕ → Header → List ℕ → Row
  -- a timestamp payload, and its fields
  stamp : List ℕ → Stamp → Row
  -- a bandwidth code, and the subsecond units in a microsecond
  unit : ℕ → ℕ → Row
  -- a tag and a body, the function, and the bytes that it carries beside its fields
  function : ℕ → List ℕ → Function → List ℕ → Row
  -- an addressing payload, and its data
  addressing : List ℕ → List ℕ → Row
  -- data, a transmitter, and the tags and bodies that are for it
  heard : List ℕ → ℕ → List (ℕ × List ℕ) → Row
  -- a MIP, its fields and its addressing data
  mip : List ℕ → Mip → List ℕ → Row
  -- PID, first count and batch of T2-MI packets; the transport packets, how many they are, and the next count
  carried : ℕ → ℕ → List (List ℕ) → List (List ℕ) → ℕ → ℕ → Row
  -- a PID and a transport packet, and what is found in it
  looked : ℕ → List ℕ → Looked → Row

-- an output of just this size, and what is answered where it was filled
abbrev pub blank : List ℕ → List ℕ
blank bytes = replicate (length bytes) 0

abbrev pub filled : List ℕ → Wrote
filled bytes = record { answer = record { refusal = 0; bytes = length bytes }; out = bytes }

abbrev pub together : List (List ℕ) → List ℕ
together [] = []
together (p ∷ ps) = p ++ together ps

-- buffers of 01's sizes
abbrev pub buffer : List ℕ
buffer = replicate 8202 0

abbrev pub space : ℕ → List ℕ
space n = replicate 8385 0

-- both directions
abbrev pub Holds : Library → Row → Type 0
Holds lib (packet bytes header payload) =
    (lib.packet_read bytes ≡ record { refusal = 0; header = header })
    × (lib.packet_payload bytes ≡ payload)
    × (lib.packet_write header payload (blank bytes) ≡ filled bytes)
Holds lib (stamp bytes fields) =
    (lib.stamp_read bytes ≡ record { refusal = 0; stamp = fields })
    × (lib.stamp_write fields (blank bytes) ≡ filled bytes)
Holds lib (unit bw units) = lib.units bw ≡ units
Holds lib (function tag body f beside) =
    (lib.function_read tag body ≡ record { refusal = 0; function = f })
    × (lib.function_write f beside (blank body) ≡ filled body)
Holds lib (addressing bytes d) =
    (lib.addressing_read bytes ≡ record { refusal = 0; bytes = length d })
    × (lib.addressing_data bytes ≡ d)
    × (lib.addressing_write d (blank bytes) ≡ filled bytes)
Holds lib (heard d tx functions) = told_by d (whole_walk lib d tx) ≡ functions
Holds lib (mip bytes fields d) =
    (lib.mip_read bytes ≡ record { refusal = 0; addressing = length d; mip = fields })
    × (lib.mip_addressing bytes ≡ d)
    × (lib.mip_write fields d (blank bytes) ≡ filled bytes)
-- what the reader makes of the transport packets is the batch
Holds lib (carried pid count batch ts number next) =
    (lib.carry pid count (together batch) (blank (together ts))
    ≡ record { answer = record { refusal = 0; packets = number; next_count = next }; out = together ts })
    × (handed_all (calls_by lib.gather (lib.start pid).reader buffer (lent space ts)) ≡ batch)
Holds lib (looked pid t found) = look_of pid t ≡ found

abbrev pub AllHold : Library → List Row → Type 0
AllHold lib [] = Unit
AllHold lib (r ∷ rs) = Holds lib r × AllHold lib rs

-- ---- T2-MI packets (002, clause 5.1)

-- type 33, count A5, superframe C, nine bits of zeros, stream 5, 261 bits: 32 bytes and 5 bits, then 3 of pad
abbrev pub payload261 : List ℕ
payload261 =
    0x01 ∷ 0x02 ∷ 0x03 ∷ 0x04 ∷ 0x05 ∷ 0x06 ∷ 0x07 ∷ 0x08 ∷ 0x09 ∷ 0x0A ∷ 0x0B ∷ 0x0C ∷ 0x0D ∷ 0x0E ∷ 0x0F ∷ 0x10
    ∷ 0x11 ∷ 0x12 ∷ 0x13 ∷ 0x14 ∷ 0x15 ∷ 0x16 ∷ 0x17 ∷ 0x18 ∷ 0x19 ∷ 0x1A ∷ 0x1B ∷ 0x1C ∷ 0x1D ∷ 0x1E ∷ 0x1F ∷ 0x20
    ∷ 0xF8 ∷ []

abbrev pub packets : List Row
packets =
    packet
    (0x33 ∷ 0xA5 ∷ 0xC0 ∷ 0x05 ∷ 0x01 ∷ 0x05 ∷ (payload261 ++ (0xD1 ∷ 0x53 ∷ 0x4C ∷ 0xF1 ∷ [])))
    (record { kind = 0x33; count = 0xA5; frame = 0xC; stream = 5; bits = 261 })
    payload261
    ∷ []

-- ---- timestamps (002, clause 5.2.7)

abbrev pub stamps : List Row
stamps =
    -- 10 MHz. The last five bytes are 27 bits, 100 0110 0101 0100 0011 0010 0001, and 13, 1 1010 0101 1100
    stamp
    (0x05 ∷ 0x81 ∷ 0x23 ∷ 0x45 ∷ 0x67 ∷ 0x89 ∷ 0x8C ∷ 0xA8 ∷ 0x64 ∷ 0x3A ∷ 0x5C ∷ [])
    (record { bw = 5; seconds = 0x8123456789; subseconds = record { 0 = 0x4654321 }; utco = 0x1A5C })
    -- the null stamp at 7 MHz
    ∷ stamp
    (0x03 ∷ 0xFF ∷ 0xFF ∷ 0xFF ∷ 0xFF ∷ 0xFF ∷ 0xFF ∷ 0xFF ∷ 0xFF ∷ 0xFF ∷ 0xFF ∷ [])
    (record { bw = 3; seconds = 0xFFFFFFFFFF; subseconds = record { 0 = 0x7FFFFFF }; utco = 0x1FFF })
    -- table 4
    ∷ unit 0 131
    ∷ unit 1 40
    ∷ unit 2 48
    ∷ unit 3 56
    ∷ unit 4 64
    ∷ unit 5 80
    ∷ unit 6 0
    ∷ []

-- ---- functions (000, tables 6 to 14)

abbrev minus : ℕ → ℤ
minus n = neg_ℤ (pos n)

abbrev pub functions : List Row
functions =
    function 0 (0x8A ∷ 0x5C ∷ []) (TimeOffset (minus 30116)) []
    ∷ function 1 (0x9B ∷ 0x3C ∷ 0x7D ∷ []) (FrequencyOffset (minus 6603651)) []
    ∷ function 2 (0xC3 ∷ 0x51 ∷ []) (Power 50001) []
    ∷ function 3 (0x9A ∷ 0x00 ∷ 0xFF ∷ []) Private (0x9A ∷ 0x00 ∷ 0xFF ∷ [])
    -- 16 bits, the flag, and the 7 bits 101 0101; then without the flag
    ∷ function 4 (0xD2 ∷ 0xA7 ∷ 0xD5 ∷ []) (Cell 0xD2A7 true 0x55) []
    ∷ function 4 (0x72 ∷ 0xA7 ∷ 0x6A ∷ []) (Cell 0x72A7 false 0x6A) []
    ∷ function 5 (0x04 ∷ 0x06 ∷ []) Enable (0x04 ∷ 0x06 ∷ [])
    -- 7 bits, then the flag
    ∷ function 6 (0x01 ∷ []) (Bandwidth 0 true) []
    ∷ function 6 (0x00 ∷ []) (Bandwidth 0 false) []
    ∷ function 0xE7 (0x80 ∷ 0x01 ∷ []) (Passed 0xE7) (0x80 ∷ 0x01 ∷ [])
    ∷ function 7 [] (Passed 7) []
    ∷ []

-- ---- addressing payloads (002, clause 5.2.8; 000, clause 6)

-- for 8102, 7 bytes: a time offset, and a function of tag E7
abbrev pub own8102 : List ℕ
own8102 = 0x81 ∷ 0x02 ∷ 0x07 ∷ 0x00 ∷ 0x04 ∷ 0x8A ∷ 0x5C ∷ 0xE7 ∷ 0x03 ∷ 0x80 ∷ []

-- for all, 11 bytes: power, bandwidth, tags enabled
abbrev pub broadcast : List ℕ
broadcast = 0x00 ∷ 0x00 ∷ 0x0B ∷ 0x02 ∷ 0x04 ∷ 0xC3 ∷ 0x51 ∷ 0x06 ∷ 0x03 ∷ 0x01 ∷ 0x05 ∷ 0x04 ∷ 0x04 ∷ 0x06 ∷ []

abbrev pub to_all : List (ℕ × List ℕ)
to_all = (2, 0xC3 ∷ 0x51 ∷ []) ∷ (6, 0x01 ∷ []) ∷ (5, 0x04 ∷ 0x06 ∷ []) ∷ []

abbrev pub payloads : List Row
payloads =
    addressing (0x00 ∷ 0x18 ∷ (own8102 ++ broadcast)) (own8102 ++ broadcast)
    ∷ heard (own8102 ++ broadcast) 0x8102 ((0, 0x8A ∷ 0x5C ∷ []) ∷ (0xE7, 0x80 ∷ []) ∷ to_all)
    ∷ heard (own8102 ++ broadcast) 0x0281 to_all
    ∷ []

-- ---- MIPs (000, table 1b)

-- count 14; section_length 29; pointer 9ABC; periodic, then 15 bits of future_use; stamp and delay; tps_mip with P0 set; 10 bytes
abbrev pub mips : List Row
mips =
    mip
    (0x47 ∷ 0x60 ∷ 0x15 ∷ 0x1E ∷ 0x00 ∷ 0x1D ∷ 0x9A ∷ 0xBC ∷ 0xDA ∷ 0x3C ∷ 0x8F ∷ 0x1E ∷ 0x2D ∷ 0x91 ∷ 0x23 ∷ 0x45 ∷ 0xB7 ∷ 0x65 ∷ 0x43 ∷ 0x21 ∷ 0x0A
    ∷ (own8102 ++ (0x76 ∷ 0xC4 ∷ 0xB6 ∷ 0xF7 ∷ replicate 153 0xFF)))
    (record {
      count = 14;
      pointer = 0x9ABC;
      periodic = true;
      future = 0x5A3C;
      stamp = record { 0 = 9379373 };
      delay = record { 0 = 9511749 };
      tps = 0xB7654321;
    })
    own8102
    ∷ []

-- ---- transport packets (ISO/IEC 13818-1; 002, clause 6.1; 01, "Carriage: the writer")

-- a T2-MI packet of 384 bytes, and one of 10
abbrev pub first384 : List ℕ
first384 = 0x10 ∷ 0x07 ∷ 0x90 ∷ 0x03 ∷ 0x0B ∷ 0xB0 ∷ (replicate 374 0x6E ++ (0x02 ∷ 0xF4 ∷ 0xB3 ∷ 0x12 ∷ []))

abbrev pub then10 : List ℕ
then10 = 0x30 ∷ 0x08 ∷ 0x90 ∷ 0x03 ∷ 0x00 ∷ 0x00 ∷ 0xF6 ∷ 0x0B ∷ 0x1D ∷ 0xAD ∷ []

-- on PID 1ABC, counts from 11 on: a start and 183 bytes; 184 bytes; a start 17 bytes on, behind 156 bytes of adaptation field
abbrev pub transport11 : List ℕ
transport11 = 0x47 ∷ 0x5A ∷ 0xBC ∷ 0x1B ∷ 0x00 ∷ 0x10 ∷ 0x07 ∷ 0x90 ∷ 0x03 ∷ 0x0B ∷ 0xB0 ∷ replicate 177 0x6E

abbrev pub transport12 : List ℕ
transport12 = 0x47 ∷ 0x1A ∷ 0xBC ∷ 0x1C ∷ replicate 184 0x6E

abbrev pub transport13 : List ℕ
transport13 =
    0x47 ∷ 0x5A ∷ 0xBC ∷ 0x3D ∷ 0x9B ∷ 0x00
    ∷ (replicate 154 0xFF ++ (0x11 ∷ (replicate 13 0x6E ++ (0x02 ∷ 0xF4 ∷ 0xB3 ∷ 0x12 ∷ then10))))

abbrev pub transports : List Row
transports =
    carried 0x1ABC 11 (first384 ∷ then10 ∷ []) (transport11 ∷ transport12 ∷ transport13 ∷ []) 3 14
    ∷ looked 0x1ABC transport11 (record { refusal = 0; count = 11; begins = true; payload = 4; pointer = 0 })
    ∷ looked 0x1ABC transport12 (record { refusal = 0; count = 12; begins = false; payload = 4; pointer = 0 })
    ∷ looked 0x1ABC transport13 (record { refusal = 0; count = 13; begins = true; payload = 160; pointer = 0x11 })
    ∷ []

-- ---- all of them

pub record Pins (lib : Library) : Type 0 where
  pub packets-hold : AllHold lib packets
  pub stamps-hold : AllHold lib stamps
  pub functions-hold : AllHold lib functions
  pub payloads-hold : AllHold lib payloads
  pub mips-hold : AllHold lib mips
  pub transports-hold : AllHold lib transports
