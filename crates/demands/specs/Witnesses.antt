-- Inputs that the premises of the demands must admit, so that none can be narrowed unseen. For demand 3: routes, and batches up to
-- the largest. For demands 1 and 2: of each operation's list an input for each number of 01's "Orders".
use Rattle.std.specs.Prelude.{◌≡◌, Bool, true, false, List, [], ◌∷◌, ◌++◌, ℕ, ◌-◌, ◌*◌, ℤ, pos, neg_ℤ, length, replicate}
use Rattle.crc.specs.Sealed.{sealed}
use Rattle.refusals.specs.Checks.{Check, ◌when◌, first}
use Rattle.packet.specs.Read as packet
use Rattle.packet.specs.Write as packet_writing
use Rattle.packet.specs.declared.Header.{Header}
use Rattle.stamp.specs.Read as stamp
use Rattle.stamp.specs.Write as stamp_writing
use Rattle.stamp.specs.declared.Stamp.{Stamp}
use Rattle.functions.specs.Read as function
use Rattle.functions.specs.Write as function_writing
use Rattle.functions.specs.declared.Function.{Function}
use Rattle.functions.specs.declared.Function.TheVariants.{TimeOffset, FrequencyOffset, Power, Private, Cell, Bandwidth, Passed}
use Rattle.addressing.specs.Data.{house}
use Rattle.addressing.specs.Payload as addressing
use Rattle.addressing.specs.Walk.{walk_checks}
use Rattle.mip.specs.Read as mip
use Rattle.mip.specs.Write as mip_writing
use Rattle.mip.specs.Timing.{steps, emission_checks, extra_checks}
use Rattle.mip.specs.declared.Mip.{Mip}
use Rattle.transport.specs.Tests.{pid_outside}
use Rattle.carry.specs.Carry as carrying
use Rattle.gather.specs.State.{gather_checks}
use Rattle.std.specs.Prelude.{Option, None, Some}
use Rattle.gather.specs.declared.Reader.{Reader}
use Rattle.demands.specs.Library.{Library}
use Rattle.demands.specs.Route.{Item, writers, again, other, nothing, Route}
use Rattle.demands.specs.Demand3.{Batch, AllCarriable, carry_all}

-- ---- demand 3: routes

-- how many transport packets the writer sent on PID 0x1000, and what reaches the reader
pub record Sent : Type 0 where
  pub number : ℕ
  pub items : List Item

abbrev sent : ℕ → List Item → Sent
sent n is = record { number = n; items = is }

-- a transport packet of zeros with these four bytes of header
abbrev headed : ℕ → ℕ → ℕ → ℕ → List ℕ
headed a b c d = a ∷ b ∷ c ∷ d ∷ replicate 184 0

-- of PID 0x1100, and one that is marked as errored
abbrev pub others : Item
others = other (headed 0x47 0x11 0x00 0x10)

abbrev pub errored : Item
errored = other (headed 0x47 0x90 0x00 0x10)

abbrev pub routes : List Sent
routes =
    -- all arrive; and nothing does
    sent 3 (writers 0 ∷ writers 1 ∷ writers 2 ∷ [])
    ∷ sent 40 []
    -- 14 lost in a row, and twice with one arrival between
    ∷ sent 16 (writers 0 ∷ writers 15 ∷ [])
    ∷ sent 31 (writers 0 ∷ writers 15 ∷ writers 30 ∷ [])
    -- 20 lost at the start, 20 at the end, and both
    ∷ sent 22 (writers 20 ∷ writers 21 ∷ [])
    ∷ sent 22 (writers 0 ∷ writers 1 ∷ [])
    ∷ sent 41 (writers 20 ∷ [])
    -- again directly after it came, and once more
    ∷ sent 2 (writers 0 ∷ again 0 ∷ again 0 ∷ writers 1 ∷ again 1 ∷ [])
    -- others anywhere: before the first, between one and the same again, in a run of 14 lost, at the end
    ∷ sent 16 (others ∷ errored ∷ writers 0 ∷ others ∷ again 0 ∷ errored ∷ others ∷ writers 15 ∷ errored ∷ [])
    ∷ []

abbrev pub AllRoutes : List Sent → Type 0
AllRoutes [] = Unit
AllRoutes (s ∷ ss) = Route 0x1000 s.number nothing s.items × AllRoutes ss

-- ---- demand 3: batches

-- a packet of 10 bytes, with room for one transport packet: three batches, and the second is lost on the way
abbrev pub ten : List ℕ
ten = 0x00 ∷ 0x05 ∷ 0x00 ∷ 0x00 ∷ 0x00 ∷ 0x00 ∷ 0x53 ∷ 0x83 ∷ 0x58 ∷ 0x7C ∷ []

abbrev pub small : Batch
small = record { packets = ten ∷ []; out = replicate 188 0 }

abbrev pub several : List Batch
several = small ∷ small ∷ small ∷ []

-- eight packets of 8,192 bytes (65,456 payload bits, 0xFFB0, of zeros): 65,536 in all, and 359 transport packets hold them
abbrev pub header8192 : List ℕ
header8192 = 0x00 ∷ 0x00 ∷ 0x00 ∷ 0x00 ∷ 0xFF ∷ 0xB0 ∷ []

abbrev pub eighth : List ℕ
eighth = sealed (header8192 ++ replicate 8182 0)

abbrev pub largest : Batch
largest =
    record {
      packets = eighth ∷ eighth ∷ eighth ∷ eighth ∷ eighth ∷ eighth ∷ eighth ∷ eighth ∷ [];
      out = replicate (188 * 359) 0;
    }

pub record Journeys (lib : Library) : Type 0 where
  pub routes-go : AllRoutes routes
  pub several-go : AllCarriable several
  pub over-several : Route 0x1000 (length (carry_all lib 0x1000 15 several)) nothing (writers 0 ∷ writers 2 ∷ [])
  pub largest-goes : AllCarriable (largest ∷ [])

-- ---- demands 1 and 2: what is refused

-- rows of a number and an input for which it is given
abbrev pub Each : {A : Type 0} → (A → Type 0) → List A → Type 0
Each Holds [] = Unit
Each Holds (x ∷ xs) = Holds x × Each Holds xs

abbrev Gives : List Check → ℕ → Type 0
Gives checks n = first checks ≡ n

abbrev minus : ℕ → ℤ
minus n = neg_ℤ (pos n)

-- a group for transmitter 1 that is cut; one byte of a function; time offset of length 2; bandwidth 1
abbrev cut26 : List ℕ
cut26 = 0 ∷ []

abbrev cut27 : List ℕ
cut27 = 0 ∷ 1 ∷ 1 ∷ 3 ∷ []

abbrev wrong28 : List ℕ
wrong28 = 0 ∷ 1 ∷ 2 ∷ 0 ∷ 2 ∷ []

abbrev wrong29 : List ℕ
wrong29 = 0 ∷ 1 ∷ 3 ∷ 6 ∷ 3 ∷ 2 ∷ []

-- ---- T2-MI packets

abbrev pub packet_reads : List (ℕ × List ℕ)
packet_reads =
    (18, replicate 9 0)
    ∷ (19, replicate 11 0)
    ∷ (14, replicate 10 0)
    -- the first and the last of the nine reserved bits
    ∷ (20, 0x00 ∷ 0x00 ∷ 0x08 ∷ 0x00 ∷ 0x00 ∷ 0x00 ∷ 0xC3 ∷ 0x90 ∷ 0x24 ∷ 0x78 ∷ [])
    ∷ (20, 0x00 ∷ 0x00 ∷ 0x00 ∷ 0x08 ∷ 0x00 ∷ 0x00 ∷ 0x34 ∷ 0xBF ∷ 0xD8 ∷ 0x4A ∷ [])
    ∷ (21, 0x03 ∷ 0x00 ∷ 0x00 ∷ 0x00 ∷ 0x00 ∷ 0x00 ∷ 0x17 ∷ 0x02 ∷ 0xAB ∷ 0xFA ∷ [])
    -- one payload bit, and the pad bit beside it
    ∷ (22, 0x00 ∷ 0x00 ∷ 0x00 ∷ 0x00 ∷ 0x00 ∷ 0x01 ∷ 0x40 ∷ 0x67 ∷ 0x9B ∷ 0x78 ∷ 0xED ∷ [])
    ∷ []

abbrev header : ℕ → ℕ → ℕ → ℕ → ℕ → Header
header kind count frame stream bits = record { kind = kind; count = count; frame = frame; stream = stream; bits = bits }

-- fields, payload, and the output's bytes
abbrev pub packet_writes : List (ℕ × Header × List ℕ × ℕ)
packet_writes =
    (21, header 0x03 0 0 0 0, [], 10)
    ∷ (38, header 0x00 256 0 0 0, [], 10)
    ∷ (38, header 0x00 0 16 0 0, [], 10)
    ∷ (38, header 0x00 0 0 8 0, [], 10)
    ∷ (38, header 0x00 0 0 0 65536, [], 10)
    ∷ (19, header 0x00 0 0 0 8, [], 10)
    ∷ (22, header 0x00 0 0 0 1, 0x40 ∷ [], 11)
    ∷ (16, header 0x00 0 0 0 0, [], 9)
    ∷ []

-- ---- timestamps

abbrev pub stamp_reads : List (ℕ × List ℕ)
stamp_reads =
    (23, replicate 10 0)
    ∷ (23, replicate 12 0)
    ∷ (20, 0x10 ∷ replicate 10 0)
    ∷ (24, 0x06 ∷ replicate 10 0)
    ∷ (24, 0x08 ∷ replicate 10 0)
    -- all ones but for the seconds
    ∷ (25, 0x05 ∷ (replicate 5 0 ++ replicate 5 0xFF))
    ∷ []

abbrev stamped : ℕ → ℕ → ℕ → ℕ → Stamp
stamped bw seconds subseconds utco = record { bw = bw; seconds = seconds; subseconds = record { 0 = subseconds }; utco = utco }

abbrev pub stamp_writes : List (ℕ × Stamp × ℕ)
stamp_writes =
    (24, stamped 6 0 0 0, 11)
    ∷ (38, stamped 0 0x10000000000 0 0, 11)
    ∷ (38, stamped 0 0 0x8000000 0, 11)
    ∷ (38, stamped 0 0 0 0x2000, 11)
    ∷ (25, stamped 0 0 131000000 0, 11)
    ∷ (25, stamped 1 0 40000000 0, 11)
    ∷ (25, stamped 5 0 80000000 0, 11)
    ∷ (16, stamped 0 0 0 0, 10)
    ∷ []

-- ---- functions

abbrev pub function_reads : List (ℕ × ℕ × List ℕ)
function_reads =
    (38, 7, replicate 254 0)
    ∷ (28, 0, 0 ∷ [])
    ∷ (28, 1, 0 ∷ 0 ∷ [])
    ∷ (28, 2, 0 ∷ 0 ∷ 0 ∷ [])
    ∷ (28, 4, 0 ∷ 0 ∷ [])
    ∷ (28, 6, [])
    -- bandwidth 1, and 127
    ∷ (29, 6, 0x02 ∷ [])
    ∷ (29, 6, 0xFE ∷ [])
    ∷ []

abbrev pub function_writes : List (ℕ × Function × List ℕ × ℕ)
function_writes =
    (38, TimeOffset (pos 32768), [], 2)
    ∷ (38, TimeOffset (minus 32769), [], 2)
    ∷ (38, FrequencyOffset (pos 8388608), [], 3)
    ∷ (38, FrequencyOffset (minus 8388609), [], 3)
    ∷ (38, Power 65536, [], 2)
    ∷ (38, Cell 65536 false 0, [], 3)
    ∷ (38, Cell 0 true 128, [], 3)
    ∷ (38, Bandwidth 128 false, [], 1)
    ∷ (38, Passed 6, [], 0)
    ∷ (38, Private, replicate 254 0, 254)
    ∷ (29, Bandwidth 1 true, [], 1)
    ∷ (29, Bandwidth 127 true, [], 1)
    ∷ (16, Power 0, [], 1)
    ∷ []

-- ---- addressing payloads, and the walk

abbrev pub addressing_reads : List (ℕ × List ℕ)
addressing_reads =
    (23, 0 ∷ [])
    ∷ (23, 0 ∷ 1 ∷ [])
    ∷ (20, 0x80 ∷ 0 ∷ [])
    ∷ (26, 0 ∷ 1 ∷ cut26)
    ∷ (27, 0 ∷ 4 ∷ cut27)
    ∷ (28, 0 ∷ 5 ∷ wrong28)
    ∷ (29, 0 ∷ 6 ∷ wrong29)
    ∷ []

abbrev pub addressing_writes : List (ℕ × List ℕ × ℕ)
addressing_writes =
    (38, replicate 256 0, 258)
    ∷ (26, cut26, 3)
    ∷ (27, cut27, 6)
    ∷ (28, wrong28, 7)
    ∷ (29, wrong29, 8)
    ∷ (16, [], 1)
    ∷ []

-- data, transmitter, place
abbrev pub walks : List (ℕ × List ℕ × ℕ × ℕ)
walks =
    (38, replicate 256 0, 1, 0)
    ∷ (26, cut26, 1, 0)
    ∷ (27, cut27, 1, 0)
    ∷ (28, wrong28, 1, 0)
    ∷ (29, wrong29, 1, 0)
    ∷ (38, [], 1, 1)
    ∷ []

-- ---- MIPs and site timing

abbrev stuffed : List ℕ → List ℕ
stuffed l = l ++ replicate (188 - length l) 0xFF

-- no data: the stamp's and the delay's three bytes, and the CRC
abbrev plain : List ℕ → List ℕ → List ℕ → List ℕ
plain stamp delay crc =
    0x47 ∷ 0x60 ∷ 0x15 ∷ 0x10 ∷ 0 ∷ 19 ∷ 0 ∷ 0 ∷ 0 ∷ 0 ∷ (stamp ++ (delay ++ (0 ∷ 0 ∷ 0 ∷ 0 ∷ 0 ∷ crc)))

-- this data, and the CRC
abbrev addressed : ℕ → List ℕ → List ℕ → List ℕ
addressed n d crc = 0x47 ∷ 0x60 ∷ 0x15 ∷ 0x10 ∷ 0 ∷ n ∷ (replicate 14 0 ++ (length d ∷ (d ++ crc)))

abbrev zeros : List ℕ
zeros = replicate 3 0

abbrev whole : List ℕ
whole = 0x98 ∷ 0x96 ∷ 0x80 ∷ []

abbrev pub mip_reads : List (ℕ × List ℕ)
mip_reads =
    (1, replicate 187 0x47)
    ∷ (5, replicate 188 0)
    ∷ (30, headed 0x47 0x60 0x15 0x30)
    ∷ (31, 0x47 ∷ 0x60 ∷ 0x15 ∷ 0x10 ∷ replicate 184 1)
    ∷ (32, headed 0x47 0x60 0x15 0x10)
    -- 183 would be right for 164 bytes
    ∷ (32, 0x47 ∷ 0x60 ∷ 0x15 ∷ 0x10 ∷ 0 ∷ 183 ∷ (replicate 14 0 ++ replicate 168 164))
    ∷ (14, stuffed (plain zeros zeros (0 ∷ 0 ∷ 0 ∷ 0 ∷ [])))
    ∷ (33, stuffed (plain whole zeros (0xB6 ∷ 0xD0 ∷ 0x82 ∷ 0xC3 ∷ [])))
    ∷ (34, stuffed (plain zeros whole (0x92 ∷ 0x5C ∷ 0xAF ∷ 0x59 ∷ [])))
    ∷ (35, plain zeros zeros (0x5B ∷ 0x53 ∷ 0xCE ∷ 0x34 ∷ (replicate 162 0xFF ++ (0xFE ∷ []))))
    ∷ (26, stuffed (addressed 20 cut26 (0xB5 ∷ 0x32 ∷ 0x03 ∷ 0x29 ∷ [])))
    ∷ (27, stuffed (addressed 23 cut27 (0x93 ∷ 0x4C ∷ 0x2F ∷ 0x9E ∷ [])))
    ∷ (28, stuffed (addressed 24 wrong28 (0x60 ∷ 0xBE ∷ 0x61 ∷ 0x53 ∷ [])))
    ∷ (29, stuffed (addressed 25 wrong29 (0x33 ∷ 0x9A ∷ 0x11 ∷ 0x41 ∷ [])))
    ∷ []

abbrev fields : ℕ → ℕ → ℕ → ℕ → ℕ → ℕ → Mip
fields count pointer future stamp delay tps =
    record {
      count = count;
      pointer = pointer;
      periodic = false;
      future = future;
      stamp = record { 0 = stamp };
      delay = record { 0 = delay };
      tps = tps;
    }

abbrev pub mip_writes : List (ℕ × Mip × List ℕ × ℕ)
mip_writes =
    (36, fields 0 0 0 0 0 0, replicate 164 0, 188)
    ∷ (38, fields 16 0 0 0 0 0, [], 188)
    ∷ (38, fields 0 65536 0 0 0 0, [], 188)
    ∷ (38, fields 0 0 32768 0 0 0, [], 188)
    ∷ (38, fields 0 0 0 0x1000000 0 0, [], 188)
    ∷ (38, fields 0 0 0 0 0x1000000 0, [], 188)
    ∷ (38, fields 0 0 0 0 0 0x100000000, [], 188)
    ∷ (33, fields 0 0 0 10000000 0 0, [], 188)
    ∷ (34, fields 0 0 0 0 10000000 0, [], 188)
    ∷ (26, fields 0 0 0 0 0 0, cut26, 188)
    ∷ (27, fields 0 0 0 0 0 0, cut27, 188)
    ∷ (28, fields 0 0 0 0 0 0, wrong28, 188)
    ∷ (29, fields 0 0 0 0 0 0, wrong29, 188)
    ∷ (16, fields 0 0 0 0 0 0, [], 187)
    ∷ []

-- stamp, maximum delay, offset
abbrev pub emissions : List (ℕ × ℕ × ℕ × ℤ)
emissions =
    (38, 0, 0, pos 32768)
    ∷ (38, 0, 0, minus 32769)
    ∷ (33, 10000000, 0, pos 0)
    ∷ (34, 0, 10000000, pos 0)
    ∷ []

-- and reception time
abbrev pub extra_delays : List (ℕ × ℕ × ℕ × ℤ × ℕ)
extra_delays =
    (38, 0, 0, pos 32768, 0)
    ∷ (38, 0, 0, minus 32769, 0)
    ∷ (33, 10000000, 0, pos 0, 0)
    ∷ (34, 0, 10000000, pos 0, 0)
    ∷ (37, 0, 0, pos 0, 10000000)
    ∷ []

-- ---- carriage

-- PID, first count, batch, and the output's bytes
abbrev pub carryings : List (ℕ × ℕ × ℕ × List ℕ × ℕ)
carryings =
    (4, 0x001F, 0, [], 0)
    ∷ (4, 0x1FFF, 0, [], 0)
    ∷ (17, 0x0020, 16, [], 0)
    ∷ (15, 0x0020, 0, replicate 65537 0, 0)
    ∷ (13, 0x1FFE, 15, 0 ∷ [], 0)
    ∷ (13, 0x1FFE, 15, ten ++ (0 ∷ []), 0)
    ∷ (14, 0x1FFE, 15, replicate 10 0, 0)
    ∷ (14, 0x1FFE, 15, ten ++ replicate 10 0, 0)
    ∷ (16, 0x1FFE, 15, ten, 187)
    ∷ []

abbrev pub starts : List (ℕ × ℕ)
starts = (4, 0x001F) ∷ (4, 0x1FFF) ∷ []

abbrev reader : ℕ → Option ℕ → Bool → ℕ → Reader
reader pid last step waiting = record { pid = pid; last = last; in_step = step; waiting = waiting }

abbrev fresh : Reader
fresh = reader 0x1000 None false 0

abbrev good : List ℕ
good = headed 0x47 0x10 0x00 0x15

-- state, transport packet, the gathering buffer's bytes and the output's
abbrev pub gatherings : List (ℕ × Reader × List ℕ × ℕ × ℕ)
gatherings =
    (38, reader 0x001F None false 0, good, 8202, 8385)
    ∷ (38, reader 0x1FFF None false 0, good, 8202, 8385)
    ∷ (38, reader 0x1000 (Some 16) false 0, good, 8202, 8385)
    ∷ (38, reader 0x1000 None true 8202, good, 8202, 8385)
    ∷ (38, reader 0x1000 None false 1, good, 8202, 8385)
    ∷ (1, fresh, replicate 187 0x47, 8202, 8385)
    ∷ (1, fresh, replicate 189 0x47, 8202, 8385)
    ∷ (2, fresh, good, 8201, 8385)
    ∷ (3, fresh, good, 8202, 8384)
    ∷ (5, fresh, headed 0x46 0x10 0x00 0x15, 8202, 8385)
    ∷ (6, fresh, headed 0x47 0x90 0x00 0x15, 8202, 8385)
    ∷ (7, fresh, headed 0x47 0x11 0x00 0x15, 8202, 8385)
    ∷ (8, fresh, headed 0x47 0x10 0x00 0x55, 8202, 8385)
    ∷ (8, fresh, headed 0x47 0x10 0x00 0x95, 8202, 8385)
    ∷ (9, fresh, headed 0x47 0x10 0x00 0x05, 8202, 8385)
    ∷ (9, fresh, headed 0x47 0x10 0x00 0x25, 8202, 8385)
    -- a field of 183 bytes; and the pointer 183
    ∷ (10, fresh, 0x47 ∷ 0x10 ∷ 0x00 ∷ 0x35 ∷ 183 ∷ replicate 183 0, 8202, 8385)
    ∷ (11, fresh, 0x47 ∷ 0x50 ∷ 0x00 ∷ 0x15 ∷ 183 ∷ replicate 183 0, 8202, 8385)
    ∷ (12, reader 0x1000 (Some 5) true 8201, good, 8202, 8385)
    -- and of none: the fresh reader, the highest pointer, the largest field
    ∷ (0, fresh, good, 8202, 8385)
    ∷ (0, fresh, 0x47 ∷ 0x50 ∷ 0x00 ∷ 0x15 ∷ 182 ∷ replicate 183 0, 8202, 8385)
    ∷ (0, fresh, 0x47 ∷ 0x10 ∷ 0x00 ∷ 0x35 ∷ 182 ∷ replicate 183 0, 8202, 8385)
    ∷ (0, reader 0x1FFE (Some 15) true 8201, headed 0x47 0x1F 0xFE 0x10, 8202, 8385)
    ∷ []

-- ---- all of them, by the lists that demand 1 asks for

pub record Refusals : Type 0 where
  pub starting : Each (λ (x : ℕ × ℕ). Gives (4 when pid_outside x.1 ∷ []) x.0) starts
  pub gathering : Each (λ (x : ℕ × Reader × List ℕ × ℕ × ℕ). Gives (gather_checks x.1 x.2 x.3 x.4) x.0) gatherings
  pub carrying : Each (λ (x : ℕ × ℕ × ℕ × List ℕ × ℕ). Gives (carrying.carry_checks x.1 x.2 x.3 x.4) x.0) carryings
  pub packet_read : Each (λ (x : ℕ × List ℕ). Gives (packet.read_checks x.1) x.0) packet_reads
  pub packet_write : Each (λ (x : ℕ × Header × List ℕ × ℕ). Gives (packet_writing.write_checks x.1 x.2 x.3) x.0) packet_writes
  pub stamp_read : Each (λ (x : ℕ × List ℕ). Gives (stamp.read_checks x.1) x.0) stamp_reads
  pub stamp_write : Each (λ (x : ℕ × Stamp × ℕ). Gives (stamp_writing.write_checks x.1 x.2) x.0) stamp_writes
  pub function_read : Each (λ (x : ℕ × ℕ × List ℕ). Gives (function.read_checks x.1 x.2) x.0) function_reads
  pub function_write : Each (λ (x : ℕ × Function × List ℕ × ℕ). Gives (function_writing.write_checks x.1 x.2 x.3) x.0) function_writes
  pub addressing_read : Each (λ (x : ℕ × List ℕ). Gives (addressing.payload_checks house x.1) x.0) addressing_reads
  pub addressing_write : Each (λ (x : ℕ × List ℕ × ℕ). Gives (addressing.write_checks house x.1 x.2) x.0) addressing_writes
  pub walk : Each (λ (x : ℕ × List ℕ × ℕ × ℕ). Gives (walk_checks house x.1 x.2 x.3) x.0) walks
  pub mip_read : Each (λ (x : ℕ × List ℕ). Gives (mip.read_checks x.1) x.0) mip_reads
  pub mip_write : Each (λ (x : ℕ × Mip × List ℕ × ℕ). Gives (mip_writing.write_checks x.1 x.2 x.3) x.0) mip_writes
  pub emission : Each (λ (x : ℕ × ℕ × ℕ × ℤ). Gives (emission_checks (steps x.1) (steps x.2) x.3) x.0) emissions
  pub extra_delay : Each (λ (x : ℕ × ℕ × ℕ × ℤ × ℕ). Gives (extra_checks (steps x.1) (steps x.2) x.3 (steps x.4)) x.0) extra_delays
