-- The rows of 01's section "Bench examples" that are marked P, in its order, under one statement. What a row of each kind
-- says is in the crate of its format.
use Rattle.std.specs.Prelude.{List, [], ◌∷◌, ◌++◌, ℕ, ℤ, pos, neg_ℤ, replicate}
use Rattle.packet.specs.Rows as packet
use Rattle.carry.specs.Rows as carry
use Rattle.carry.specs.Rows.{Shape, carries, begins}
use Rattle.functions.specs.Rows as functions
use Rattle.mip.specs.Rows as mip

pub data Row : Type 0 where
  -- payload_len in bits, and the bytes of the whole packet
  totals : ℕ → ℕ → Row
  -- the lengths of a batch's packets; of each transport packet what it carries (`begins` with its pointer), and its bytes
  -- of adaptation field
  batch : List ℕ → List Shape → List ℕ → Row
  -- the two bytes of a time offset, and its value
  time_offset : ℕ → ℕ → ℤ → Row
  -- stamp, maximum delay and offset, and the emission time
  emission : ℕ → ℕ → ℤ → ℕ → Row
  -- stamp, maximum delay, offset and reception time, and the extra delay
  extra_delay : ℕ → ℕ → ℤ → ℕ → ℕ → Row

abbrev minus : ℕ → ℤ
minus n = neg_ℤ (pos n)

abbrev pub rows : List Row
rows =
    -- payload_len 0, 1, 8, 9, 65,535: totals 10, 11, 11, 12, 8,202
    totals 0 10
    ∷ totals 1 11
    ∷ totals 8 11
    ∷ totals 9 12
    ∷ totals 65535 8202
    -- one 10-byte packet: one transport packet, adaptation field of 173 bytes
    ∷ batch (10 ∷ []) (begins 0 10 ∷ []) (173 ∷ [])
    -- 365 + 10 bytes: pointer 182 in the second, three packets
    ∷ batch (365 ∷ 10 ∷ []) (begins 0 183 ∷ begins 182 183 ∷ carries 9 ∷ []) (0 ∷ 0 ∷ 175 ∷ [])
    -- 366 + 10: second has a one-byte adaptation field; three packets
    ∷ batch (366 ∷ 10 ∷ []) (begins 0 183 ∷ carries 183 ∷ begins 0 10 ∷ []) (0 ∷ 1 ∷ 173 ∷ [])
    -- 8,202 alone: 45 packets
    ∷ batch (8202 ∷ []) (begins 0 183 ∷ (replicate 43 (carries 184) ++ (carries 107 ∷ []))) (replicate 44 0 ++ (77 ∷ []))
    -- eighteen 10-byte packets: one; nineteen: two
    ∷ batch (replicate 18 10) (begins 0 180 ∷ []) (3 ∷ [])
    ∷ batch (replicate 19 10) (begins 0 183 ∷ carries 7 ∷ []) (0 ∷ 177 ∷ [])
    -- time offset 80 00 is −32,768; FF FF is −1
    ∷ time_offset 0x80 0x00 (minus 32768)
    ∷ time_offset 0xFF 0xFF (minus 1)
    -- stamp 9,999,999, delay 1, offset 0: emission 0. Stamp 0, delay 0, offset −1: 9,999,999
    ∷ emission 9999999 1 (pos 0) 0
    ∷ emission 0 0 (minus 1) 9999999
    -- stamp 0, delay 0, offset 0, reception 5: extra delay 9,999,995
    ∷ extra_delay 0 0 (pos 0) 5 9999995
    ∷ []

abbrev pub Holds : Row → Type 0
Holds (totals bits total) = packet.Holds (record { bits = bits; total = total })
Holds (batch lengths shapes rooms) = carry.Holds (record { lengths = lengths; shapes = shapes; rooms = rooms })
Holds (time_offset high low offset) = functions.Holds (record { body = high ∷ low ∷ []; offset = offset })
Holds (emission stamp delay offset steps) = mip.Holds (mip.emission stamp delay offset steps)
Holds (extra_delay stamp delay offset reception steps) = mip.Holds (mip.extra_delay stamp delay offset reception steps)

abbrev pub AllHold : List Row → Type 0
AllHold [] = Unit
AllHold (r ∷ rs) = Holds r × AllHold rs
