-- Bytes, then their CRC: how every format that has one ends.
use Rattle.std.specs.Prelude.{ℕ, ◌+◌, cond, List, ◌++◌, leb, length, take}
use Rattle.fields.specs.Numbers.{bytes}
use Rattle.fields.specs.Parts.{overlay}
use Rattle.crc.specs.Crc.{crc_of}

-- the bytes, and behind them their CRC, top byte first
unfoldable pub sealed : List ℕ → List ℕ
sealed l = l ++ bytes 4 (crc_of l)

-- the CRC of the first n bytes laid behind them: nothing where it has no room
unfoldable pub sealed_at : ℕ → List ℕ → List ℕ
sealed_at n l = cond (leb (n + 4) (length l)) (overlay n (bytes 4 (crc_of (take n l))) l) l
