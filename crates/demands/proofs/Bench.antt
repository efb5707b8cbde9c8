-- The bench rows of 01 hold: each crate has proved its own, and they stand here one after another.
-- Assumes nothing.
use mathlib.Core.List.{List, [], ◌∷◌, ◌++◌}
use lib.ListN.{take, drop}
use Rattle.packet.proofs.Bench as packet
use Rattle.carry.proofs.Bench as carry
use Rattle.functions.proofs.Bench as functions
use Rattle.mip.proofs.Bench as mip
use Rattle.demands.specs.Bench.{Row, rows, AllHold}

behind : (rs ss : List Row) → AllHold rs → AllHold ss → AllHold (rs ++ ss)
behind [] ss h i = i
behind (r ∷ rs) ss h i = (h.0, behind rs ss h.1 i)

-- five rows of totals, six of batches, two of time offsets, three of site timing
pub bench : AllHold rows
bench =
    behind (take 5 rows) (drop 5 rows) packet.bench
    (behind (take 6 (drop 5 rows)) (drop 11 rows) carry.bench
    (behind (take 2 (drop 11 rows)) (drop 13 rows) functions.bench mip.bench))
