-- The loads of a batch without a fault, and what is known of a batch that is carried.
-- Assumes nothing.
use mathlib.Core.Path.{◌≡◌, sym, ap, ◌∙◌}
use mathlib.Core.Bool.{false}
use mathlib.Core.List.{List}
use Prim.Native.Nat.{ℕ, ◌*◌, ◌≤◌, ◌<◌}
use native.Mathlib.Omega.{arith}
use lib.ListN.{length}
use borrow.Author.Tests.{ltb-false}
use Rattle.packet.specs.Cut.{batch_fault}
use Rattle.packet.proofs.BatchLaws.{sound}
use Rattle.refusals.specs.Checks.{first}
use Rattle.refusals.proofs.CheckLaws.{none-holds, not_found}
use Rattle.transport.specs.Tests.{pid_outside}
use Rattle.carry.specs.Carry.{packets_of, loads, carry_checks}
use Rattle.carry.specs.OnBytes.{loads_from}
use Rattle.carry.proofs.ByteLaws.{batch-bytes}

-- its loads, over its bytes and over its packets
pub loads-same : (batch : List ℕ) → batch_fault batch ≡ 0 → loads_from 0 batch ≡ loads batch
loads-same batch h =
    let s = sound batch h in
    ap (loads_from 0) (sym s.bytes) ∙ batch-bytes (packets_of batch) s.whole

-- ---- what is known of a batch that is carried

pub record Carriable (pid first_count : ℕ) (batch : List ℕ) (room : ℕ) : Type 0 where
  pub pid-good : pid_outside pid ≡ false
  pub count-good : first_count < 16
  pub short : length batch ≤ 65536
  pub good : batch_fault batch ≡ 0
  pub roomy : 188 * length (loads batch) ≤ room

pub carriable : (pid first_count : ℕ) (batch : List ℕ) (room : ℕ) → first (carry_checks pid first_count batch room) ≡ 0 → Carriable pid first_count batch room
unfolding carry_checks
carriable pid first_count batch room h =
    let n = none-holds (carry_checks pid first_count batch room) tt h in
    record {
      pid-good = n.0;
      count-good = omega (arith, ltb-false 15 first_count n.1.0);
      short = ltb-false _ _ n.1.1.0;
      good = not_found (batch_fault batch) n.1.1.1.0;
      roomy = ltb-false _ _ n.1.1.1.1.0;
    }
