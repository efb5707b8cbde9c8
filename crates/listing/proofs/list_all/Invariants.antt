-- `listing::list_all`, between two turns: some run came to this state, and the first `have` bytes of the block wait.
use lib.ListN.{length, take}
use Prim.Native.Nat.{◌≤◌}
use Rattle.lines.specs.Theorems.{opened, Reached}
use Rattle.listing.proofs.list_all.Given as goal

abbrev pub invariant-loop : goal.invariant-loop
invariant-loop g l =
    (l.have ≤ length l.block) × Reached (opened l.initial.gathering l.initial.output l.initial.text.lines.now) l.listing l.gathering l.output l.text.lines.now (take l.have l.block)
