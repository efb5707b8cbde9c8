-- Where packets before n end, what is left is that of the bytes still to go; where one ends behind, it is what it is longer.
use Rattle.std.proofs.Common.{◌≡◌, ◌-◌, ◌≤◌, drop}
use Rattle.carry.specs.OnBytes.{left_of}
use Rattle.carry.proofs.left_after.Given as goal

abbrev pub invariant-loop-end : goal.invariant-loop-end
invariant-loop-end l =
    (l.end ≤ l.bytes → left_of (l.bytes - l.end) (drop l.end l.batch) ≡ left_of l.bytes l.batch) × (l.bytes ≤ l.end → l.end - l.bytes ≡ left_of l.bytes l.batch)

abbrev pub decreases-loop-end : goal.decreases-loop-end
decreases-loop-end l = l.bytes - l.end
