-- `addressing::pass` meets its contract: what it has seen, with what is left at the cursor, tells of all the data.
use lib.ListN.{length}
use mathlib.Core.Path.{◌≡◌}
use Prim.Native.Nat.{◌-◌, ◌≤◌}
use Rattle.addressing.proofs.CursorLaws.{left_of, told}
use Rattle.addressing.specs.Cursor.{pass_of}
use Rattle.addressing.proofs.pass.Given as goal

abbrev pub invariant-loop-owner : goal.invariant-loop-owner
invariant-loop-owner l =
    (l.c.at ≤ l.c.end) × (l.c.end ≤ length l.«data») × (told (length l.«data») l.seen (left_of l.own l.transmitter l.«data» l.c) ≡ pass_of l.own l.«data» l.transmitter l.place)

abbrev pub decreases-loop-owner : goal.decreases-loop-owner
decreases-loop-owner l = length l.«data» - l.c.at
