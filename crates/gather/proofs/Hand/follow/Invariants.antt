-- What follows from the loop's place on, with what is already counted, is what followed from the start.
use lib.ListN.{length}
use mathlib.Core.Path.{◌≡◌}
use Prim.Native.Nat.{◌+◌, ◌≤◌}
use Rattle.gather.specs.Phases.{in_hand_of, followed_of}
use Rattle.gather.proofs.Hand.follow.Given as goal

abbrev pub invariant-loop-self : goal.invariant-loop-self
invariant-loop-self l =
    (l.self.gathering.ghost_name ≡ l.initial.self.gathering.ghost_name)
    × (l.self.output.ghost_name ≡ l.initial.self.output.ghost_name)
    × (l.self.bytes + length l.rest ≤ length l.self.output.now) × (length l.self.output.now ≡ length l.initial.self.output.now) × (l.self.packets + length l.rest ≤ 184) × (l.self.bytes + length l.rest ≤ 8385)
    × (followed_of l.rest (in_hand_of l.self) ≡ followed_of l.initial.rest (in_hand_of l.initial.self))

abbrev pub decreases-loop-self : goal.decreases-loop-self
decreases-loop-self l = length l.rest
