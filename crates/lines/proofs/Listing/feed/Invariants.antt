-- `lines::Listing::feed` meets its contract: feeding what is left from the loop's place on is feeding all from the start.
use lib.ListN.{length}
use mathlib.Core.Path.{◌≡◌}
use Prim.Native.Nat.{◌+◌}
use Rattle.lines.specs.Pieces.{pieces}
use Rattle.lines.specs.Listing.{fed_of}
use Rattle.lines.proofs.Listing.feed.Given as goal

abbrev pub invariant-loop-piece : goal.invariant-loop-piece
invariant-loop-piece l =
    let before = l.initial.text in
    (l.piece-iterator.size ≡ 188) × (l.taken + length l.piece-iterator.rest.now ≡ length l.block) × (l.text.lines.ghost_name ≡ before.lines.ghost_name)
    × (fed_of (pieces l.piece-iterator.rest.now) l.self l.gathering l.output l.text.lines.now l.taken l.text.at ≡ fed_of (pieces l.block) l.initial.self l.initial.gathering l.initial.output before.lines.now 0 before.at)
