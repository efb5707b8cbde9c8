-- `lines::lay_lines` meets its contract: laying the lines of what is left is laying all from the start.
use lib.ListN.{length}
use mathlib.Core.Path.{◌≡◌}
use Prim.Native.Nat.{◌+◌, ◌*◌, ◌≤◌}
use Rattle.packet.specs.Cut.{cut, joined}
use Rattle.text.specs.Laid.{laid}
use Rattle.lines.specs.Lines.{lines_of}
use Rattle.lines.proofs.lay_lines.Given as goal

abbrev pub invariant-loop-packet : goal.invariant-loop-packet
invariant-loop-packet l =
    let t = l.text in
    let ps = (cut l.packet-iterator.rest.now).packets in
    (t.at + 2 * length (joined ps) ≤ length t.lines.now) × (t.lines.ghost_name ≡ l.initial.text.lines.ghost_name) × (laid (lines_of ps) t.at t.lines.now ≡ laid (lines_of (cut l.s).packets) l.initial.text.at l.initial.text.lines.now)
