-- After i turns the first i of the bytes are laid.
use Rattle.std.proofs.Common.{◌≡◌, take}
use Rattle.fields.specs.Parts.{overlay}
use Rattle.fields.proofs.copy.Given as goal

abbrev pub invariant-loop-i : goal.invariant-loop-i
invariant-loop-i l = l.dst ≡ overlay l.at (take l.i l.b-items) l.initial.dst
