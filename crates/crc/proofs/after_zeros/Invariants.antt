-- The sum so far and what zero digits leave of the digits that are left are what is wanted.
use Rattle.std.proofs.Common.{◌≡◌, ◌+◌, ◌*◌}
use Rattle.crc.specs.Tables.{zeros}
use Rattle.crc.proofs.TableLaws.{with_rest}
use Rattle.crc.proofs.after_zeros.Given as goal

abbrev pub invariant-loop-j : goal.invariant-loop-j
invariant-loop-j l = with_rest l.base l.register l.sum l.j ≡ zeros (4 * (l.base + 8)) l.register
