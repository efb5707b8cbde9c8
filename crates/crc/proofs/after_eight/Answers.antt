-- Four bytes are added to all of the register, and go through the zero digits that the other four take the place of.
use Rattle.std.proofs.Common.{◌≡◌, ◌∙◌, length, ap₂, rules, arith}
use lib.Bits.{bit_xor}
use Rattle.crc.proofs.TableLaws.{number-four, run_of_eight}
use Rattle.crc.proofs.after_eight.Goals as goal

pub returns : goal.returns
returns c =
    let l = c.args.bytes.now in
    let eight : length l ≡ 8 = search rules in
    ap₂ bit_xor c.after_zeros.ensures c.after_zeros-2.ensures
    ∙ run_of_eight c.args.register l _ _ c.ranges.register.fits (search rules) eight
    (omega (arith, c.from_be_bytes-first.ensures, number-four 0 l (omega arith)))
    (omega (arith, c.from_be_bytes-second.ensures, number-four 4 l (omega arith)))
