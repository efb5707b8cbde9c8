-- A byte by its two digits.
use Rattle.std.proofs.Common.{ℕ, ◌∙◌, ◌*◌, ◌/◌, ◌%◌, ◌^◌, sym, ap, ap₂}
use lib.Bits.{bit_xor}
use Rattle.crc.proofs.TableLaws.{feed-byte}
use Rattle.crc.proofs.after_byte.Goals as goal

pub returns : goal.returns
returns c =
    let r = c.args.register in
    let top = bit_xor (r / 2 ^ 24) in
    ap (λ (x : ℕ). bit_xor x (r * 2 ^ 8 % 2 ^ 32)) (ap₂ bit_xor c.look.ensures c.look-2.ensures)
    ∙ sym (feed-byte r c.args.b (top c.from.result) c.ranges.register.fits c.ranges.b.fits (ap top c.from.ensures))
