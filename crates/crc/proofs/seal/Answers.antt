-- The four bytes of the CRC are laid behind the first n.
use Rattle.std.proofs.Common.{◌≡◌, ◌∙◌, ◌+◌, ◌-◌, ◌≤◌, length, take, ap, sym}
use borrow.Author.Tests.{leb-true}
use borrow.Rule.Slice.PartMut.{put_mid}
use Rattle.fields.proofs.NumberLaws.{four_be_bytes, length-bytes}
use Rattle.fields.proofs.PartLaws.{written-part}
use Rattle.fields.specs.Numbers.{bytes}
use Rattle.crc.proofs.OwnLaws.{sealed-at}
use Rattle.crc.specs.Crc.{crc_of}
use Rattle.crc.proofs.seal.Goals as goal

pub returns-then-within : goal.returns-then-within
returns-then-within c =
    let n = c.args.n in
    let out = c.args.out.now in
    let room : n + 4 ≤ length out = leb-true _ _ (sym c.within.ensures ∙ c.if-within.true) in
    let four : c.copy_from_slice.new.self ≡ bytes 4 (crc_of (take n out)) =
    c.copy_from_slice.ensures.after ∙ c.to_be_bytes.ensures ∙ four_be_bytes c.crc-sum.result ∙ ap (bytes 4) c.crc-sum.ensures in
    ap (put_mid n (n + 4 - n) out) four
    ∙ written-part n 4 (bytes 4 (crc_of (take n out))) out (length-bytes 4 (crc_of (take n out)))
    ∙ sym (sealed-at n out room)
