-- The last bytes of all eight are laid.
use Rattle.std.proofs.Common.{◌≡◌, ◌∙◌, ◌+◌, ◌-◌, ◌≤◌, length, ap, sym}
use borrow.Author.Tests.{leb-true}
use borrow.Rule.Slice.PartMut.{put_mid}
use Rattle.fields.proofs.NumberLaws.{last_bytes, length-bytes}
use Rattle.fields.proofs.PartLaws.{written-part, stored-at}
use Rattle.fields.specs.Numbers.{bytes}
use Rattle.fields.proofs.store_at.Goals as goal

pub returns : goal.returns
returns c =
    let a = c.args in
    let room : a.at + a.n ≤ length a.dst.now = leb-true _ _ (sym c.within.ensures ∙ c.if-not-within.false) in
    let last : c.copy_from_slice.new.self ≡ bytes a.n a.v =
    c.copy_from_slice.ensures.after ∙ last_bytes a.n a.v c.to_be_bytes.result c.to_be_bytes.ensures c.if-n-gt8.false in
    ap (put_mid a.at (a.at + a.n - a.at) a.dst.now) last
    ∙ written-part a.at a.n (bytes a.n a.v) a.dst.now (length-bytes a.n a.v)
    ∙ sym (stored-at a.at a.n a.v a.dst.now room c.if-n-gt8.false)
