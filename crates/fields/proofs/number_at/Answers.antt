-- The fold gives the number of the part, which has no more than eight bytes.
use Rattle.std.proofs.Common.{◌≡◌, ◌∙◌, ◌≤◌, ◌+◌, length, sym, rules, arith}
use Rattle.std.specs.List.{fold}
use borrow.Author.Tests.{leb-true}
use Rattle.fields.proofs.NumberLaws.{taken_in, number_of_fold}
use Rattle.fields.proofs.PartLaws.{length_part, part_bytes, number-at}
use Rattle.fields.specs.Numbers.{Bytes}
use Rattle.fields.specs.Parts.{part}
use Rattle.fields.proofs.number_at.Goals as goal

pub returns : goal.returns
unfolding part
returns c =
    let a = c.args in
    let s = a.s.now in
    let bytes : Bytes s = λ i. (c.type_inv.s i).fits in
    let room : a.at + a.n ≤ length s = leb-true _ _ (sym c.within.ensures ∙ c.if-not-within.false) in
    let folded : c.fold.result ≡ fold taken_in 0 (part a.at a.n s) = search rules in
    folded
    ∙ number_of_fold _ (part_bytes a.at a.n s bytes) (omega (arith, length_part a.at a.n s))
    ∙ sym (number-at a.at a.n s room c.if-n-gt8.false)
