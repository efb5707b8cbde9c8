-- `mip::reading::lead_of` meets its contract: each number is divided by the weights that its format gives its fields.
use borrow.Author.Rules.{rules}
use lib.ListN.{length}
use mathlib.Core.Path.{◌≡◌, sym, ap₂, ◌∙◌}
use native.Mathlib.Nat.{div-one}
use Rattle.fields.specs.Formats.{unpack}
use Rattle.fields.specs.Parts.{number_at}
use Rattle.mip.proofs.FieldLaws.{header-number, fixed-number, parameter-numbers, from_fields, lead-fields}
use Rattle.mip.proofs.reading.lead_of.Goals as goal

pub returns : goal.returns
unfolding unpack
returns c =
    let p = c.args.packet.now in
    let n : length p ≡ 188 = search rules in
    rw (c.number_at-header.ensures, c.number_at-head.ensures, c.number_at-times.ensures, c.number_at-tail.ensures)
    (sym (lead-fields p
    ∙ ap₂ from_fields (header-number p c.fits-packet n) (parameter-numbers p c.fits-packet n)
    ∙ rw (fixed-number (number_at 0 4 p), div-one (number_at 0 4 p), div-one (number_at 4 6 p), div-one (number_at 10 6 p), div-one (number_at 16 5 p))))
