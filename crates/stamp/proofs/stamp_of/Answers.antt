-- `stamp::stamp_of` meets its contract: each half is divided by the weights that its format gives its fields.
use borrow.Author.Rules.{rules}
use mathlib.Core.Path.{sym, ap₂, ◌∙◌}
use Rattle.stamp.proofs.FieldLaws.{from_halves, stamp-halves}
use Rattle.stamp.proofs.stamp_of.Goals as goal

pub returns : goal.returns
returns c =
    ap₂ from_halves c.number_at-front.ensures c.number_at-back.ensures
    ∙ sym (stamp-halves c.args.payload.now c.fits-payload (search rules))
