-- `stamp::reserved_set` meets its contract: the four bits stand above the last 44 of the first half.
use borrow.Author.Rules.{rules}
use lib.Dec.{eqb}
use mathlib.Core.Path.{sym, ap, ◌∙◌}
use mathlib.Core.Bool.{not}
use Prim.Native.Nat.{ℕ, ◌/◌, ◌%◌, ◌^◌}
use Rattle.stamp.proofs.FieldLaws.{reserved-half}
use Rattle.stamp.proofs.reserved_set.Goals as goal

pub returns : goal.returns
returns c =
    ap (λ (x : ℕ). not (eqb x 0))
    (ap (λ (x : ℕ). x / 2 ^ 44 % 16) c.number_at-front.ensures
    ∙ sym (reserved-half c.args.payload.now c.fits-payload (search rules)))
