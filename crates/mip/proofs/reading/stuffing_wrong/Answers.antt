-- `mip::reading::stuffing_wrong` meets its contract: some byte is not 0xFF.
use Rattle.std.proofs.Common.{not, eqb, rules, tests}
use Rattle.std.proofs.lemmas.Iterator.{YieldsList-from_slice}
use Rattle.std.proofs.lemmas.Iterator.Search.{any_from_yields_List}
use Rattle.mip.proofs.FieldLaws.{ones-any}
use Rattle.mip.proofs.reading.stuffing_wrong.Goals as goal
use Prim.Native.Nat.{ℕ}
use mathlib.Core.Path.{◌∙◌}

pub returns : goal.returns
returns c =
    any_from_yields_List (λ (b : ℕ). not (eqb b 0xFF)) _ _ _ c.any.ensures.ran (YieldsList-from_slice c.args.stuffing.now cc) (λ x b q k. search (rules, tests)) ∙ ones-any c.args.stuffing.now
