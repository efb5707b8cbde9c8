-- `mip::writing::field_too_wide` meets its contract: of the fields, four have fewer bits than the types that hold them.
use Rattle.std.proofs.Common.{rules, tests}
use mathlib.Core.Path.{◌∙◌}
use Rattle.mip.proofs.FieldLaws.{wide-four}
use Rattle.mip.proofs.writing.field_too_wide.Goals as goal

pub returns-then-m-gt16777215 : goal.returns-then-m-gt16777215
returns-then-m-gt16777215 c = search (rules, tests) ∙ wide-four c.args.m (search rules) (search rules)

pub returns-else-m-gt16777215 : goal.returns-else-m-gt16777215
returns-else-m-gt16777215 c = search (rules, tests) ∙ wide-four c.args.m (search rules) (search rules)
