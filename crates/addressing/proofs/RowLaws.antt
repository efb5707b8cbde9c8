-- The rows hold, by computing.
-- Assumes nothing.
use mathlib.Core.Path.{refl}
use Rattle.functions.specs.Tags.{body_wrong, value_reserved, bandwidth_reserved}
use Rattle.fields.specs.Formats.{unpack}
use Rattle.refusals.specs.Answers.{answer}
use Rattle.addressing.specs.Data.{entries_by, entries_in, group_checks, function_checks, functions_of, fault_in, fault_of}
use Rattle.addressing.specs.Rows.{rows, AllHold, walks, AllWalk}
use Rattle.addressing.specs.Walk.{heard_of, functions_for, ends_at, reached, step_in, walk_checks, walk_of}

pub rows-hold : AllHold rows
unfolding fault_of fault_in entries_in entries_by group_checks function_checks body_wrong value_reserved bandwidth_reserved unpack
rows-hold =
    (refl, (refl, (refl, (refl, (refl, (refl, (refl, (refl, (refl, (refl, (refl, (refl, (refl, (refl, tt))))))))))))))

pub walks-hold : AllWalk walks
unfolding walk_of walk_checks reached ends_at step_in functions_for functions_of heard_of answer fault_of fault_in entries_in entries_by group_checks function_checks body_wrong value_reserved bandwidth_reserved unpack
walks-hold = (refl, (refl, (refl, (refl, (refl, (refl, (refl, (refl, (refl, (refl, (refl, (refl, tt))))))))))))
