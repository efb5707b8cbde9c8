-- The bench rows of 01 for site timing hold, by computing.
-- Assumes nothing.
use mathlib.Core.Path.{refl}
use Rattle.refusals.specs.Answers.{answer}
use Rattle.mip.specs.Timing.{modulo, emission_checks, extra_checks, emission_of, extra_of}
use Rattle.mip.specs.Rows.{rows, AllHold}

pub bench : AllHold rows
unfolding answer modulo emission_checks extra_checks emission_of extra_of
bench = (refl, (refl, (refl, tt)))
