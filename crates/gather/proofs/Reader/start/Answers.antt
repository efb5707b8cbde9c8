-- `gather::Reader::start` meets its contract: refused by the one check, or fresh.
use mathlib.Core.Path.{sym, ◌∙◌}
use Rattle.refusals.specs.Answers.{answer}
use Rattle.gather.specs.State.{start_of}
use Rattle.gather.proofs.Reader.start.Goals as goal

pub returns-then-pid_outside : goal.returns-then-pid_outside
unfolding start_of answer
returns-then-pid_outside c = rw (sym c.pid_outside.ensures ∙ c.if-pid_outside.true)

pub returns : goal.returns
unfolding start_of answer
returns c = rw (sym c.pid_outside.ensures ∙ c.if-pid_outside.false)
