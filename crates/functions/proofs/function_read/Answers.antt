-- `functions::function_read` meets its contract: a refusal with zeros, or the function that tag and body stand for.
use mathlib.Core.Path.{sym}
use Rattle.refusals.proofs.AnswerLaws.{answer-exit}
use Rattle.functions.proofs.Accepted.{readable, read-accepted}
use Rattle.functions.specs.Read.{read_checks, function_read}
use Rattle.functions.proofs.function_read.Goals as goal

pub returns-in_err-check_read : goal.returns-in_err-check_read
unfolding function_read
returns-in_err-check_read c =
    answer-exit (read_checks c.args.tag c.args.body.now) _ _ _ _ _ c.from_residual.ensures.1 c.in_err-check_read.ensures

pub function_of-requires : goal.function_of-requires
function_of-requires c = (readable _ _ (sym c.in_ok-check_read.ensures)).size

pub returns : goal.returns
returns c =
    rw c.function_of.ensures (sym (read-accepted c.args.tag c.args.body.now (sym c.in_ok-check_read.ensures)))
