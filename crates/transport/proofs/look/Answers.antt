-- `transport::look` meets its contract: not 188 bytes, refused by what was read, or what was read.
use mathlib.Core.Path.{sym, ap, ◌∙◌}
use Rattle.transport.specs.Header.{head_of}
use Rattle.transport.specs.Look.{stands_in}
use Rattle.transport.proofs.LookLaws.{look-short, look-exit, look-taken}
use Rattle.transport.proofs.look.Goals as goal

pub returns-in_default : goal.returns-in_default
returns-in_default c =
    let a = c.args in
    look-short a.pid a.t.now c.in_default.ensures.cases

pub returns-in_err-check : goal.returns-in_err-check
returns-in_err-check c =
    let a = c.args in
    let whole = c.in-Some.ensures.cases in
    look-exit a.pid a.t.now whole.long _ _ c.from_residual.ensures.1
    (c.in_err-check.ensures a.t.now (c.head_of-head.ensures ∙ ap head_of whole.same) (c.read-seen.ensures ∙ ap stands_in whole.same))

pub returns : goal.returns
returns c =
    let a = c.args in
    let whole = c.in-Some.ensures.cases in
    let seen = c.read-seen.ensures ∙ ap stands_in whole.same in
    seen ∙ sym (look-taken a.pid a.t.now whole.long (sym (c.in_ok-check.ensures a.t.now (c.head_of-head.ensures ∙ ap head_of whole.same) seen)))
