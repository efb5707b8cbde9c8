-- `mip::writing::check_write` meets its contract: what the test of the times refuses, and what the check of the data does, stand in the
-- definition's list.
use borrow.Author.Tests.{le-ltb, ne_eqb}
use mathlib.Core.Path.{◌≡◌, sym, ap, ◌∙◌}
use mathlib.Core.Bool.{false, not}
use mathlib.Core.List.{[], ◌∷◌}
use lib.Dec.{ltb}
use lib.ListN.{length}
use Rattle.refusals.specs.Checks.{◌when◌}
use Rattle.refusals.proofs.CheckLaws.{first-at, first-front, none-holds}
use Rattle.refusals.proofs.NumberLaws.{number-not-0}
use Rattle.addressing.specs.Data.{Fault, house, fault}
use Rattle.refusals.proofs.AnswerLaws.{code-exit}
use Rattle.mip.proofs.FieldLaws.{wide_alike}
use Rattle.mip.specs.Timing.{time_checks}
use Rattle.mip.specs.Write.{field_wide, write_checks}
use Rattle.mip.proofs.writing.check_write.Goals as goal

pub returns-in_err-check_times : goal.returns-in_err-check_times
unfolding write_checks
returns-in_err-check_times c =
    let a = c.args in
    let e = c.in_err-check_times.ensures in
    let w : field_wide a.m (length a.addressing.now) ≡ false = wide_alike _ _ c.if-addressing-gt163.false ∙ sym c.field_too_wide.ensures ∙ c.if-field_too_wide.false in
    code-exit _ _ c.from_residual.ensures.1
    ∙ (e ∙ sym (rw (le-ltb 163 (length a.addressing.now) c.if-addressing-gt163.false, w) (first-front (time_checks a.m.stamp a.m.delay) (fault house a.addressing.now ∷ 16 when ltb a.room 188 ∷ []) (λ z. number-not-0 _ (e ∙ z)))))

pub returns-in_err-check : goal.returns-in_err-check
unfolding write_checks
returns-in_err-check c =
    let a = c.args in
    let e = ap (λ (f : Fault). f.refusal) c.in_err-check.ensures in
    let w : field_wide a.m (length a.addressing.now) ≡ false = wide_alike _ _ c.if-addressing-gt163.false ∙ sym c.field_too_wide.ensures ∙ c.if-field_too_wide.false in
    let n = none-holds (time_checks a.m.stamp a.m.delay) tt (sym c.in_ok-check_times.ensures) in
    code-exit _ _ c.from_residual-in_err-check.ensures.1
    ∙ (e ∙ first-at 4 (write_checks a.m a.addressing.now a.room) ((((tt, le-ltb _ _ c.if-addressing-gt163.false), w), n.0), n.1.0) (ap not (ne_eqb _ _ (λ z. number-not-0 _ (e ∙ z)))))
