-- `carry::check_carry` meets its contract: a chain of early returns in the order of the definition's list.
use borrow.Author.Tests.{lt-ltb, le-ltb, eq-eqb, ne_eqb}
use lib.ListN.{length}
use mathlib.Core.Path.{◌≡◌, sym, ap, ◌∙◌}
use mathlib.Core.Bool.{not}
use mathlib.Core.List.{List}
use Prim.Native.Nat.{ℕ, ◌*◌}
use Rattle.refusals.specs.Checks.{Check}
use Rattle.refusals.proofs.CheckLaws.{Clear, first-at, first-none}
use Rattle.refusals.proofs.AnswerLaws.{code-exit}
use Rattle.refusals.proofs.NumberLaws.{number-not-0}
use Rattle.carry.proofs.BatchLaws.{loads-same}
use Rattle.carry.specs.Carry.{loads, carry_checks}
use Rattle.carry.proofs.check_carry.Goals as goal
use Rattle.carry.proofs.check_carry.Goals.{After-needed-size, Else-batch-gt65536, In_ok-check_batch, Else-first_count-gt15, Else-pid_outside, Else-room-size, Start}

abbrev checks : Start → List Check
checks c = carry_checks c.args.pid c.args.first_count c.args.batch.now c.args.room

-- what the batch needs, counted over its bytes
size_is : (c : After-needed-size) → 188 * c.needed-size.result ≡ 188 * length (loads c.args.batch.now)
size_is c =
    ap (λ (n : ℕ). 188 * n)
    (c.needed-size.ensures.0 ∙ ap length (loads-same c.args.batch.now (sym c.in_ok-check_batch.ensures)))

past1 : (c : Else-pid_outside) → Clear 1 (checks (goal.at.Else-pid_outside c).Start)
unfolding carry_checks
past1 c = (tt, sym c.pid_outside.ensures ∙ c.if-pid_outside.false)

past2 : (c : Else-first_count-gt15) → Clear 2 (checks (goal.at.Else-first_count-gt15 c).Start)
unfolding carry_checks
past2 c = (past1 (goal.at.Else-first_count-gt15 c).Else-pid_outside, le-ltb _ _ c.if-first_count-gt15.false)

past3 : (c : Else-batch-gt65536) → Clear 3 (checks (goal.at.Else-batch-gt65536 c).Start)
unfolding carry_checks
past3 c = (past2 (goal.at.Else-batch-gt65536 c).Else-first_count-gt15, le-ltb _ _ c.if-batch-gt65536.false)

past4 : (c : In_ok-check_batch) → Clear 4 (checks (goal.at.In_ok-check_batch c).Start)
unfolding carry_checks
past4 c = (past3 (goal.at.In_ok-check_batch c).Else-batch-gt65536, ap not (eq-eqb _ _ (sym c.in_ok-check_batch.ensures)))

past5 : (c : Else-room-size) → Clear 5 (checks (goal.at.Else-room-size c).Start)
unfolding carry_checks
past5 c = (past4 (goal.at.Else-room-size c).In_ok-check_batch, le-ltb _ _ (rw (size_is (goal.at.Else-room-size c).After-needed-size) at c.if-room-size.false))

pub returns-then-pid_outside : goal.returns-then-pid_outside
unfolding carry_checks
returns-then-pid_outside c =
    first-at 0 (checks (goal.at.returns-then-pid_outside c).Start) tt (sym c.pid_outside.ensures ∙ c.if-pid_outside.true)

pub returns-then-first_count-gt15 : goal.returns-then-first_count-gt15
unfolding carry_checks
returns-then-first_count-gt15 c =
    first-at 1 (checks (goal.at.returns-then-first_count-gt15 c).Start) (past1 (goal.at.returns-then-first_count-gt15 c).Else-pid_outside) (lt-ltb _ _ c.if-first_count-gt15.true)

pub returns-then-batch-gt65536 : goal.returns-then-batch-gt65536
unfolding carry_checks
returns-then-batch-gt65536 c =
    first-at 2 (checks (goal.at.returns-then-batch-gt65536 c).Start) (past2 (goal.at.returns-then-batch-gt65536 c).Else-first_count-gt15) (lt-ltb _ _ c.if-batch-gt65536.true)

pub returns-in_err-check_batch : goal.returns-in_err-check_batch
unfolding carry_checks
returns-in_err-check_batch c =
    let e = c.in_err-check_batch.ensures in
    code-exit _ _ c.from_residual.ensures.1 ∙ e ∙ first-at 3 (checks (goal.at.returns-in_err-check_batch c).Start) (past3 (goal.at.returns-in_err-check_batch c).Else-batch-gt65536) (ap not (ne_eqb _ _ (λ z. number-not-0 _ (e ∙ z))))

pub returns-then-room-size : goal.returns-then-room-size
unfolding carry_checks
returns-then-room-size c =
    first-at 4 (checks (goal.at.returns-then-room-size c).Start) (past4 (goal.at.returns-then-room-size c).In_ok-check_batch) (lt-ltb _ _ (rw (size_is (goal.at.returns-then-room-size c).After-needed-size) at c.if-room-size.true))

pub returns : goal.returns
unfolding carry_checks
returns c =
    first-none (checks (goal.at.returns c).Start) (past5 c)
