-- `gather::Reader::check` meets its contract: a chain of early returns in the order of the definition's list, 5 to 11 by what a
-- look told.
use borrow.Author.Tests.{eq-eqb, ne_eqb, lt-ltb, le-ltb}
use mathlib.Core.Path.{◌≡◌, sym, ap, ◌∙◌}
use mathlib.Core.Bool.{Bool, true, false, cond, not}
use mathlib.Core.List.{List}
use Prim.Native.Nat.{ℕ}
use Rattle.std.proofs.lemmas.Result.{err_from_is_err_and}
use Rattle.refusals.specs.Checks.{Check, first}
use Rattle.refusals.specs.Refusals.{number_of}
use Rattle.refusals.proofs.CheckLaws.{Clear, first-at}
use Rattle.refusals.proofs.NumberLaws.{number-not-0}
use Rattle.transport.specs.Header.{count_of}
use Rattle.transport.specs.Tests.{transport_checks}
use Rattle.transport.specs.Look.{Looked, stands_in, seen_told}
use Rattle.transport.proofs.LookLaws.{look-err, look-ok}
use Rattle.gather.specs.State.{repeats, gather_checks}
use Rattle.gather.proofs.RefusalLaws.{carriage-refused, carriage-taken, repeats-is}
use Rattle.gather.proofs.Reader.check.Goals as goal
use Rattle.gather.proofs.Reader.check.Goals.{After-eq, Else-is_unfit, Else-room-lt8202, Else-space-lt8385, Else-t-ne188, In_ok-seen, Start}

abbrev checks : Start → List Check
checks c = gather_checks c.args.self c.args.t.now c.args.room c.args.space

past1 : (c : Else-is_unfit) → Clear 1 (checks (goal.at.Else-is_unfit c).Start)
unfolding gather_checks
past1 c = (tt, sym c.is_unfit.ensures ∙ c.if-is_unfit.false)

past2 : (c : Else-t-ne188) → Clear 2 (checks (goal.at.Else-t-ne188 c).Start)
unfolding gather_checks
past2 c = (past1 (goal.at.Else-t-ne188 c).Else-is_unfit, ap not (eq-eqb _ _ c.if-t-ne188.false))

past3 : (c : Else-room-lt8202) → Clear 3 (checks (goal.at.Else-room-lt8202 c).Start)
unfolding gather_checks
past3 c = (past2 (goal.at.Else-room-lt8202 c).Else-t-ne188, le-ltb _ _ c.if-room-lt8202.false)

-- the state is fit, and the three lengths are enough
refused : (c : Else-space-lt8385) (n : ℕ) → n ≡ first (transport_checks c.args.self.pid c.args.t.now)
    → (n ≡ 0 → ⊥) → n ≡ first (checks (goal.at.Else-space-lt8385 c).Start)
refused c =
    let a = c.args in
    carriage-refused a.self a.t.now a.room a.space
    (sym c.is_unfit.ensures ∙ c.if-is_unfit.false) c.if-t-ne188.false c.if-room-lt8202.false c.if-space-lt8385.false

taken : (c : Else-space-lt8385) (b : Bool) → 0 ≡ first (transport_checks c.args.self.pid c.args.t.now)
    → repeats c.args.self.last (count_of c.args.t.now) ≡ b
    → cond b 12 0 ≡ first (checks (goal.at.Else-space-lt8385 c).Start)
taken c =
    let a = c.args in
    carriage-taken a.self a.t.now a.room a.space
    (sym c.is_unfit.ensures ∙ c.if-is_unfit.false) c.if-t-ne188.false c.if-room-lt8202.false c.if-space-lt8385.false

-- what was found
found : (c : In_ok-seen) → (0 ≡ first (transport_checks c.args.self.pid c.args.t.now)) × (seen_told c.in_ok-seen.seen ≡ stands_in c.args.t.now)
found c = look-ok c.args.self.pid c.args.t.now c.if-t-ne188.false c.in_ok-seen.seen c.in_ok-seen.ensures

-- whether the count is the last one again
again : (c : After-eq) → c.eq.result ≡ repeats c.args.self.last (count_of c.args.t.now)
again c =
    c.eq.ensures ∙ repeats-is c.args.self.last c.in_ok-seen.seen.count ∙ ap (λ (x : Looked). repeats c.args.self.last x.count) (found (goal.at.After-eq c).In_ok-seen).1

pub returns-then-is_unfit : goal.returns-then-is_unfit
unfolding gather_checks
returns-then-is_unfit c =
    (first-at 0 (checks (goal.at.returns-then-is_unfit c).Start) tt (sym c.is_unfit.ensures ∙ c.if-is_unfit.true), tt)

pub returns-then-t-ne188 : goal.returns-then-t-ne188
unfolding gather_checks
returns-then-t-ne188 c =
    (first-at 1 (checks (goal.at.returns-then-t-ne188 c).Start) (past1 (goal.at.returns-then-t-ne188 c).Else-is_unfit) (ap not (ne_eqb _ _ c.if-t-ne188.true)), tt)

pub returns-then-room-lt8202 : goal.returns-then-room-lt8202
unfolding gather_checks
returns-then-room-lt8202 c =
    (first-at 2 (checks (goal.at.returns-then-room-lt8202 c).Start) (past2 (goal.at.returns-then-room-lt8202 c).Else-t-ne188) (lt-ltb _ _ c.if-room-lt8202.true), tt)

pub returns-then-space-lt8385 : goal.returns-then-space-lt8385
unfolding gather_checks
returns-then-space-lt8385 c =
    (first-at 3 (checks (goal.at.returns-then-space-lt8385 c).Start) (past3 (goal.at.returns-then-space-lt8385 c).Else-room-lt8202) (lt-ltb _ _ c.if-space-lt8385.true), tt)

pub returns-in_err-seen : goal.returns-in_err-seen
returns-in_err-seen c =
    let q = err_from_is_err_and c.from_residual.result c.from_residual.ensures.1 in
    let e = c.in_err-seen.field-0.0 in
    rw (q.1, q.2) (refused (goal.at.returns-in_err-seen c).Else-space-lt8385 (number_of e) (look-err c.args.self.pid c.args.t.now c.if-t-ne188.false (number_of e) c.in_err-seen.ensures) (number-not-0 e), tt)

pub returns-then-eq : goal.returns-then-eq
returns-then-eq c =
    (taken (goal.at.returns-then-eq c).Else-space-lt8385 true (found (goal.at.returns-then-eq c).In_ok-seen).0 (sym (again (goal.at.returns-then-eq c).After-eq) ∙ c.if-eq.true), tt)

pub returns : goal.returns
returns c =
    let f = found (goal.at.returns c).In_ok-seen in
    (taken (goal.at.returns c).Else-space-lt8385 false f.0 (sym (again (goal.at.returns c).After-eq) ∙ c.if-eq.false), f.1)
