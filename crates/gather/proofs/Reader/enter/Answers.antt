-- `gather::Reader::enter` meets its contract: each return is one case of rule 1.
use borrow.Author.Rules.{rules}
use lib.Seq.{length-take-le}
use mathlib.Core.Path.{sym, ap, ◌∙◌}
use mathlib.Core.List.{List}
use Prim.Native.Nat.{ℕ}
use Rattle.packet.specs.Cut.{joined}
use Rattle.gather.specs.Rules.{Hand}
use Rattle.gather.specs.Gather.{in_hand}
use Rattle.gather.specs.Phases.{Numbers, InHand, lost_in, misfits_in, numbers}
use Rattle.gather.specs.declared.Marks.{Marks}
use Rattle.gather.specs.declared.Reader.{Reader}
use Rattle.gather.proofs.EnterLaws.{unmarked, rule-lost, rule-altered, rule-kept}
use Rattle.gather.proofs.Reader.enter.Goals as goal

-- the numbers that a call begins with, under the marks m
abbrev begun : Reader → Marks → Numbers
begun s m = record { in_step = s.in_step; waiting = s.waiting; bytes = 0; packets = 0; marks = m }

-- these numbers, over the two buffers
abbrev over : List ℕ → List ℕ → Numbers → InHand
over g o n = record { held = n; gathering = g; output = o }

pub returns-then-out_of_turn-clause-holds : goal.returns-then-out_of_turn-clause-holds
unfolding joined
returns-then-out_of_turn-clause-holds c =
    let a = c.args in
    c.lost.ensures.2
    ∙ ap (λ (m : Marks). over a.gathering.now a.output.now (lost_in (begun a.self m))) (unmarked c.default.result c.default.ensures)
    ∙ ap (λ (h : Hand). over a.gathering.now a.output.now (numbers h)) (sym (rule-lost a.self.last a.count (in_hand a.self a.gathering.now) (sym c.out_of_turn.ensures ∙ c.if-out_of_turn.true)))

pub returns-then-reached-clause-holds : goal.returns-then-reached-clause-holds
unfolding joined
returns-then-reached-clause-holds c =
    let a = c.args in
    c.misfits.ensures.2
    ∙ ap (λ (m : Marks). over a.gathering.now a.output.now (misfits_in (begun a.self m))) (unmarked c.default.result c.default.ensures)
    ∙ ap (λ (h : Hand). over a.gathering.now a.output.now (numbers h)) (sym (rule-altered a.self.last a.count (in_hand a.self a.gathering.now) (sym c.out_of_turn.ensures ∙ c.if-out_of_turn.false) (rw c.front.ensures at (sym c.reached.ensures ∙ c.if-reached.true))))

pub returns-else-reached-clause-holds : goal.returns-else-reached-clause-holds
unfolding joined
returns-else-reached-clause-holds c =
    let a = c.args in
    ap (λ (m : Marks). over a.gathering.now a.output.now (begun a.self m)) (unmarked c.default.result c.default.ensures)
    ∙ rw (rule-kept a.self.last a.count (in_hand a.self a.gathering.now) (sym c.out_of_turn.ensures ∙ c.if-out_of_turn.false) (rw c.front.ensures at (sym c.reached.ensures ∙ c.if-reached.false)), length-take-le a.self.waiting a.gathering.now (search rules))
