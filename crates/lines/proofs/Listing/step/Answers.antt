-- `lines::Listing::step` meets its contract: with room, the reader's call, the lines of what it wrote, and the totals.
use borrow.Author.Tests.{leb-true}
use lib.ListN.{length}
use lib.Seq.{length-take-le}
use mathlib.Core.Path.{◌≡◌, sym, ap, ◌∙◌}
use mathlib.Core.Bool.{true}
use Prim.Native.Nat.{◌+◌, ◌*◌, ◌≤◌}
use native.Mathlib.Omega.{arith}
use Rattle.gather.specs.Gather.{Outcome, gathered_told}
use Rattle.gather.proofs.CallLaws.{call-within}
use Rattle.gather.proofs.EnterLaws.{unmarked}
use Rattle.lines.specs.Listing.{roomy}
use Rattle.lines.proofs.StepLaws.{Gives, gives, step-full, step-given}
use Rattle.lines.proofs.Listing.step.Goals as goal
use Rattle.lines.proofs.Listing.step.Goals.{After-unwrap_or_default-call, Else-not-has_room}

-- there is room
spacious : (k : Else-not-has_room) → roomy k.args.text.now.at (length k.args.output.now) (length k.args.text.now.lines.now) ≡ true
spacious k = sym k.has_room.ensures ∙ k.if-not-has_room.false

room : (k : Else-not-has_room) → k.args.text.now.at + 2 * length k.args.output.now ≤ length k.args.text.now.lines.now
unfolding roomy
room k = leb-true _ _ (spacious k)

-- what the call gave
given : (m : After-unwrap_or_default-call) → Gives (gathered_told m.gather.new.self m.gather.result) m.gather.new.self m.unwrap_or_default-call.result
given m =
    gives m.gather.result _ m.unwrap_or_default-call.result m.gather.new.self m.unwrap_or_default-call.ensures (λ h. (h.0, h.1.0, unmarked m.unwrap_or_default-call.result.marks h.1.1))

-- what the reader wrote lies in the output
inside : (m : After-unwrap_or_default-call) → m.unwrap_or_default-call.result.bytes ≤ length m.gather.new.output
inside m =
    let a = m.args in
    rw (sym (given m).bytes ∙ ap (λ (x : Outcome). x.answer.bytes) m.gather.ensures, ap (λ (x : Outcome). x.output) m.gather.ensures)
    (call-within a.self.now.reader a.transport.now a.gathering.now a.output.now)

pub returns-then-not-has_room-clause-stepped : goal.returns-then-not-has_room-clause-stepped
returns-then-not-has_room-clause-stepped c =
    let a = c.args in
    sym (step-full a.self.now a.transport.now a.gathering.now a.output.now a.text.now.lines.now a.text.now.at (sym c.has_room.ensures ∙ c.if-not-has_room.true))

pub slice_bounds-lay_lines-end : goal.slice_bounds-lay_lines-end
slice_bounds-lay_lines-end c = inside (goal.at.slice_bounds-lay_lines-end c).After-unwrap_or_default-call

pub slice_bounds-lay_lines-end-2 : goal.slice_bounds-lay_lines-end-2
slice_bounds-lay_lines-end-2 c =
    sym (length-take-le c.unwrap_or_default-call.result.bytes c.gather.new.output (inside (goal.at.slice_bounds-lay_lines-end-2 c).After-unwrap_or_default-call))

pub lay_lines-requires : goal.lay_lines-requires
lay_lines-requires c =
    let m = (goal.at.lay_lines-requires c).After-unwrap_or_default-call in
    omega (arith, room (goal.at.lay_lines-requires c).Else-not-has_room, inside m, c.gather.auto, length-take-le c.unwrap_or_default-call.result.bytes c.gather.new.output (inside m))

pub returns-clause-stepped : goal.returns-clause-stepped
returns-clause-stepped c =
    let a = c.args in
    let t = a.text.now in
    let m = (goal.at.returns-clause-stepped c).After-unwrap_or_default-call in
    step-given a.self.now a.transport.now a.gathering.now a.output.now t.lines.now t.at _ _ _ c.gather.ensures _ _ (given m) _ _ _ (spacious (goal.at.returns-clause-stepped c).Else-not-has_room) c.lay_lines.ensures.1 c.count.ensures
