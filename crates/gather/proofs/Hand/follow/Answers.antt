-- `gather::Hand::follow` meets its contract.
use lib.ListN.{length, length-drop}
use mathlib.Core.Path.{ap, ◌∙◌}
use Rattle.std.specs.Prelude.{Err}
use Prim.Native.Nat.{◌≤◌}
use native.Mathlib.Omega.{arith}
use Rattle.fields.proofs.PartLaws.{copied-front}
use Rattle.gather.specs.Phases.{InHand, in_hand_of}
use Rattle.gather.proofs.FollowLaws.{followed-short, followed-bad, lies, followed-good}
use Rattle.gather.proofs.StartLaws.{from_on}
use Rattle.gather.proofs.Hand.follow.Goals as goal
use Rattle.gather.proofs.Hand.follow.Goals.{In-Ok}

-- a good packet lies in what is left
good : (u : In-Ok)
    → (10 ≤ u.in-Ok.size) × (u.in-Ok.size ≤ length u.loop-self.rest.now)
good u =
    let l = u.loop-self in
    lies l.rest.now _ u.judge_front.ensures (in_hand_of l.self) _ u.in-Ok.is

pub returns-in-Err-Short : goal.returns-in-Err-Short
returns-in-Err-Short c =
    let l = c.loop-self in
    let e = c.waits.ensures in
    let i = l.invariant in
    (e.0 ∙ i.0, e.1 ∙ i.1, e.2 ∙ followed-short l.rest.now _ c.judge_front.ensures (in_hand_of l.self) (c.in-Err-Short.is ∙ ap Err c.in-Err-Short.field-0-is) ∙ i.6)

pub returns-in-Err-Bad : goal.returns-in-Err-Bad
returns-in-Err-Bad c =
    let l = c.loop-self in
    let e = c.crc_fails.ensures in
    let i = l.invariant in
    (e.0 ∙ i.0, e.1 ∙ i.1, e.2 ∙ followed-bad l.rest.now _ c.judge_front.ensures (in_hand_of l.self) (c.in-Err-Bad.is ∙ ap Err c.in-Err-Bad.field-0-is) ∙ i.6)

pub hands_out-requires : goal.hands_out-requires
hands_out-requires c = omega (arith, good (goal.at.hands_out-requires c).In-Ok, c.loop-self.invariant)

pub slice_bounds-rest-count : goal.slice_bounds-rest-count
slice_bounds-rest-count c = omega (arith, good (goal.at.slice_bounds-rest-count c).In-Ok)

pub slice_bounds-rest-start : goal.slice_bounds-rest-start
slice_bounds-rest-start c = omega (arith, good (goal.at.slice_bounds-rest-start c).In-Ok)

pub loop-self-smaller : goal.loop-self-smaller
loop-self-smaller c = rw (from_on c.in-Ok.size c.loop-self.rest.now) (omega (arith, length-drop c.in-Ok.size c.loop-self.rest.now, good (goal.at.loop-self-smaller c).In-Ok))

pub loop-self-preserved : goal.loop-self-preserved
loop-self-preserved c =
    let l = c.loop-self in
    let n = c.in-Ok.size in
    let h = l.self in
    let e = c.hands_out.ensures in
    let i = l.invariant in
    let g = good (goal.at.loop-self-preserved c).In-Ok in
    let k = length-drop n l.rest.now in
    let bytes = ap (λ (x : InHand). x.held.bytes) e.2 in
    let packets = ap (λ (x : InHand). x.held.packets) e.2 in
    let out = ap (λ (x : InHand). length x.output) e.2 in
    let after = c.copy.ensures ∙ copied-front h.bytes n l.rest.now h.output.now (omega (arith, g)) (omega (arith, g)) in
    rw (from_on n l.rest.now) (
      e.0 ∙ i.0,
      e.1 ∙ i.1,
      omega (arith, g, k, bytes, out, c.copy.auto, i),
      omega (arith, out, c.copy.auto, i),
      omega (arith, g, k, packets, i),
      omega (arith, g, k, bytes, i),
      followed-good l.rest.now _ c.judge_front.ensures (in_hand_of h) _ c.in-Ok.is (omega (arith, g, i)) _ _ e.2 after ∙ i.6,
    )
