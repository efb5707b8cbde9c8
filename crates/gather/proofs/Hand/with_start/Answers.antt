-- `gather::Hand::with_start` meets its contract: the stages one behind the other; what waits then is the end of what came from
-- the start on.
use borrow.Author.Rules.{rules}
use lib.ListN.{length}
use mathlib.Core.Path.{◌∙◌}
use Prim.Native.Nat.{◌≤◌}
use native.Mathlib.Omega.{arith}
use Rattle.fields.proofs.PartLaws.{copied-end}
use Rattle.gather.specs.Phases.{in_hand_of}
use Rattle.gather.proofs.StartLaws.{begun-small, still-spacious, still-roomy, left-few, with-start}
use Rattle.gather.proofs.Hand.with_start.Goals as goal
use Rattle.gather.proofs.Hand.with_start.Goals.{After-follow, After-unfinished}

-- what stands before the start is at most one packet
small : (u : After-unfinished) → (u.unfinished.new.self.packets ≤ 1) × (u.unfinished.new.self.bytes ≤ 8202)
small u =
    begun-small (in_hand_of u.args.self.now) u.args.before.now u.args.onward.now _ u.lead.ensures.2 _ u.unfinished.ensures.2
    u.requires.0 (search rules)

few : (v : After-follow) → v.follow.new.self.waiting ≤ length v.args.onward.now
few v =
    left-few (in_hand_of v.args.self.now) v.args.before.now v.args.onward.now _ v.lead.ensures.2 _ v.unfinished.ensures.2 _ v.follow.ensures.2

pub follow-requires : goal.follow-requires
follow-requires c =
    let out = still-spacious (in_hand_of c.args.self.now) c.args.before.now c.args.onward.now _ c.lead.ensures.2 _ c.unfinished.ensures.2 in
    omega (arith, small (goal.at.follow-requires c).After-unfinished, c.requires, c.requires.0.spacious, out)

pub overflow_sub-onward : goal.overflow_sub-onward
overflow_sub-onward c = omega (arith, few (goal.at.overflow_sub-onward c).After-follow)

pub returns : goal.returns
returns c =
    let l = c.lead.ensures in
    let u = c.unfinished.ensures in
    let f = c.follow.ensures in
    let n = c.follow.new.self.waiting in
    let k = few (goal.at.returns c).After-follow in
    let b = in_hand_of c.args.self.now in
    let room = still-roomy b c.args.before.now c.args.onward.now _ l.2 _ u.2 _ f.2 c.requires.0 in (
      f.0 ∙ u.0 ∙ l.0,
      f.1 ∙ u.1 ∙ l.1,
      with-start b c.args.before.now c.args.onward.now _ l.2 _ u.2 _ f.2 _
          (c.copy.ensures ∙ copied-end n c.args.onward.now c.follow.new.self.gathering.now k (omega (arith, k, c.requires, c.requires.0.roomy, room))),
    )
