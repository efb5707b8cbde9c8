-- `lines::Listing::feed` meets its contract: a piece that stops it, a piece that goes, and none left.
use mathlib.Core.Path.{sym, ap, ◌∙◌}
use mathlib.Core.Bool.{not}
use native.Mathlib.Omega.{arith}
use lib.ListN.{length, length-append}
use borrow.Author.Tests.{le-leb, lt-leb}
use Rattle.lines.proofs.FeedLaws.{feed-ends, feed-stops, feed-goes}
use Rattle.lines.proofs.Listing.feed.Goals as goal

-- full: the piece that stopped it is left
pub returns-then-not-step-clause-full : goal.returns-then-not-step-clause-full
returns-then-not-step-clause-full c =
    let i = c.loop-piece.invariant in
    let s = c.in-Some.ensures.steps.1 in
    let n = ap length s.0 ∙ length-append c.in-Some.piece.now c.next.new.self.rest.now in
    sym (le-leb 188 _ (omega (arith, n, s.1, i.0, i.1)))

pub returns-then-not-step-clause-fed : goal.returns-then-not-step-clause-fed
returns-then-not-step-clause-fed c =
    let l = c.loop-piece in
    let t = l.text in
    let i = l.invariant in
    let s = c.in-Some.ensures.steps.1 in
    feed-stops _ l.piece-iterator.rest.now l.self l.gathering l.output t.lines.now l.taken t.at i.1 c.in-Some.piece.now _ s.0 (s.1 ∙ i.0) _ c.step.ensures.stepped (ap not c.if-not-step.true)
    ∙ i.3

pub loop-piece-preserved : goal.loop-piece-preserved
loop-piece-preserved c =
    let l = c.loop-piece in
    let t = l.text in
    let i = l.invariant in
    let steps = c.in-Some.ensures.steps in
    let s = steps.1 in
    let n = ap length s.0 ∙ length-append c.in-Some.piece.now c.next.new.self.rest.now in (
      steps.0 ∙ i.0,
      omega (arith, n, s.1, i.0, i.1),
      c.step.ensures.same_reference ∙ i.2,
      feed-goes _ l.piece-iterator.rest.now l.self l.gathering l.output t.lines.now l.taken t.at i.1 c.in-Some.piece.now _ s.0 (s.1 ∙ i.0) _ c.step.ensures.stepped (ap not c.if-not-step.false)
          ∙ i.3,
    )

-- not full: fewer bytes are left than a piece has
pub returns-clause-full : goal.returns-clause-full
returns-clause-full c =
    let i = c.loop-piece.invariant in
    sym (lt-leb 188 _ (omega (arith, c.in-None.ensures.steps.1.0, i.0, i.1)))

pub returns-clause-fed : goal.returns-clause-fed
returns-clause-fed c =
    let l = c.loop-piece in
    let t = l.text in
    let i = l.invariant in
    feed-ends _ l.piece-iterator.rest.now l.self l.gathering l.output t.lines.now l.taken t.at i.1 (omega (arith, c.in-None.ensures.steps.1.0, i.0)) ∙ i.3
