-- `listing::list_all` meets its contract: what comes behind the bytes that wait is read, then all that waits is fed, and what is
-- not taken of it is kept.
use lib.ListN.{length, take}
use mathlib.Core.Path.{◌≡◌}
use Prim.Native.Nat.{◌≤◌}
use native.Mathlib.Omega.{arith}
use Rattle.std.proofs.lemmas.Option.{MatchOption-at_some}
use Rattle.std.proofs.lemmas.Result.{err_from_is_err_and}
use Rattle.lines.specs.Theorems.{Run, opened, Reached}
use Rattle.lines.proofs.FeedLaws.{kept-within}
use Rattle.lines.proofs.ReachLaws.{reach-start, ends-broken, reach-more, reach-kept}
use Rattle.listing.proofs.list_all.Given.{Over}
use Rattle.listing.proofs.list_all.Goals as goal
use Rattle.listing.proofs.list_all.Goals.{In-Some}

-- where the program began
abbrev from : (g : Over) → In-Some g → Run
from g c = opened c.args.gathering.now c.args.output.now c.args.text.now.lines.now

-- what was read
came : (g : Over) (c : In-Some g) → (c.loop.have ≤ c.in-Some.came) × (c.in-Some.came ≤ length c.more.new.block) × (take c.loop.have c.more.new.block ≡ take c.loop.have c.loop.block)
came g c =
    let e = MatchOption-at_some _ _ c.in-Some.came c.in-Some.is c.in_ok-came.ensures.came in
    (e.0, e.1, c.in_ok-came.ensures.stays.1)

-- the bytes that wait after a read
brought : (g : Over) (c : In-Some g) → Reached (from g c) c.loop.listing c.loop.gathering c.loop.output c.loop.text.lines.now (take c.in-Some.came c.more.new.block)
brought g c =
    let e = came g c in
    reach-more (from g c) c.loop.listing c.loop.gathering c.loop.output c.loop.text.lines.now c.loop.block c.loop.have c.loop.invariant.1 c.more.new.block c.in-Some.came e.0 e.2

pub loop-init : goal.loop-init
loop-init g c = (omega arith, reach-start _ _ _ _ c.start.ensures)

pub loop-preserved : goal.loop-preserved
loop-preserved g c =
    let m = (goal.at.loop-preserved g c).In-Some in
    let w = (came g m).1 in
    let k = c.keep_rest-have.ensures in (
      omega (arith, kept-within _ _ _ _ _ k, c.keep_rest-have.auto.block),
      reach-kept (from g m) _ _ _ _ _ _ (brought g m) w _ c.feed-fed.ensures.fed _ _ k,
    )

pub returns-in_err-write_out : goal.returns-in_err-write_out
returns-in_err-write_out g c =
    let m = (goal.at.returns-in_err-write_out g c).In-Some in
    let q = err_from_is_err_and c.from_residual-in_err-write_out.result c.from_residual-in_err-write_out.ensures.1 in
    rw q.1 (ends-broken (from g m) _ _ _ _ _ (reach-kept (from g m) _ _ _ _ _ _ (brought g m) (came g m).1 _ c.feed-fed.ensures.fed _ _ c.keep_rest-have.ensures))
