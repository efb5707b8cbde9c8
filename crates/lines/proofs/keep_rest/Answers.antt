-- `lines::keep_rest` meets its contract: nothing is there to keep, or the part is moved.
use Rattle.lines.proofs.FeedLaws.{kept-none, kept-nothing, kept-all}
use Rattle.lines.proofs.keep_rest.Goals as goal
use Rattle.lines.proofs.keep_rest.Goals.{then-block-have-via-then-block-have, then-block-have-via-else-block-have+then-have-at}

pub returns-then-block-have : goal.returns-then-block-have
returns-then-block-have c =
    let a = c.args in
    elim c.then-block-have.branch [
      | then-block-have-via-then-block-have w ↦ kept-none a.at a.have a.block.now w.if-block-have.true
      | then-block-have-via-else-block-have+then-have-at w ↦ kept-nothing a.at a.have a.block.now w.if-block-have.false w.if-have-at.true
    ]

pub returns : goal.returns
returns c =
    let a = c.args in
    kept-all a.at a.have a.block.now c.if-block-have.false _ c.copy_within.ensures.after
