-- `sfn::reader::sfn_gather` meets its contract: the refusal of an in_step over 1, and else the answer of `Reader::gather`, laid out flat.
use borrow.Author.Rules.{rules}
use borrow.Author.Tests.{lt-ltb}
use mathlib.Core.Path.{sym, ap, ◌∙◌, subst}
use Rattle.refusals.specs.Answers.{answer}
use Rattle.refusals.proofs.NumberLaws.{number-not-0}
use Rattle.gather.specs.Gather.{Outcome, gather_of}
use Rattle.gather.specs.declared.Reader.{Reader}
use Rattle.sfn.specs.Reader.{GatherFits, reader_from, outcome_of, gathered_by}
use Rattle.sfn.specs.declared.reader.SfnGathered.{SfnGathered}
use Rattle.sfn.proofs.CountLaws.{gather-fits}
use Rattle.sfn.proofs.ReaderLaws.{gathered-flat, gathered-refused}
use Rattle.sfn.proofs.reader.sfn_gather.Goals as goal
use Rattle.sfn.proofs.reader.sfn_gather.Goals.{After-from-state, In-Ok}

-- what a call answers fits C's 32 bits
fits : (c : After-from-state) → GatherFits (gather_of c.from-state.result c.args.transport.now c.args.gathering.now c.args.out.now).answer
fits c =
    let a = c.args in
    subst (λ (x : Reader). GatherFits (gather_of x a.transport.now a.gathering.now a.out.now).answer) (sym c.from-state.ensures)
    (gather-fits (reader_from a.reader) a.transport.now a.gathering.now a.out.now (search rules) (search rules) (search rules))

answered : (c : In-Ok) → GatherFits (record { refusal = 0; reader = c.gather.new.self; bytes = c.in-Ok.g.bytes; packets = c.in-Ok.g.packets; marks = c.in-Ok.g.marks })
answered c = subst (λ (x : Outcome). GatherFits x.answer) (sym c.in-Ok.ensures) (fits (goal.at.In-Ok c).After-from-state)

pub returns-then-reader-gt1 : goal.returns-then-reader-gt1
unfolding gathered_by answer
returns-then-reader-gt1 c = rw (lt-ltb 1 c.args.reader.in_step c.if-reader-gt1.true, c.refused.ensures)

pub reader_flat-requires : goal.reader_flat-requires
reader_flat-requires c = (answered c).waiting

pub count_32-requires : goal.count_32-requires
count_32-requires c = (answered (goal.at.count_32-requires c).In-Ok).bytes

pub count_32-requires-in-Ok : goal.count_32-requires-in-Ok
count_32-requires-in-Ok c = (answered (goal.at.count_32-requires-in-Ok c).In-Ok).packets

pub returns-in-Ok : goal.returns-in-Ok
returns-in-Ok c =
    let a = c.args in
    rw (c.reader_flat.ensures, c.count_32.ensures, c.count_32-in-Ok.ensures, c.from.ensures, c.from-in-Ok.ensures, c.from-in-Ok-2.ensures)
    (ap outcome_of c.in-Ok.ensures
    ∙ ap (λ (x : Reader). outcome_of (gather_of x a.transport.now a.gathering.now a.out.now)) c.from-state.ensures
    ∙ gathered-flat a.reader a.transport.now a.gathering.now a.out.now c.if-reader-gt1.false)

pub returns-in-Err : goal.returns-in-Err
returns-in-Err c =
    let a = c.args in
    ap (λ (x : SfnGathered). record { answer = x; gathering = c.gather.new.gathering; out = c.gather.new.output }) c.refused-in-Err.ensures
    ∙ gathered-refused a.reader a.transport.now a.gathering.now a.out.now c.if-reader-gt1.false _ _ _ _
    (c.in-Err.ensures ∙ ap (λ (x : Reader). gather_of x a.transport.now a.gathering.now a.out.now) c.from-state.ensures) (number-not-0 c.in-Err.refusal)
