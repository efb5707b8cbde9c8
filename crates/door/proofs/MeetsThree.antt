-- Our door meets demand 3: C's calls and those of the crates below go in step, so that demand 3 of our library gives it.
-- Assumes nothing.
use mathlib.Core.Path.{◌≡◌, refl, sym, ap, ap₂, ◌∙◌}
use mathlib.Core.Bool.{Bool, false}
use mathlib.Core.List.{List, [], ◌∷◌, ◌++◌, map}
use Prim.Native.Nat.{ℕ, ◌≤◌}
use native.Mathlib.Omega.{arith}
use lib.ListN.{length, length-append}
use borrow.Author.Tests.{le-ltb, ltb-false}
use Rattle.packet.specs.Layout.{size_of}
use Rattle.packet.proofs.LayoutLaws.{size-least, size-append}
use Rattle.packet.specs.Cut.{cut_by, cut, joined}
use Rattle.transport.specs.Tests.{pid_outside}
use Rattle.carry.specs.Theorems.{stream_of}
use Rattle.gather.specs.State.{start_of}
use Rattle.gather.specs.Gather.{Outcome, gather_of}
use Rattle.gather.specs.Calls as calls
use Rattle.gather.specs.Calls.{Call, lent, calls_of}
use Rattle.gather.specs.declared.Marks.{Marks}
use Rattle.gather.proofs.StateLaws.{start-taken}
use Rattle.demands.specs.Library as library
use Rattle.demands.specs.Demand2.Carry.{transports}
use Rattle.demands.specs.Demand3 as below
use Rattle.demands.specs.Demand3.{Batch}
use Rattle.demands.specs.Route.{inputs}
use Rattle.demands.proofs.MeetsThree as library-meets
use Rattle.sfn.specs.Answers.{length_held, bit_of}
use Rattle.sfn.specs.Reader.{reader_of, reader_from, SfnOutcome, outcome_of, gathered_by}
use Rattle.sfn.specs.declared.reader.SfnReader.{SfnReader}
use Rattle.sfn.proofs.ReaderLaws.{state-back, gathered-flat, next-state}
use Rattle.door.specs.Door.{ours}
use Rattle.door.specs.Demand3.{carry_all, calls_by, handed_all, Told, told_by, loss_alone, Clean, Exactly, TellsLengths, AlwaysClean, CarriesAll, GathersExactly, Demand3}
use Rattle.door.proofs.MeetsOne.{bit-one, either, step-on}

-- ---- the writer

same-carried : (pid count : ℕ) (bs : List Batch) → carry_all ours pid count bs ≡ below.carry_all library.ours pid count bs
same-carried pid count [] = refl
same-carried pid count (b ∷ bs) =
    let o = (library.ours).carry pid count (joined b.packets) b.out in
    ap (λ (l : List (List ℕ)). transports o ++ l) (same-carried pid o.answer.next_count bs)

-- ---- C's calls are those of `gather`, laid out flat

calls-flat : (r : SfnReader) (g : List ℕ) (cs : List Call) → r.in_step ≤ 1 → calls_by ours r g cs ≡ map outcome_of (calls_of (reader_from r) g cs)
calls-flat r g [] h = refl
calls-flat r g (c ∷ cs) h =
    let t : List ℕ = c.transport in
    let o : List ℕ = c.output in
    let e : outcome_of (gather_of (reader_from r) t g o) ≡ gathered_by r t g o = gathered-flat r t g o h in
    let x : SfnOutcome = gathered_by r t g o in
    ap₂ (λ (y : SfnOutcome) (l : List SfnOutcome). y ∷ l) (sym e)
    (calls-flat x.answer.reader x.gathering cs (ltb-false _ _ (step-on r t g o h))
    ∙ ap₂ (λ s m. map outcome_of (calls_of s m cs)) (next-state r t g o h) (ap (λ (y : SfnOutcome). y.gathering) (sym e)))

-- ---- what they hand out, and their marks

handed-flat : (os : List Outcome) → handed_all (map outcome_of os) ≡ calls.handed_all os
handed-flat [] = refl
handed-flat (o ∷ os) = ap (λ (l : List (List ℕ)). calls.handed_by o ++ l) (handed-flat os)

abbrev mark_numbers : Marks → Told
mark_numbers m = record { loss = bit_of m.loss; misfit = bit_of m.misfit; crc = bit_of m.crc }

told-flat : (os : List Outcome) → map told_by (map outcome_of os) ≡ map mark_numbers (calls.marks_all os)
told-flat [] = refl
told-flat (o ∷ os) = ap (λ (l : List Told). mark_numbers o.answer.marks ∷ l) (told-flat os)

losses-flat : (bs : List Bool) → map mark_numbers (below.losses_alone bs) ≡ map loss_alone bs
losses-flat [] = refl
losses-flat (b ∷ bs) = ap (λ (l : List Told). loss_alone b ∷ l) (losses-flat bs)

exactly-flat : (ps : List (List ℕ)) (losses : List Bool) (os : List Outcome) → below.Exactly ps losses os → Exactly ps losses (map outcome_of os)
exactly-flat ps losses os h =
    record { handed = handed-flat os ∙ h.handed; marked = told-flat os ∙ ap (map mark_numbers) h.marked ∙ losses-flat losses }

-- ---- a fresh reader

start_back : (pid : ℕ) → pid_outside pid ≡ false → reader_from (reader_of (start_of pid).reader) ≡ (start_of pid).reader
start_back pid h = state-back (start_of pid).reader (rw (start-taken pid h))

-- ---- DEMAND 3

tells-lengths : TellsLengths ours
unfolding length_held size_of
tells-lengths =
    record {
      first = λ p l w. let s : size_of (p ++ l) ≡ length p = size-append p l (omega (arith, w.size, size-least p)) ∙ sym w.size in
          rw (s, le-ltb (length (p ++ l)) (length p) (omega (arith, length-append p l)));
      none = refl;
    }

always-clean : AlwaysClean ours
unfolding cut cut_by joined
always-clean r t g o =
    either r t g o Clean
    (record { bytes = refl; number = refl })
    (λ h. let c = (library-meets.meets-three).clean (reader_from r) t g o in record { bytes = c.bytes; number = c.number })

carries-all : CarriesAll ours
carries-all pid count p c bs h =
    ap (λ (l : List (List ℕ)). joined (stream_of l)) (same-carried pid count bs) ∙ (library-meets.meets-three).carried pid count p c bs h

gathers-exactly : GathersExactly ours
gathers-exactly pid count p c bs h is =
    rw (same-carried pid count bs)
    (λ route g room outs spacious.
    rw (calls-flat (reader_of (start_of pid).reader) g (lent outs (inputs (below.carry_all library.ours pid count bs) is)) (ltb-false _ _ (bit-one (start_of pid).reader.in_step)), start_back pid p)
    (exactly-flat _ _ _ ((library-meets.meets-three).exactly pid count p c bs h is route g room outs spacious)))

pub meets-three : Demand3 ours
meets-three = record { clean = always-clean; carried = carries-all; exactly = gathers-exactly; lengths = tells-lengths }
