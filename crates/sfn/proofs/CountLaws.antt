-- What the crates below count is small, so that it fits C's 32 bits: at most 8,385 bytes of packets, 8,201 that wait, and
-- 255 of addressing data.
-- Assumes nothing.
use mathlib.Core.Path.{◌≡◌, refl, ap}
use mathlib.Core.List.{List, [], ◌∷◌}
use Prim.Native.Nat.{ℕ, ◌+◌, ◌^◌, ◌≤◌, ◌<◌}
use native.Mathlib.Omega.{arith}
use lib.Dec.{eqb, leb, ltb}
use lib.ListN.{length, length-drop}
use borrow.Author.Tests.{eqb-true, eqb-false, ltb-true, ltb-false}
use Rattle.fields.specs.Numbers.{Bytes}
use Rattle.fields.proofs.Cases.{cases}
use Rattle.refusals.specs.Checks.{first}
use Rattle.refusals.proofs.AnswerLaws.{answer-accepted}
use Rattle.addressing.specs.Data.{Placed, end_of}
use Rattle.addressing.specs.Payload.{payload_checks, payload_of}
use Rattle.addressing.specs.Walk.{Walked, functions_for, step_in, walk_checks, refused, walk_of}
use Rattle.addressing.proofs.PayloadLaws as payload
use Rattle.addressing.proofs.DataLaws.{Rising, rising-upto, for-rising}
use Rattle.addressing.proofs.WalkLaws.{walk-long, walk_refused}
use Rattle.mip.specs.Read.{read_checks, read_of}
use Rattle.mip.proofs.FieldLaws.{readable}
use Rattle.mip.proofs.Operations.{read-accepted, read-refused}
use Rattle.transport.specs.Tests.{pid_outside}
use Rattle.gather.specs.State.{Started, start_of, gather_checks}
use Rattle.gather.specs.Gather.{result_of, taken_of, gather_of}
use Rattle.gather.specs.declared.Reader.{Reader}
use Rattle.gather.proofs.RefusalLaws.{passed}
use Rattle.gather.proofs.GatherLaws.{gather-refused, gather-taken}
use Rattle.gather.proofs.StateLaws.{start-taken, start-refused, result-few}
use Rattle.gather.proofs.HandedLaws.{packets-few, packets-number}
use Rattle.sfn.specs.Site.{StepFits}
use Rattle.sfn.specs.Reader.{GatherFits}

-- ---- addressing data

pub payload-few : (own : ℕ) (p : List ℕ) → Bytes p → (payload_of own p).bytes ≤ 255
payload-few own p b =
    cases (eqb (first (payload_checks own p)) 0)
    (λ t. rw (payload.read-accepted own p (eqb-true _ _ t), length-drop 2 p) (omega (arith, (payload.readable own p (eqb-true _ _ t)).size, b 1)))
    (λ t. rw (payload.read-refused own p (eqb-false _ _ t)).0 (omega arith))

pub mip-few : (p : List ℕ) → (read_of p).addressing ≤ 163
mip-few p =
    cases (eqb (first (read_checks p)) 0)
    (λ t. rw (read-accepted p (eqb-true _ _ t)) (readable p (eqb-true _ _ t)).short)
    (λ t. rw (read-refused p (eqb-false _ _ t)).0 (omega arith))

-- ---- a walk answers places in the data

pub record WalkFits (w : Walked) : Type 0 where
  pub next : w.next < 2 ^ 32
  pub step : StepFits w.step

nowhere : (n : ℕ) → WalkFits (refused n)
nowhere n = record { next = omega arith; step = tt }

step_fits : (from to place : ℕ) (fs : List Placed) → to ≤ 255 → Rising from to fs → WalkFits (step_in fs place to)
unfolding step_in
step_fits from to place [] h r = record { next = omega arith; step = tt }
step_fits from to place (f ∷ fs) h r =
    let e : end_of f ≤ to = rising-upto (end_of f) to fs r.1 in
    cases (leb (place + 2) f.start)
    (λ t. rw t (record { next = omega arith; step = (omega arith, omega arith) }))
    (λ t. rw t (step_fits (end_of f) to place fs h r.1))

pub walk-fits : (own : ℕ) (d : List ℕ) (tx place : ℕ) → WalkFits (walk_of own d tx place)
walk-fits own d tx place =
    cases (ltb 255 (length d))
    (λ t. rw (walk-long own d tx place (ltb-true _ _ t)) (nowhere 38))
    (λ t. cases (eqb (first (walk_checks own d tx place)) 0)
    (λ z. unfold walk_of in rw (answer-accepted (walk_checks own d tx place) refused (step_in (functions_for own tx d) place (length d)) (eqb-true _ _ z))
    (step_fits 0 (length d) place (functions_for own tx d) (ltb-false _ _ t) (for-rising own tx d)))
    (λ z. rw (walk_refused own d tx place (eqb-false _ _ z)) (nowhere (first (walk_checks own d tx place)))))

-- ---- the reader

pub start-waits : (pid : ℕ) → (start_of pid).reader.waiting ≡ 0
start-waits pid =
    cases (pid_outside pid)
    (λ t. ap (λ (s : Started). s.reader.waiting) (start-refused pid t))
    (λ t. ap (λ (s : Started). s.reader.waiting) (start-taken pid t))

-- a refused call hands back what waited before
pub gather-fits : (s : Reader) (t g o : List ℕ) → Bytes t → Bytes g → s.waiting < 2 ^ 32 → GatherFits (gather_of s t g o).answer
unfolding taken_of
gather-fits s t g o bt bg h =
    cases (eqb (first (gather_checks s t (length g) (length o))) 0)
    (λ z. let p = passed s t (length g) (length o) (eqb-true _ _ z) in
    let n : length (result_of s t g).waiting ≤ 8201 = result-few s t g o bt bg p.fit in
    rw (gather-taken s t g o (eqb-true _ _ z))
    (record {
      waiting = omega arith;
      bytes = omega (arith, packets-few s t g bt bg p.whole);
      packets = omega (arith, packets-few s t g bt bg p.whole, packets-number s t g);
    }))
    (λ z. rw (← gather-refused s t g o (first (gather_checks s t (length g) (length o))) refl (eqb-false _ _ z))
    (record { waiting = h; bytes = omega arith; packets = omega arith }))
