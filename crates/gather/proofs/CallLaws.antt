-- The laws of calls: what one hands out, what rows of them give one behind the other, and that nothing depends on what the
-- outputs hold.
-- Assumes nothing.
use mathlib.Core.Path.{◌≡◌, refl, sym, ap, ap₂, ◌∙◌}
use mathlib.Core.List.{List, [], ◌∷◌, ◌++◌, append_assoc}
use Prim.Native.Nat.{ℕ, suc, ◌+◌, ◌≤◌}
use native.Mathlib.Omega.{arith}
use lib.Dec.{eqb}
use lib.ListN.{length, drop, length-append}
use borrow.Author.Tests.{eqb-true, eqb-false, le-ltb}
use Rattle.fields.proofs.Cases.{cases}
use Rattle.fields.proofs.PartLaws.{overlay-is}
use Rattle.refusals.specs.Checks.{first}
use Rattle.packet.specs.Cut.{Cut, joined}
use Rattle.packet.proofs.CutLaws.{cut-nil}
use Rattle.gather.specs.State.{gather_checks}
use Rattle.gather.specs.Gather.{Outcome, refused_of, result_of, taken_of, gather_of}
use Rattle.gather.specs.Calls.{Call, Gathering, calls_by, calls_of, after_by, transports_of, lent, Spacious, wrote_by, handed_by, handed_all, marks_all}
use Rattle.gather.specs.declared.Marks.{Marks}
use Rattle.gather.specs.declared.Reader.{Reader}
use Rattle.gather.specs.Gather.{Gathered}
use Rattle.gather.proofs.GatherLaws.{gather-refused, gather-taken}
use Rattle.gather.proofs.HandedLaws.{taken-bytes, taken-cut}
use Rattle.gather.proofs.ReadingLaws.{taken-answer}

-- ---- what a call hands out

-- what holds of a call that is taken, and of one that is refused, holds of every call
pub call-cases : (s : Reader) (t g o : List ℕ) (P : Outcome → Type 0) → P (taken_of s t g o) → ((n : ℕ) → P (refused_of s g o n)) → P (gather_of s t g o)
call-cases s t g o P taken refused =
    let n : ℕ = first (gather_checks s t (length g) (length o)) in
    cases (eqb n 0)
    (λ e. rw (gather-taken s t g o (eqb-true _ _ e)) taken)
    (λ e. rw (← gather-refused s t g o n refl (eqb-false _ _ e)) (refused n))

pub none-handed : (s : Reader) (g o : List ℕ) (n : ℕ) → handed_by (refused_of s g o n) ≡ []
none-handed s g o n = ap (λ (c : Cut). c.packets) cut-nil

module _ (s : Reader) (t g o : List ℕ) where
  taken-within : (taken_of s t g o).answer.bytes ≤ length (taken_of s t g o).output
  unfolding taken_of
  taken-within =
      let p : List ℕ = joined (result_of s t g).packets in
      rw (overlay-is 0 p o, length-append p (drop (0 + length p) o)) (omega arith)

  -- the bytes written lie in the output
  pub call-within : (gather_of s t g o).answer.bytes ≤ length (gather_of s t g o).output
  call-within = call-cases s t g o (λ x. x.answer.bytes ≤ length x.output) taken-within (λ n. omega arith)

  -- they are whole packets with good CRCs, and nothing else
  pub call-bytes : joined (handed_by (gather_of s t g o)) ≡ wrote_by (gather_of s t g o)
  unfolding joined
  call-bytes =
      call-cases s t g o (λ x. joined (handed_by x) ≡ wrote_by x)
      (ap joined (taken-cut s t g o) ∙ sym (taken-bytes s t g o))
      (λ n. ap joined (none-handed s g o n))

  -- as many as the answer counts
  pub call-number : (gather_of s t g o).answer.packets ≡ length (handed_by (gather_of s t g o))
  call-number =
      call-cases s t g o (λ x. x.answer.packets ≡ length (handed_by x))
      (ap (λ (a : Gathered). a.packets) (taken-answer s t g o) ∙ sym (ap length (taken-cut s t g o)))
      (λ n. sym (ap length (none-handed s g o n)))

-- ---- one row behind another

module _ (f : Gathering) where
  pub calls-append : (s : Reader) (g : List ℕ) (l m : List Call)
      → calls_by f s g (l ++ m) ≡ calls_by f s g l ++ calls_by f (after_by f s g l).reader (after_by f s g l).gathering m
  calls-append s g [] m = refl
  calls-append s g (c ∷ l) m =
      let o : Outcome = f s c.transport g c.output in
      ap (λ (os : List Outcome). o ∷ os) (calls-append o.answer.reader o.gathering l m)

  pub after-append : (s : Reader) (g : List ℕ) (l m : List Call)
      → after_by f s g (l ++ m) ≡ after_by f (after_by f s g l).reader (after_by f s g l).gathering m
  after-append s g [] m = refl
  after-append s g (c ∷ l) m =
      let o : Outcome = f s c.transport g c.output in
      after-append o.answer.reader o.gathering l m

pub handed-append : (l m : List Outcome) → handed_all (l ++ m) ≡ handed_all l ++ handed_all m
handed-append [] m = refl
handed-append (o ∷ l) m = ap (λ (ps : List (List ℕ)). handed_by o ++ ps) (handed-append l m) ∙ sym (append_assoc (handed_by o) (handed_all l) (handed_all m))

pub marks-append : (l m : List Outcome) → marks_all (l ++ m) ≡ marks_all l ++ marks_all m
marks-append [] m = refl
marks-append (o ∷ l) m = ap (λ (ms : List Marks). o.answer.marks ∷ ms) (marks-append l m)

-- ---- nothing depends on what the outputs hold

pub record Alike (a b : Outcome) : Type 0 where
  pub answer : a.answer ≡ b.answer
  pub gathering : a.gathering ≡ b.gathering
  pub handed : handed_by a ≡ handed_by b

checks-alike : (s : Reader) (t : List ℕ) (room space other : ℕ) → 8385 ≤ space → 8385 ≤ other → gather_checks s t room space ≡ gather_checks s t room other
unfolding gather_checks
checks-alike s t room space other h k = rw (le-ltb space 8385 h, le-ltb other 8385 k)

module _ (s : Reader) (t g o p : List ℕ) (h : 8385 ≤ length o) (k : 8385 ≤ length p) where
  first_alike : first (gather_checks s t (length g) (length p)) ≡ first (gather_checks s t (length g) (length o))
  first_alike = ap first (checks-alike s t (length g) (length p) (length o) k h)

  taken-alike : Alike (taken_of s t g o) (taken_of s t g p)
  taken-alike =
      record {
        answer = unfold taken_of in refl;
        gathering = unfold taken_of in refl;
        handed = taken-cut s t g o ∙ sym (taken-cut s t g p);
      }

  refused-alike : (n : ℕ) → Alike (refused_of s g o n) (refused_of s g p n)
  refused-alike n = record { answer = refl; gathering = refl; handed = none-handed s g o n ∙ sym (none-handed s g p n) }

  pub call-alike : Alike (gather_of s t g o) (gather_of s t g p)
  call-alike =
      let n : ℕ = first (gather_checks s t (length g) (length o)) in
      cases (eqb n 0)
      (λ e. let z : n ≡ 0 = eqb-true _ _ e in rw (gather-taken s t g o z, gather-taken s t g p (first_alike ∙ z)) taken-alike)
      (λ e. let z = eqb-false n 0 e in
      rw (← gather-refused s t g o n refl z, ← gather-refused s t g p n (sym first_alike) z) (refused-alike n))

-- rows of calls that tell the same
pub record AllAlike (l m : List Outcome) : Type 0 where
  pub handed : handed_all l ≡ handed_all m
  pub marks : marks_all l ≡ marks_all m

-- a row, and the same transport packets with other outputs
pub calls-alike : (cs : List Call) → Spacious cs → (outs : ℕ → List ℕ) → ((n : ℕ) → 8385 ≤ length (outs n)) → (s : Reader) (g : List ℕ)
    → AllAlike (calls_of s g cs) (calls_of s g (lent outs (transports_of cs)))
calls-alike [] w outs l s g = record { handed = refl; marks = refl }
calls-alike (c ∷ cs) w outs l s g =
    let a : Outcome = gather_of s c.transport g c.output in
    let b : Outcome = gather_of s c.transport g (outs 0) in
    let k : Alike (gather_of s c.transport g c.output) (gather_of s c.transport g (outs 0)) = call-alike s c.transport g c.output (outs 0) w.0 (l 0) in
    let more : AllAlike (calls_of a.answer.reader a.gathering cs) (calls_of b.answer.reader b.gathering (lent (λ n. outs (suc n)) (transports_of cs))) =
    rw (← k.gathering, ← k.answer) (calls-alike cs w.1 (λ n. outs (suc n)) (λ n. l (suc n)) a.answer.reader a.gathering) in
    record {
      handed = ap₂ (λ (x y : List (List ℕ)). x ++ y) k.handed more.handed;
      marks = ap₂ (λ (x : Gathered) (y : List Marks). x.marks ∷ y) k.answer more.marks;
    }
