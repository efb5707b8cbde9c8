-- `sfn::site::sfn_mip_write` meets its contract: the two refusals of a wide flag, and else what `mip::write` writes, whose first
-- check is 36 too.
use borrow.Author.Tests.{lt-ltb, le-ltb}
use lib.Dec.{ltb}
use lib.ListN.{length}
use mathlib.Core.Path.{◌≡◌, ap, ◌∙◌}
use mathlib.Core.Bool.{true, false}
use mathlib.Core.List.{List}
use Prim.Native.Nat.{ℕ}
use native.Mathlib.Omega.{arith}
use Rattle.fields.proofs.Cases.{cases}
use Rattle.refusals.specs.Checks.{Check, first}
use Rattle.refusals.specs.Answers.{answer, written}
use Rattle.refusals.specs.declared.Written.{Written}
use Rattle.refusals.proofs.AnswerLaws.{written-number}
use Rattle.mip.specs.Write.{write_checks, write_of}
use Rattle.mip.specs.declared.Mip.{Mip}
use Rattle.sfn.specs.Site.{mip_made, mip_checks}
use Rattle.sfn.proofs.site.sfn_mip_write.Goals as goal

module _ (p : ℕ) (m : Mip) (d : List ℕ) (room : ℕ) where
  over-163 : ltb 163 (length d) ≡ true → 36 ≡ first (mip_checks p m d room)
  unfolding mip_checks
  over-163 h = rw h

  over-one : ltb 163 (length d) ≡ false → ltb 1 p ≡ true → 38 ≡ first (mip_checks p m d room)
  unfolding mip_checks
  over-one h k = rw (h, k)

  as-mip : ltb 1 p ≡ false → first (write_checks m d room) ≡ first (mip_checks p m d room)
  unfolding mip_checks write_checks
  as-mip k = cases (ltb 163 (length d)) (λ t. rw t) (λ t. rw (t, k))

-- checks with the same first number write the same
same : (a b : List Check) (result out : List ℕ) → first a ≡ first b → written a result out ≡ written b result out
unfolding written answer
same a b result out e = rw e

pub returns-then-addressed-gt163 : goal.returns-then-addressed-gt163
returns-then-addressed-gt163 c =
    let a = c.args in
    ap (λ (w : Written). record { answer = w; out = a.out.now }) c.into.ensures
    ∙ written-number _ _ _ 36 (over-163 a.periodic (mip_made a.count a.pointer a.periodic a.future a.stamp a.delay a.tps) a.addressed.now (length a.out.now) (lt-ltb _ _ c.if-addressed-gt163.true)) (λ e. omega arith)

pub returns-then-periodic-gt1 : goal.returns-then-periodic-gt1
returns-then-periodic-gt1 c =
    let a = c.args in
    ap (λ (w : Written). record { answer = w; out = a.out.now }) c.into-then-periodic-gt1.ensures
    ∙ written-number _ _ _ 38 (over-one a.periodic (mip_made a.count a.pointer a.periodic a.future a.stamp a.delay a.tps) a.addressed.now (length a.out.now) (le-ltb _ _ c.if-addressed-gt163.false) (lt-ltb 1 a.periodic c.if-periodic-gt1.true)) (λ e. omega arith)

pub returns : goal.returns
unfolding write_of
returns c =
    let a = c.args in
    ap (λ (w : Written). record { answer = w; out = c.write.new.out }) c.into-2.ensures
    ∙ c.write.ensures
    ∙ same _ _ _ _ (as-mip a.periodic (mip_made a.count a.pointer a.periodic a.future a.stamp a.delay a.tps) a.addressed.now (length a.out.now) (le-ltb _ _ c.if-periodic-gt1.false))
