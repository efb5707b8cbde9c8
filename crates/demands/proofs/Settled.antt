-- Demands 1 and 2 settle every answer: whatever library meets both answers every input as ours does (01, "How full each
-- statement is": two results that a statement allows are equal).
-- Assumes nothing.
use mathlib.Core.Path.{◌≡◌, sym, ap, ◌∙◌}
use mathlib.Core.Bool.{false}
use mathlib.Core.List.{List, [], ◌∷◌}
use Prim.Native.Nat.{ℕ, ◌+◌, ◌%◌, ◌<◌}
use native.Mathlib.Omega.{arith}
use lib.Dec.{eqb, ltb}
use borrow.Author.Tests.{eqb-true, eqb-false, ltb-true, ltb-false}
use Rattle.fields.proofs.Cases.{cases}
use Rattle.refusals.specs.Checks.{Check, ◌when◌, first}
use Rattle.refusals.specs.Answers.{answer, Wrote, written}
use Rattle.refusals.proofs.AnswerLaws.{answer-accepted, answer-refused}
use Rattle.packet.specs.Read as packet
use Rattle.packet.specs.Write as packet_writing
use Rattle.stamp.specs.Read as stamp
use Rattle.stamp.specs.Write as stamp_writing
use Rattle.stamp.proofs.LayoutLaws.{kind-only}
use Rattle.functions.specs.Read as function
use Rattle.functions.specs.Write as function_writing
use Rattle.addressing.specs.Payload as addressing
use Rattle.addressing.specs.Walk.{walk_of}
use Rattle.mip.specs.Read as mip
use Rattle.mip.specs.Write as mip_writing
use Rattle.mip.specs.Timing.{emission_of, extra_of}
use Rattle.transport.specs.Tests.{pid_outside}
use Rattle.carry.specs.Carry.{carry_of}
use Rattle.gather.specs.State.{start_of}
use Rattle.gather.specs.Gather.{gather_of}
use Rattle.demands.specs.Library.{Library, Alike, ours}
use Rattle.demands.specs.Demand1.{Refuses, wrote_nothing, Writes, Demand1}
use Rattle.demands.specs.Demand2.{Demand2}
use Rattle.demands.specs.Demand2.Writing.{laid}

-- with a refusal it is one thing, and without one another: so it is the answer of these checks
either : {A : Type 0} (checks : List Check) (refused : ℕ → A) (accepted x : A) → (Refuses checks → x ≡ refused (first checks)) → (first checks ≡ 0 → x ≡ accepted)
    → x ≡ answer checks refused accepted
either checks refused accepted x r a =
    cases (eqb (first checks) 0)
    (λ t. a (eqb-true _ _ t) ∙ sym (answer-accepted checks refused accepted (eqb-true _ _ t)))
    (λ t. r (eqb-false _ _ t) ∙ sym (answer-refused checks refused accepted (eqb-false _ _ t)))

wrote : (checks : List Check) (result out : List ℕ) (w : Wrote) → Writes checks out w → (first checks ≡ 0 → w ≡ laid result out) → w ≡ written checks result out
unfolding written
wrote checks result out w k a = either checks (wrote_nothing out) (laid result out) w k.answers.refusal a

module _ (lib : Library) (one : Demand1 lib) (two : Demand2 lib) where
  next : (n : ℕ) → n < 256 → lib.next_count n ≡ (n + 1) % 256
  next n h =
      cases (ltb n 255)
      (λ t. let l : n < 255 = ltb-true n 255 t in two.packets.rises n l ∙ omega arith)
      (λ t. let e : n ≡ 255 = omega (arith, ltb-false n 255 t) in ap lib.next_count e ∙ two.packets.turns ∙ omega arith)

  pub settled : Alike lib ours
  unfolding packet.read_of packet.payload_read packet_writing.write_of stamp.read_of stamp_writing.write_of function.function_read function_writing.write_of addressing.payload_of addressing.data_read addressing.write_of walk_of mip.read_of mip.addressing_read mip_writing.write_of emission_of extra_of carry_of start_of gather_of
  settled =
      record {
        crc = two.crcs.register;
        packet_read = λ s. either _ _ _ _ (one.packet_read s).refusal (two.packets.reads s);
        packet_payload = λ s. either _ _ _ _ (one.packet_payload s) (two.packets.payload s);
        packet_write = λ h payload out. wrote _ _ _ _ (one.packet_write h payload out) (two.packets.writes h payload out);
        next_count = next;
        stamp_read = λ p. either _ _ _ _ (one.stamp_read p).refusal (two.stamps.reads p);
        stamp_write = λ s out. wrote _ _ _ _ (one.stamp_write s out) (two.stamps.writes s out);
        stamp_kind = λ s. sym (kind-only (lib.stamp_kind s) s (two.stamps.kinds s));
        units = two.stamps.units;
        function_read = λ tag body. either _ _ _ _ (one.function_read tag body).refusal (two.functions.reads tag body);
        function_write = λ f carried out. wrote _ _ _ _ (one.function_write f carried out) (two.functions.writes f carried out);
        addressing_read = λ p. either _ _ _ _ (one.addressing_read p).refusal (two.addressing.reads p);
        addressing_data = λ p. either _ _ _ _ (one.addressing_data p) (two.addressing.data-of p);
        addressing_write = λ d out. wrote _ _ _ _ (one.addressing_write d out) (two.addressing.writes d out);
        walk = λ d tx place. either _ _ _ _ (one.walk d tx place).refusal (two.walks.step d tx place);
        mip_read = λ p. either _ _ _ _ (one.mip_read p).refusal (two.mips.reads p);
        mip_addressing = λ p. either _ _ _ _ (one.mip_addressing p) (two.mips.addressing p);
        mip_write = λ m d out. wrote _ _ _ _ (one.mip_write m d out) (two.mips.writes m d out);
        emission = λ stamp delay offset. either _ _ _ _ (one.emission stamp delay offset).refusal (two.timing.emission stamp delay offset);
        extra_delay = λ stamp delay offset reception. either _ _ _ _ (one.extra_delay stamp delay offset reception).refusal (two.timing.extra stamp delay offset reception);
        carry = λ pid count batch out. either _ _ _ _ (one.carry pid count batch out).answers.refusal (two.carriage.writes pid count batch out);
        start = λ pid. either _ _ _ _ (one.start pid).answers.refusal (λ z. two.carriage.begins pid (inside pid z));
        gather = λ s t g o. either _ _ _ _ (one.gather s t g o).answers.refusal (two.carriage.gathers s t g o);
      }
    where
      inside : (pid : ℕ) → first (4 when pid_outside pid ∷ []) ≡ 0 → pid_outside pid ≡ false
      inside pid z = cases (pid_outside pid) (λ t. absurd (let e : ◌≡◌ {A = ℕ} 4 0 = rw t at z in omega arith)) (λ t. t)
