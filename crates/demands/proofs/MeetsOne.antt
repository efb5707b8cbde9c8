-- Our library meets demand 1.
-- Assumes nothing.
use mathlib.Core.Path.{◌≡◌, refl, ap, ◌∙◌}
use mathlib.Core.List.{List, [], ◌∷◌, ◌++◌}
use Prim.Native.Nat.{ℕ, ◌+◌, ◌-◌, ◌*◌, ◌%◌, ◌≤◌}
use native.Mathlib.Nat.{min-le_left}
use native.Mathlib.Omega.{arith}
use lib.Dec.{eqb}
use lib.ListN.{length, take, length-append, length-take}
use borrow.Author.Tests.{eqb-true, eqb-false, leb-false}
use Rattle.fields.specs.Numbers.{Bytes}
use Rattle.fields.specs.Parts.{overlay}
use Rattle.fields.proofs.Cases.{cases}
use Rattle.fields.proofs.PartLaws.{length-overlay, drop-overlay}
use Rattle.refusals.specs.Checks.{Check, ◌when◌, first}
use Rattle.refusals.specs.Answers.{answer, Wrote, written}
use Rattle.refusals.proofs.AnswerLaws.{answer-shows, answer-accepted, answer-refused}
use Rattle.packet.specs.Layout.{size_of}
use Rattle.packet.specs.Cut.{joined}
use Rattle.packet.specs.Write as packet_writing
use Rattle.packet.proofs.LayoutLaws.{size-most}
use Rattle.packet.proofs.FieldLaws as packet_fields
use Rattle.packet.proofs.RoundTrips as packet
use Rattle.stamp.specs.Write as stamp_writing
use Rattle.stamp.proofs.FieldLaws as stamp_fields
use Rattle.stamp.proofs.RoundTrips as stamp
use Rattle.functions.specs.Function.{body_of}
use Rattle.functions.specs.Write as function_writing
use Rattle.functions.proofs.Accepted as function
use Rattle.addressing.specs.Data.{house}
use Rattle.addressing.specs.Payload as addressing_payload
use Rattle.addressing.proofs.PayloadLaws as addressing
use Rattle.addressing.proofs.WalkLaws.{walk-shows, walk_refused}
use Rattle.mip.specs.Write as mip_writing
use Rattle.mip.proofs.FieldLaws as mip_fields
use Rattle.mip.proofs.Operations as mip
use Rattle.mip.proofs.TimingLaws.{emission-shows, emission-refused, extra-shows, extra-refused}
use Rattle.transport.specs.Tests.{pid_outside}
use Rattle.carry.specs.Carry as carrying
use Rattle.carry.specs.Theorems.{Packets}
use Rattle.carry.proofs.BatchLaws.{Carriable, carriable}
use Rattle.carry.proofs.Theorems.{carried-packets, length-numbered}
use Rattle.gather.specs.State.{start_of, gather_checks}
use Rattle.gather.specs.Rules.{none, brought_by, Hand}
use Rattle.gather.specs.Gather.{Outcome, in_hand, joiners, entered_of, result_of, taken_of, gather_of}
use Rattle.gather.specs.declared.Reader.{Reader}
use Rattle.gather.specs.State.{Started}
use Rattle.gather.proofs.RefusalLaws.{Passed, passed}
use Rattle.gather.proofs.StateLaws.{start-taken, fresh-fit, rule-cases, entered-bytes, gather-fit, result-few}
use Rattle.gather.proofs.HandedLaws.{both_bytes, packets-few}
use Rattle.demands.specs.Library.{ours}
use Rattle.demands.specs.Demand1.{Answers, Kept, wrote_nothing, Writes, carried_nothing, Carries, no_reader, Starts, gathered_nothing, Gathers, Demand1}

-- ---- lent memory

same : (n : ℕ) (l : List ℕ) → Kept n l l
same n l = record { long = refl; beyond = refl }

-- bytes laid over the first n
laid : (n at : ℕ) (p l : List ℕ) → at + length p ≤ n → at + length p ≤ length l → Kept n l (overlay at p l)
laid n at p l h k =
    let e : at + length p + (n - (at + length p)) ≡ n = omega arith in
    record { long = length-overlay at p l k; beyond = rw e at (drop-overlay at p l (n - (at + length p)) (omega arith)) }

-- one write after another
again : (n : ℕ) (a b c : List ℕ) → Kept n a b → Kept n b c → Kept n a c
again n a b c h k = record { long = k.long ∙ h.long; beyond = k.beyond ∙ h.beyond }

-- ---- answers

module _ {A : Type 0} (checks : List Check) (refused : ℕ → A) (accepted : A) where
  answers : (number : A → ℕ) → ((n : ℕ) → number (refused n) ≡ n) → number accepted ≡ 0 → Answers checks number refused (answer checks refused accepted)
  answers number r a = record { numbered = answer-shows checks refused accepted number r a; refusal = answer-refused checks refused accepted }

  -- what holds of the result where nothing is refused, and of the refusal, holds of the answer
  either : (P : A → Type 0) → (first checks ≡ 0 → P accepted) → P (refused (first checks)) → P (answer checks refused accepted)
  either P taken not_taken =
      cases (eqb (first checks) 0)
      (λ t. rw (answer-accepted checks refused accepted (eqb-true _ _ t)) (taken (eqb-true _ _ t)))
      (λ t. rw (answer-refused checks refused accepted (eqb-false _ _ t)) not_taken)

-- an operation that writes: its result has room where nothing is refused
module _ (checks : List Check) (result out : List ℕ) where
  abbrev wrote : Wrote
  wrote = record { answer = record { refusal = 0; bytes = length result }; out = overlay 0 result out }

  writes : (first checks ≡ 0 → length result ≤ length out) → Writes checks out (written checks result out)
  unfolding written
  writes room =
      record {
        answers = answers checks (wrote_nothing out) wrote (λ (w : Wrote). w.answer.refusal) (λ n. refl) refl;
        kept =
            either checks (wrote_nothing out) wrote (λ (w : Wrote). Kept w.answer.bytes out w.out)
            (λ z. laid (length result) 0 result out (omega arith) (omega (arith, room z)))
            (same 0 out);
      }

-- ---- the batch writer

packets-long : (pid c : ℕ) (ts : List (List ℕ)) → Packets pid c ts → length (joined ts) ≡ 188 * length ts
unfolding joined
packets-long pid c [] h = refl
packets-long pid c (t ∷ ts) h =
    length-append t (joined ts) ∙ omega (arith, h.0.long, packets-long pid ((c + 1) % 16) ts h.1)

module _ (pid c : ℕ) (batch out : List ℕ) where
  abbrev checks : List Check
  checks = carrying.carry_checks pid c batch (length out)

  abbrev result : List ℕ
  result = joined (carrying.numbered pid c (carrying.loads batch))

  result-long : Carriable pid c batch (length out) → length result ≡ 188 * length (carrying.loads batch)
  result-long k =
      packets-long pid c (carrying.numbered pid c (carrying.loads batch)) (carried-packets pid c batch (length out) k)
      ∙ ap (λ (n : ℕ). 188 * n) (length-numbered pid c (carrying.loads batch))

  carries : Carries checks out (carrying.carry_of pid c batch out)
  unfolding carrying.carry_of
  carries =
      record {
        answers = answers checks (carried_nothing out) _ (λ (x : carrying.Outcome). x.answer.refusal) (λ n. refl) refl;
        kept =
            either checks (carried_nothing out) _ (λ (x : carrying.Outcome). Kept (188 * x.answer.packets) out x.out)
            (λ z. let k = carriable pid c batch (length out) z in
            laid (188 * length (carrying.loads batch)) 0 result out (omega (arith, result-long k)) (omega (arith, result-long k, k.roomy)))
            (same (188 * 0) out);
      }

-- ---- a start

begins : (pid : ℕ) → Starts pid (start_of pid)
unfolding start_of
begins pid =
    record {
      answers = answers (4 when pid_outside pid ∷ []) no_reader _ (λ (x : Started). x.refusal) (λ n. refl) refl;
      fit = λ h. rw (start-taken pid h) (fresh-fit pid h);
    }

-- ---- gathering

-- what joins is stored within the packet's own length
joiners-few : (d : List ℕ) (h : Hand) → Bytes (h.waiting ++ d) → length h.waiting ≤ 8202 → length h.waiting + length (joiners d h) ≤ 8202
unfolding joiners
joiners-few d h b k =
    cases h.step
    (λ s. cases (none h.waiting)
    (λ z. rw (s, z) (omega arith))
    (λ z. let n : ℕ = size_of (h.waiting ++ d) - length h.waiting in
    rw (s, z, length-take n d) (omega (arith, min-le_left n (length d), size-most (h.waiting ++ d) b))))
    (λ s. rw s (omega arith))

module _ (s : Reader) (t g o : List ℕ) (bt : Bytes t) (bg : Bytes g) (p : Passed s t (length g) (length o)) where
  abbrev e : Hand
  e = entered_of s t g

  abbrev d : List ℕ
  d = (brought_by t).before

  abbrev r : Hand
  r = result_of s t g

  waiting_few : length e.waiting ≤ 8202
  waiting_few =
      rule-cases (λ h. Bytes h.waiting → length h.waiting ≤ 8202) s.last (brought_by t).count (in_hand s g)
      (λ b. omega arith)
      (λ b. omega arith)
      (λ k b. let w : List ℕ = take s.waiting g in omega (arith, leb-false (size_of w) (length w) k, size-most w b))
      (entered-bytes s t g bg)

  gathering-kept : Kept 8202 g (taken_of s t g o).gathering
  unfolding taken_of
  gathering-kept =
      let j : length e.waiting + length (joiners d e) ≤ 8202 = joiners-few d e (both_bytes s t g bt bg) waiting_few in
      let w : length r.waiting ≤ 8201 = result-few s t g o bt bg p.fit in
      let m : List ℕ = overlay (length e.waiting) (joiners d e) g in
      let k : Kept 8202 g m = laid 8202 (length e.waiting) (joiners d e) g j (omega (arith, p.roomy)) in
      again 8202 g m (overlay 0 r.waiting m) k (laid 8202 0 r.waiting m (omega arith) (omega (arith, k.long, p.roomy)))

  output-kept : Kept (taken_of s t g o).answer.bytes o (taken_of s t g o).output
  unfolding taken_of
  output-kept =
      laid (length (joined r.packets)) 0 (joined r.packets) o (omega arith) (omega (arith, packets-few s t g bt bg p.whole, p.spacious))

module _ (s : Reader) (t g o : List ℕ) where
  abbrev asked : List Check
  asked = gather_checks s t (length g) (length o)

  gathers : Gathers s t g o (gather_of s t g o)
  unfolding gather_of
  gathers =
      record {
        answers = answers asked (gathered_nothing s g o) (taken_of s t g o) (λ (x : Outcome). x.answer.refusal) (λ n. refl) (unfold taken_of in refl);
        output = λ bt bg. either asked (gathered_nothing s g o) (taken_of s t g o) (λ (x : Outcome). Kept x.answer.bytes o x.output)
            (λ z. output-kept s t g o bt bg (passed s t (length g) (length o) z))
            (same 0 o);
        gathering = λ bt bg. either asked (gathered_nothing s g o) (taken_of s t g o) (λ (x : Outcome). Kept 8202 g x.gathering)
            (λ z. gathering-kept s t g o bt bg (passed s t (length g) (length o) z))
            (same 8202 g);
        fit = gather-fit s t g o;
      }

-- ---- DEMAND 1

pub meets-one : Demand1 ours
unfolding packet_writing.write_of stamp_writing.write_of function_writing.write_of addressing_payload.write_of mip_writing.write_of
meets-one =
    record {
      packet_read = λ s. record { numbered = packet.read-shows s; refusal = λ h. (packet.read-refused s h).0 };
      packet_payload = λ s h. (packet.read-refused s h).1;
      packet_write = λ h payload out. writes (packet_writing.write_checks h payload (length out)) (packet_writing.packet_bytes h payload) out
          (λ z. let w = packet_fields.writable h payload out z in omega (arith, packet.length-packet h payload, w.size, w.room));
      stamp_read = λ payload. record { numbered = stamp.read-shows payload; refusal = stamp.read-refused payload };
      stamp_write = λ s out. writes (stamp_writing.write_checks s (length out)) (stamp_writing.stamp_bytes s) out
          (λ z. omega (arith, stamp.length-stamp s, (stamp_fields.writable s out z).room));
      function_read = λ tag body. record { numbered = function.read-shows tag body; refusal = function.read-refused tag body };
      function_write = λ f carried out. writes (function_writing.write_checks f carried (length out)) (body_of f carried) out
          (λ z. (function.writable f carried out z).room);
      addressing_read = λ p. record { numbered = addressing.read-shows house p; refusal = λ h. (addressing.read-refused house p h).0 };
      addressing_data = λ p h. (addressing.read-refused house p h).1;
      addressing_write = λ d out. writes (addressing_payload.write_checks house d (length out)) (addressing_payload.payload_bytes d) out
          (λ z. omega (arith, (addressing.writable house d out z).room));
      walk = λ d tx place. record { numbered = walk-shows house d tx place; refusal = walk_refused house d tx place };
      mip_read = λ p. record { numbered = mip.read-shows p; refusal = λ h. (mip.read-refused p h).0 };
      mip_addressing = λ p h. (mip.read-refused p h).1;
      mip_write = λ m d out. writes (mip_writing.write_checks m d (length out)) (mip_writing.mip_bytes m d) out
          (λ z. let w = mip_fields.writable m d out z in omega (arith, mip.length-mip m d w.short, w.room));
      emission = λ stamp delay offset. record { numbered = emission-shows stamp delay offset; refusal = emission-refused stamp delay offset };
      extra_delay = λ stamp delay offset reception. record { numbered = extra-shows stamp delay offset reception; refusal = extra-refused stamp delay offset reception };
      carry = carries;
      start = begins;
      gather = gathers;
    }
