-- A reader's state as C has it is its state as the crate `gather` has it, one for one; and a refused call hands back the very
-- state that was handed in.
-- Assumes nothing.
use mathlib.Core.Path.{◌≡◌, refl, sym, ap, ◌∙◌}
use mathlib.Core.Bool.{Bool, true, false}
use mathlib.Core.List.{List}
use Prim.Native.Nat.{ℕ, zero, suc, ◌≤◌}
use native.Mathlib.Omega.{arith}
use lib.Dec.{eqb}
use lib.ListN.{length}
use borrow.Author.Tests.{eqb-true, eqb-false, ne_eqb, le-ltb, ltb-false}
use Rattle.fields.proofs.Cases.{cases}
use Rattle.refusals.specs.Checks.{Check, first}
use Rattle.refusals.specs.Answers.{answer}
use Rattle.refusals.proofs.AnswerLaws.{answer-shows, answer-accepted, answer-refused}
use Rattle.transport.specs.Header.{count_of}
use Rattle.transport.proofs.HeaderLaws.{count-few}
use Rattle.gather.specs.Rules.{brought_by}
use Rattle.gather.specs.State.{count_over, unfit, gather_checks}
use Rattle.gather.specs.Gather.{refused_of, taken_of, gather_of}
use Rattle.std.specs.Prelude.{Option, None, Some}
use Rattle.gather.specs.Marks.{no_marks}
use Rattle.gather.specs.declared.Reader.{Reader}
use Rattle.gather.proofs.RefusalLaws.{fit_parts}
use Rattle.gather.proofs.GatherLaws.{gather-refused, gather-taken}
use Rattle.sfn.specs.Answers.{bit_of}
use Rattle.sfn.specs.Reader.{last_from, last_of, reader_of, reader_from, SfnOutcome, outcome_of, refused_with, refused_by, gathering_checks, gathered_by}
use Rattle.sfn.specs.declared.reader.SfnReader.{SfnReader}

-- ---- a state of C's, and the reader's state that it stands for

last-back : (n : ℕ) → last_of (last_from n) ≡ n
unfolding last_from
last-back n = cases (eqb n 255) (λ t. rw t (sym (eqb-true _ _ t))) (λ t. rw t)

bit-back : (n : ℕ) → n ≤ 1 → bit_of (eqb n 1) ≡ n
bit-back zero h = refl
bit-back (suc zero) h = refl
bit-back (suc (suc n)) h = absurd (omega arith)

-- any PID, any count and any number of waiting bytes come back
pub reader-back : (r : SfnReader) → r.in_step ≤ 1 → reader_of (reader_from r) ≡ r
reader-back r h =
    λ i. record { pid = r.pid; last = last-back r.last i; in_step = bit-back r.in_step h i; waiting = r.waiting }

last-forth : (l : Option ℕ) → count_over l ≡ false → last_from (last_of l) ≡ l
unfolding last_from
last-forth None h = refl
last-forth (Some n) h = rw (ne_eqb n 255 (λ e. absurd (omega (arith, ltb-false 15 n h))))

bit-forth : (b : Bool) → eqb (bit_of b) 1 ≡ b
bit-forth true = refl
bit-forth false = refl

-- and so does any reader's state whose count is one
pub state-back : (s : Reader) → count_over s.last ≡ false → reader_from (reader_of s) ≡ s
state-back s c =
    λ i. record { pid = s.pid; last = last-forth s.last c i; in_step = bit-forth s.in_step i; waiting = s.waiting }

-- no call gives another: what it takes has a count of four bits
pub counted-on : (s : Reader) (t g o : List ℕ) → count_over s.last ≡ false → count_over (gather_of s t g o).answer.reader.last ≡ false
unfolding taken_of brought_by
counted-on s t g o c =
    cases (eqb (first (gather_checks s t (length g) (length o))) 0)
    (λ z. rw (gather-taken s t g o (eqb-true _ _ z)) (le-ltb 15 (count_of t) (omega (arith, count-few t))))
    (λ z. rw (← gather-refused s t g o (first (gather_checks s t (length g) (length o))) refl (eqb-false _ _ z)) c)

-- ---- what the C function does is what `gather` does, laid out flat

module _ (r : SfnReader) (t g o : List ℕ) where
  abbrev checks : List Check
  checks = gather_checks (reader_from r) t (length g) (length o)

  abbrev asked : List Check
  asked = gathering_checks r t (length g) (length o)

  pub gathered-shows : (gathered_by r t g o).answer.refusal ≡ first asked
  unfolding gathered_by taken_of
  gathered-shows = answer-shows asked (refused_by r g o) _ (λ (x : SfnOutcome). x.answer.refusal) (λ n. refl) refl

  -- A REFUSED CALL CHANGES NOTHING: it gives its number and zeros, the reader that was handed in, field by field as C has it,
  -- and both buffers as they were
  pub refused-state : ((gathered_by r t g o).answer.refusal ≡ 0 → ⊥) → gathered_by r t g o ≡ refused_by r g o (gathered_by r t g o).answer.refusal
  unfolding gathered_by
  refused-state h =
      answer-refused asked (refused_by r g o) _ (λ z. h (gathered-shows ∙ z)) ∙ ap (refused_by r g o) (sym gathered-shows)

  module _ (h : r.in_step ≤ 1) where
    asked-on : first asked ≡ first checks
    asked-on = rw (le-ltb 1 r.in_step h)

    flat-refused : (n : ℕ) → outcome_of (refused_of (reader_from r) g o n) ≡ refused_by r g o n
    flat-refused n = ap (λ (x : SfnReader). refused_by x g o n) (reader-back r h)

    unfit-kept : unfit (reader_from r) ≡ true → (gather_of (reader_from r) t g o).answer.reader ≡ reader_from r
    unfolding gather_of gather_checks answer
    unfit-kept u = rw u

    pub gathered-flat : outcome_of (gather_of (reader_from r) t g o) ≡ gathered_by r t g o
    unfolding gathered_by
    gathered-flat =
        cases (eqb (first checks) 0)
        (λ z. let n : first checks ≡ 0 = eqb-true _ _ z in
        ap outcome_of (gather-taken (reader_from r) t g o n) ∙ sym (answer-accepted asked (refused_by r g o) _ (asked-on ∙ n)))
        (λ z. let n : first checks ≡ 0 → ⊥ = eqb-false _ _ z in
        ap outcome_of (sym (gather-refused (reader_from r) t g o (first checks) refl n))
        ∙ flat-refused (first checks)
        ∙ ap (refused_by r g o) (sym asked-on)
        ∙ sym (answer-refused asked (refused_by r g o) _ (λ e. n (sym asked-on ∙ e))))

    -- as the code comes to a refusal: it hands back the reader that it was handed
    pub gathered-refused : (n : ℕ) (s : Reader) (g' o' : List ℕ) → record { answer = record { refusal = n; reader = s; bytes = 0; packets = 0; marks = no_marks }; gathering = g'; output = o' } ≡ gather_of (reader_from r) t g o
        → (n ≡ 0 → ⊥)
        → record { answer = refused_with r n; gathering = g'; out = o' } ≡ gathered_by r t g o
    gathered-refused n s g' o' e h =
        let flat = ap outcome_of e ∙ gathered-flat in
        let shown : n ≡ (gathered_by r t g o).answer.refusal = ap (λ (x : SfnOutcome). x.answer.refusal) flat in
        let same : gathered_by r t g o ≡ refused_by r g o n = refused-state (λ z. h (shown ∙ z)) ∙ ap (refused_by r g o) (sym shown) in
        ap (λ (x : SfnOutcome). record { answer = refused_with r n; gathering = x.gathering; out = x.out }) (flat ∙ same) ∙ sym same

    -- THE NEXT CALL begins from the state that this one left: C may keep it as it came
    pub next-state : reader_from (gathered_by r t g o).answer.reader ≡ (gather_of (reader_from r) t g o).answer.reader
    next-state =
        ap (λ (x : SfnOutcome). reader_from x.answer.reader) (sym gathered-flat)
        ∙ cases (unfit (reader_from r))
        (λ u. rw (unfit-kept u) (ap reader_from (reader-back r h)))
        (λ u. state-back (gather_of (reader_from r) t g o).answer.reader (counted-on (reader_from r) t g o (fit_parts (reader_from r) u).counted))
