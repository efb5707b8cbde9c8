-- The laws of the state between two calls: what waits is the start of a packet that is not finished, a fit state stays fit,
-- and a refusal changes nothing.
-- Assumes nothing.
use mathlib.Core.Path.{◌≡◌, refl, sym, ap, ◌∙◌}
use mathlib.Core.Bool.{Bool, true, false}
use mathlib.Core.List.{List, [], ◌∷◌}
use Prim.Native.Nat.{ℕ, zero, suc, ◌≤◌, ◌<◌}
use native.Mathlib.Omega.{arith}
use lib.Dec.{leb, eqb, lit<}
use lib.ListN.{length, take, drop, length-drop}
use lib.Seq.{drop_at}
use borrow.Author.Tests.{eqb-true, eqb-false, leb-true, leb-false, le-ltb, lt-ltb}
use Rattle.crc.specs.Crc.{crc_holds}
use Rattle.fields.specs.Numbers.{Bytes}
use Rattle.fields.proofs.Cases.{cases, true≢false}
use Rattle.fields.proofs.NumberLaws.{bytes_take, bytes_drop, bytes-append}
use Rattle.refusals.specs.Checks.{first}
use Rattle.refusals.specs.Answers.{answer}
use Rattle.refusals.specs.declared.Refusal.{Refusal}
use Rattle.refusals.proofs.NumberLaws.{number-not-0}
use Rattle.refusals.proofs.AnswerLaws.{answer-shows}
use Rattle.packet.specs.Layout.{size_of}
use Rattle.packet.specs.Cut.{cut, joined}
use Rattle.packet.proofs.LayoutLaws.{size-least, size-most}
use Rattle.packet.proofs.CutLaws.{cut_short, cut-bad, cut-good, cut-cuts}
use Rattle.transport.specs.Header.{starts, carried_at, carried_by, pointer_of}
use Rattle.transport.specs.Tests.{pid_outside}
use Rattle.transport.proofs.HeaderLaws.{count-few}
use Rattle.gather.specs.State.{Started, started_told, fresh, no_reader, start_of, waits_out_of_step, unfit, gather_checks}
use Rattle.gather.specs.Rules.{none, Brought, brought_by, Hand, lost, misfits, crc_fails, waits, hands_out, out_of_turn, reaches, strays, rule_one, up_to_start, unfinished, from_start, rules_on}
use Rattle.gather.specs.Gather.{Outcome, in_hand, entered_of, result_of, refused_of, taken_of, gather_of}
use Rattle.gather.specs.Theorems.{InOrder}
use Rattle.std.specs.Prelude.{Option, Result, Ok, Err}
use Rattle.gather.specs.declared.Reader.{Reader}
use Rattle.gather.proofs.RefusalLaws.{Fit, fit_parts, fit-whole}
use Rattle.gather.proofs.EnterLaws.{rule-lost, rule-altered, rule-kept}
use Rattle.gather.proofs.JoinLaws.{joint, stage_cases}
use Rattle.gather.proofs.GatherLaws.{gather-refused, gather-taken}

-- ---- a started reader is fit

pub start-taken : (pid : ℕ) → pid_outside pid ≡ false → start_of pid ≡ record { refusal = 0; reader = fresh pid }
unfolding start_of answer
start-taken pid h = rw h

pub start-refused : (pid : ℕ) → pid_outside pid ≡ true → start_of pid ≡ record { refusal = 4; reader = no_reader }
unfolding start_of answer
start-refused pid h = rw h

pub start-ok : (pid : ℕ) → pid_outside pid ≡ false → (r : Result Reader Refusal) → started_told r ≡ start_of pid → r ≡ Ok (fresh pid)
start-ok pid h (Ok s) e = ap Ok (ap (λ (x : Started). x.reader) (e ∙ start-taken pid h))
start-ok pid h (Err x) e = absurd (number-not-0 x (ap (λ (y : Started). y.refusal) (e ∙ start-taken pid h)))

pub fresh-fit : (pid : ℕ) → pid_outside pid ≡ false → unfit (fresh pid) ≡ false
unfolding unfit
fresh-fit pid h = rw h

-- ---- each stage by its cases

pub rule-cases : (P : Hand → Type 0) (last : Option ℕ) (count : ℕ) (h : Hand) → P (lost h) → P (misfits h) → (reaches h.waiting ≡ false → P h) → P (rule_one last count h)
rule-cases P last count h gone altered kept =
    cases (out_of_turn last count)
    (λ b. rw (rule-lost last count h b) gone)
    (λ b. cases (reaches h.waiting)
    (λ r. rw (rule-altered last count h b r) altered)
    (λ r. rw (rule-kept last count h b r) (kept r)))

pub strays-cases : (P : Hand → Type 0) (l : List ℕ) (h : Hand) → P h → P (misfits h) → P (strays l h)
strays-cases P l h even over = cases (none l) (λ b. rw b even) (λ b. rw b over)

pub from-start-cases : (P : Hand → Type 0) (l : List ℕ) (h : Hand) → ((cut l).bad ≡ true → P (crc_fails (hands_out (cut l).packets h))) → ((cut l).bad ≡ false → P (waits (cut l).rest (hands_out (cut l).packets h)))
    → P (from_start l h)
unfolding from_start
from-start-cases P l h bad good = cases (cut l).bad (λ b. rw b (bad b)) (λ b. rw b (good b))

pub rules-cases : (P : Hand → Type 0) (b : Brought) (h : Hand) → P (up_to_start b.before h) → P (from_start b.onward (unfinished (up_to_start b.before h))) → P (rules_on b h)
unfolding rules_on
rules-cases P b h plain start = cases b.begins (λ e. rw e start) (λ e. rw e plain)

-- ---- what waits is not finished

empty-order : (h : Hand) → h.waiting ≡ [] → InOrder h
empty-order h z = record { short = rw z (omega (arith, size-least [])); idle = λ s. z }

-- the rest of a cut is not finished
rest-short-by : (k : ℕ) (l : List ℕ) → length l ≤ k → (cut l).bad ≡ false → length (cut l).rest < size_of (cut l).rest
rest-short-by zero l i b = let s : length l < size_of l = omega (arith, size-least l) in rw (cut_short l s) s
rest-short-by (suc k) l i b =
    cases (leb (size_of l) (length l))
    (λ t. let q : size_of l ≤ length l = leb-true _ _ t in
    cases (crc_holds (take (size_of l) l))
    (λ c. rw (cut-good l q c) (rest-short-by k (drop (size_of l) l) (simp length-drop (omega (arith, size-least l))) (rw (cut-good l q c) at b)))
    (λ c. absurd (true≢false (rw (cut-bad l q c) at b))))
    (λ t. let s : length l < size_of l = leb-false _ _ t in rw (cut_short l s) s)

pub rest-short : (l : List ℕ) → (cut l).bad ≡ false → length (cut l).rest < size_of (cut l).rest
rest-short l b = rest-short-by (length l) l (omega arith) b

pub rule-order : (last : Option ℕ) (count : ℕ) (h : Hand) → (h.step ≡ false → h.waiting ≡ []) → InOrder (rule_one last count h)
rule-order last count h i =
    rule-cases InOrder last count h (empty-order (lost h) refl) (empty-order (misfits h) refl) (λ r. record { short = leb-false _ _ r; idle = i })

pub stage-order : (d : List ℕ) (h : Hand) → InOrder h → InOrder (up_to_start d h)
stage-order d h s =
    stage_cases d h InOrder
    (λ b. s)
    (λ b w. strays-cases InOrder d h s (empty-order (misfits h) refl))
    (λ b z k. record { short = k; idle = λ e. absurd (true≢false e) })
    (empty-order (crc_fails h) refl)
    (λ k c. let out : Hand = hands_out (take (size_of (joint d h)) (joint d h) ∷ []) h in
    strays-cases InOrder (drop (size_of (joint d h)) (joint d h)) out (empty-order out refl) (empty-order (misfits out) refl))

pub from-start-order : (l : List ℕ) (h : Hand) → InOrder (from_start l h)
from-start-order l h =
    from-start-cases InOrder l h
    (λ b. empty-order (crc_fails (hands_out (cut l).packets h)) refl)
    (λ b. record { short = rest-short l b; idle = λ e. absurd (true≢false e) })

pub rules-order : (b : Brought) (h : Hand) → InOrder h → InOrder (rules_on b h)
rules-order b h s = rules-cases InOrder b h (stage-order b.before h s) (from-start-order b.onward (unfinished (up_to_start b.before h)))

-- after any call of a fit state
pub result-order : (s : Reader) (t g : List ℕ) → unfit s ≡ false → InOrder (result_of s t g)
result-order s t g u =
    rules-order (brought_by t) (entered_of s t g) (rule-order s.last (brought_by t).count (in_hand s g) (λ e. nothing s.waiting s.in_step e (fit_parts s u).idle))
  where
    nothing : (w : ℕ) (b : Bool) → b ≡ false → waits_out_of_step b w ≡ false → take w g ≡ []
    nothing zero b e h = refl
    nothing (suc w) true e h = absurd (true≢false e)
    nothing (suc w) false e h = absurd (true≢false (sym (lt-ltb 0 (suc w) (omega arith)) ∙ h))

-- ---- what waits is bytes

abbrev WaitsBytes : Hand → Type 0
WaitsBytes h = Bytes h.waiting

pub no_bytes : Bytes []
no_bytes i = lit< tt

pub stage-bytes : (d : List ℕ) (h : Hand) → Bytes d → Bytes h.waiting → Bytes (up_to_start d h).waiting
stage-bytes d h bd bh =
    stage_cases d h WaitsBytes
    (λ b. bh)
    (λ b w. strays-cases WaitsBytes d h bh no_bytes)
    (λ b z k. bytes-append h.waiting d bh bd)
    no_bytes
    (λ k c. strays-cases WaitsBytes (drop (size_of (joint d h)) (joint d h)) (hands_out (take (size_of (joint d h)) (joint d h) ∷ []) h) no_bytes no_bytes)

rest-is : (l : List ℕ) → (cut l).rest ≡ drop (length (joined (cut l).packets)) l
rest-is l =
    sym (ap (drop (length (joined (cut l).packets))) (sym (cut-cuts l).bytes) ∙ drop_at (joined (cut l).packets) (cut l).rest (length (joined (cut l).packets)) refl)

pub from-start-bytes : (l : List ℕ) (h : Hand) → Bytes l → Bytes (from_start l h).waiting
from-start-bytes l h b =
    from-start-cases WaitsBytes l h (λ e. no_bytes) (λ e. rw (rest-is l) (bytes_drop (length (joined (cut l).packets)) l b))

module _ (t : List ℕ) (bt : Bytes t) where
  carried-are : Bytes (carried_by t)
  unfolding carried_by
  carried-are = bytes_drop (carried_at t) t bt

  pub before-bytes : Bytes (brought_by t).before
  unfolding brought_by
  before-bytes = cases (starts t) (λ e. rw e (bytes_take (pointer_of t) (carried_by t) carried-are)) (λ e. rw e carried-are)

  pub onward-bytes : Bytes (brought_by t).onward
  unfolding brought_by
  onward-bytes = cases (starts t) (λ e. rw e (bytes_drop (pointer_of t) (carried_by t) carried-are)) (λ e. rw e no_bytes)

pub entered-bytes : (s : Reader) (t g : List ℕ) → Bytes g → Bytes (entered_of s t g).waiting
entered-bytes s t g bg = rule-cases WaitsBytes s.last (brought_by t).count (in_hand s g) no_bytes no_bytes (λ r. bytes_take s.waiting g bg)

pub result-bytes : (s : Reader) (t g : List ℕ) → Bytes t → Bytes g → Bytes (result_of s t g).waiting
result-bytes s t g bt bg =
    rules-cases WaitsBytes (brought_by t) (entered_of s t g)
    (stage-bytes (brought_by t).before (entered_of s t g) (before-bytes t bt) (entered-bytes s t g bg))
    (from-start-bytes (brought_by t).onward (unfinished (up_to_start (brought_by t).before (entered_of s t g))) (onward-bytes t bt))

-- ---- a refusal changes nothing

module _ (s : Reader) (t g o : List ℕ) where
  pub gather-shows : (gather_of s t g o).answer.refusal ≡ first (gather_checks s t (length g) (length o))
  unfolding gather_of taken_of
  gather-shows = answer-shows (gather_checks s t (length g) (length o)) (refused_of s g o) (taken_of s t g o) (λ (x : Outcome). x.answer.refusal) (λ n. refl) refl

  pub refusal-changes-nothing : ((gather_of s t g o).answer.refusal ≡ 0 → ⊥) → gather_of s t g o ≡ refused_of s g o (gather_of s t g o).answer.refusal
  refusal-changes-nothing h =
      sym (gather-refused s t g o (gather_of s t g o).answer.refusal gather-shows h)

  -- ---- a fit state stays fit, and what waits is at most 8,201 bytes

  pub result-few : Bytes t → Bytes g → unfit s ≡ false → length (result_of s t g).waiting ≤ 8201
  result-few bt bg u = omega (arith, (result-order s t g u).short, size-most (result_of s t g).waiting (result-bytes s t g bt bg))

  taken-fit : Bytes t → Bytes g → unfit s ≡ false → Fit (taken_of s t g o).answer.reader
  unfolding taken_of
  taken-fit bt bg u =
      record {
        inside = (fit_parts s u).inside;
        counted = le-ltb 15 (brought_by t).count (unfold brought_by in omega (arith, count-few t));
        few = result-few bt bg u;
        idle = cases (result_of s t g).step (λ e. rw e) (λ e. rw (e, (result-order s t g u).idle e));
      }

  pub gather-fit : Bytes t → Bytes g → unfit s ≡ false → unfit (gather_of s t g o).answer.reader ≡ false
  gather-fit bt bg u =
      cases (eqb (first (gather_checks s t (length g) (length o))) 0)
      (λ e. rw (gather-taken s t g o (eqb-true _ _ e)) (fit-whole (taken_of s t g o).answer.reader (taken-fit bt bg u)))
      (λ e. rw (← gather-refused s t g o (first (gather_checks s t (length g) (length o))) refl (eqb-false _ _ e)) u)
