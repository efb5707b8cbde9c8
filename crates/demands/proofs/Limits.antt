-- Why a run of 14 is the longest: what our reader makes of the writer's next transport packet where j were lost since the last
-- one taken. Its count is all that tells of them, and there are 16 counts.
-- Assumes nothing.
use mathlib.Core.Path.{◌≡◌, refl, sym, ap, ◌∙◌}
use Prim.Native.Nat.{ℕ, ◌+◌, ◌%◌, ◌≤◌, ◌<◌}
use mathlib.Core.Bool.{Bool, true, false, not}
use mathlib.Core.List.{List, ◌∷◌, []}
use native.Mathlib.Omega.{arith}
use lib.Dec.{eqb}
use lib.ListN.{length, take, drop}
use borrow.Author.Tests.{eq-eqb, ne_eqb, ltb-false}
use Rattle.fields.proofs.Cases.{cases}
use Rattle.refusals.specs.Checks.{first}
use Rattle.packet.specs.Layout.{size_of}
use Rattle.transport.specs.Header.{count_of}
use Rattle.transport.specs.Tests.{transport_checks}
use Rattle.transport.specs.Load.{Load, transport_of}
use Rattle.transport.proofs.LoadLaws.{Sound, transport-length, found}
use Rattle.carry.proofs.Theorems.{pid-small}
use Rattle.gather.specs.State.{count_over, unfit, repeats}
use Rattle.gather.specs.Rules.{none, Brought, brought_by, Hand, hands_out, out_of_turn, reaches, unfinished, up_to_start, rules_on}
use Rattle.gather.specs.Gather.{Outcome, in_hand, entered_of, refused_of, taken_of, gather_of}
use Rattle.std.specs.Prelude.{Option, Some}
use Rattle.gather.specs.declared.Reader.{Reader}
use Rattle.gather.proofs.RefusalLaws.{fit_parts, carriage-taken}
use Rattle.gather.proofs.EnterLaws.{rule-lost, rule-altered, rule-kept}
use Rattle.gather.proofs.JoinLaws.{joint, stage_cases}
use Rattle.gather.proofs.GatherLaws.{gather-refused, gather-taken}
use Rattle.gather.proofs.StateLaws.{strays-cases, from-start-cases, rules-cases}
use Rattle.gather.proofs.ReadingLaws.{writers-passes, accepted}

-- ---- only rule 1 marks a loss

module _ (loss : Bool) where
  abbrev HasLoss : Hand → Type 0
  HasLoss h = h.marks.loss ≡ loss

  stage-marks : (d : List ℕ) (h : Hand) → HasLoss h → HasLoss (up_to_start d h)
  stage-marks d h m =
      stage_cases d h HasLoss
      (λ b. m)
      (λ b w. strays-cases HasLoss d h m m)
      (λ b z k. m)
      m
      (λ k c. strays-cases HasLoss (drop (size_of (joint d h)) (joint d h)) (hands_out (take (size_of (joint d h)) (joint d h) ∷ []) h) m m)

  unfinished-marks : (h : Hand) → HasLoss h → HasLoss (unfinished h)
  unfinished-marks h m = cases (none h.waiting) (λ b. rw b m) (λ b. rw b m)

  rules-marks : (b : Brought) (h : Hand) → HasLoss h → HasLoss (rules_on b h)
  rules-marks b h m =
      let front : HasLoss (up_to_start b.before h) = stage-marks b.before h m in
      rules-cases HasLoss b h front
      (from-start-cases HasLoss b.onward (unfinished (up_to_start b.before h)) (λ e. unfinished-marks (up_to_start b.before h) front) (λ e. unfinished-marks (up_to_start b.before h) front))

-- ---- where j are lost

-- a call that is not refused, with the loss mark or without
pub record Takes (loss : Bool) (o : Outcome) : Type 0 where
  pub refusal : o.answer.refusal ≡ 0
  pub loss-is : o.answer.marks.loss ≡ loss

module _ (s : Reader) (n : ℕ) (l : Load) (g o : List ℕ) (fit : unfit s ≡ false) (last : s.last ≡ Some n) (sound : Sound l) (room : 8202 ≤ length g) (space : 8385 ≤ length o) where
  -- the writer's next one to come
  abbrev after : ℕ → List ℕ
  after j = transport_of s.pid ((n + 1 + j) % 16) l

  small-pid : s.pid < 8192
  small-pid = pid-small s.pid (fit_parts s fit).inside

  small_count : n < 16
  small_count = let c : count_over (Some n) ≡ false = rw last at (fit_parts s fit).counted in omega (arith, ltb-false 15 n c)

  module _ (j : ℕ) where
    abbrev c : ℕ
    c = (n + 1 + j) % 16

    below-16 : (m : ℕ) → m % 16 < 16
    below-16 m = omega arith

    counted : count_of (after j) ≡ c
    counted = (found s.pid c l small-pid (below-16 (n + 1 + j)) sound).counted

    passes : first (transport_checks s.pid (after j)) ≡ 0
    passes = writers-passes s.pid c l small-pid (below-16 (n + 1 + j)) sound

    long : length (after j) ≡ 188
    long = transport-length s.pid c l sound

    -- it is taken where its count is another, and what rule 1 marked is told
    takes : (loss : Bool) → (c ≡ n → ⊥) → (entered_of s (after j) g).marks.loss ≡ loss → Takes loss (gather_of s (after j) g o)
    takes loss h e =
        let new : repeats s.last (count_of (after j)) ≡ false = ap (λ (x : Option ℕ). repeats x (count_of (after j))) last ∙ ap (λ (k : ℕ). eqb k n) counted ∙ ne_eqb c n h in
        rw (gather-taken s (after j) g o (accepted s (after j) (length g) (length o) fit long room space passes new))
        (record { refusal = unfold taken_of in refl; loss-is = (unfold taken_of in rules-marks loss (brought_by (after j)) (entered_of s (after j) g) e) })

    turned : out_of_turn s.last (brought_by (after j)).count ≡ not (eqb c ((n + 1) % 16))
    unfolding brought_by
    turned = ap (λ (x : Option ℕ). out_of_turn x (count_of (after j))) last ∙ ap (λ (k : ℕ). not (eqb k ((n + 1) % 16))) counted

  -- up to 14: the loss is marked
  pub few-lost : (j : ℕ) → 0 < j → j ≤ 14 → Takes true (gather_of s (after j) g o)
  few-lost j a b =
      let t : out_of_turn s.last (brought_by (after j)).count ≡ true = turned j ∙ ap not (ne_eqb ((n + 1 + j) % 16) ((n + 1) % 16) (λ e. omega (arith, small_count))) in
      takes j true (λ e. omega (arith, small_count)) (ap (λ (h : Hand). h.marks.loss) (rule-lost s.last (brought_by (after j)).count (in_hand s g) t))

  -- 15: it looks like a repeat. The number, zeros, the old state, both buffers as they were
  pub fifteen-lost : gather_of s (after 15) g o ≡ refused_of s g o 12
  fifteen-lost =
      let same : (n + 1 + 15) % 16 ≡ n = omega (arith, small_count) in
      let again : repeats s.last (count_of (after 15)) ≡ true = ap (λ (x : Option ℕ). repeats x (count_of (after 15))) last ∙ ap (λ (k : ℕ). eqb k n) (counted 15) ∙ eq-eqb ((n + 1 + 15) % 16) n same in
      sym (gather-refused s (after 15) g o 12 (carriage-taken s (after 15) (length g) (length o) fit (long 15) room space true (sym (passes 15)) again) (λ e. omega arith))

  -- 16: unseen. What waits is joined with what comes, and only the CRC can tell
  pub sixteen-lost : Takes false (gather_of s (after 16) g o)
  sixteen-lost =
      let t : out_of_turn s.last (brought_by (after 16)).count ≡ false = turned 16 ∙ ap not (eq-eqb ((n + 1 + 16) % 16) ((n + 1) % 16) (omega arith)) in
      takes 16 false (λ e. omega (arith, small_count)) (unmarked t)
    where
      unmarked : out_of_turn s.last (brought_by (after 16)).count ≡ false → (entered_of s (after 16) g).marks.loss ≡ false
      unmarked t =
          cases (reaches (in_hand s g).waiting)
          (λ r. ap (λ (h : Hand). h.marks.loss) (rule-altered s.last (brought_by (after 16)).count (in_hand s g) t r))
          (λ r. ap (λ (h : Hand). h.marks.loss) (rule-kept s.last (brought_by (after 16)).count (in_hand s g) t r))
