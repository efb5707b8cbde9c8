-- The laws of gathering: what a call answers by what its stages gave, and where the waiting bytes then lie.
-- Assumes nothing.
use mathlib.Core.Path.{◌≡◌, refl, ap, ◌∙◌}
use mathlib.Core.Bool.{true, false}
use mathlib.Core.List.{List, [], ◌∷◌, ◌++◌}
use Prim.Native.Nat.{ℕ, ◌+◌, ◌-◌, ◌≤◌}
use native.Mathlib.Omega.{arith}
use lib.ListN.{length, take, drop, length-append}
use lib.Seq.{take_all}
use Rattle.std.specs.Prelude.{Result, IsErrAnd}
use Rattle.std.proofs.lemmas.Result.{err_from_is_err_and}
use Rattle.fields.specs.Parts.{overlay}
use Rattle.fields.proofs.Cases.{cases}
use Rattle.fields.proofs.PartLaws.{overlay-none, overlay-same, take-overlay}
use Rattle.refusals.specs.Checks.{first}
use Rattle.refusals.specs.Refusals.{number_of}
use Rattle.refusals.specs.declared.Refusal.{Refusal}
use Rattle.refusals.proofs.NumberLaws.{number-not-0}
use Rattle.refusals.proofs.AnswerLaws.{answer-accepted, answer-number}
use Rattle.packet.specs.Layout.{size_of}
use Rattle.transport.specs.Header.{count_of, starts, payload_at, pointer_of, carried_at, carried_by}
use Rattle.gather.specs.State.{gather_checks}
use Rattle.gather.specs.Rules.{none, brought_by, Hand, hands_out, strays, rule_one, up_to_start, rules_on}
use Rattle.gather.specs.Gather.{Gathered, gathered_told, in_hand, joiners, refused_of, taken_of, gather_of}
use Rattle.gather.specs.declared.Gathered as given
use Rattle.gather.specs.Phases.{answer_by, numbers, InHand, led_of, with_start_of}
use Rattle.gather.specs.declared.Reader.{Reader}
use Rattle.gather.proofs.EnterLaws.{Stands}
use Rattle.gather.proofs.JoinLaws.{passes-joiners, some-join, joint, stage_cases}

-- ---- refused or taken

module _ (s : Reader) (t g o : List ℕ) where
  pub gather-refused : (n : ℕ) → n ≡ first (gather_checks s t (length g) (length o)) → (n ≡ 0 → ⊥) → refused_of s g o n ≡ gather_of s t g o
  unfolding gather_of
  gather-refused n e h = answer-number (gather_checks s t (length g) (length o)) (refused_of s g o) (taken_of s t g o) n e h

  pub gather-exit : (r : Result given.Gathered Refusal) (e : Refusal) → IsErrAnd r (λ y. y ≡ e) → number_of e ≡ first (gather_checks s t (length g) (length o))
      → record { answer = gathered_told s r; gathering = g; output = o } ≡ gather_of s t g o
  gather-exit r e p h = let q = err_from_is_err_and r p in rw (q.1, q.2) (gather-refused (number_of e) h (number-not-0 e))

  pub gather-taken : first (gather_checks s t (length g) (length o)) ≡ 0 → gather_of s t g o ≡ taken_of s t g o
  unfolding gather_of
  gather-taken e = answer-accepted (gather_checks s t (length g) (length o)) (refused_of s g o) (taken_of s t g o) e

-- ---- what a transport packet brings

pub brings-start : (t : List ℕ) → starts t ≡ true
    → brought_by t ≡ record { count = count_of t; begins = true; before = take (pointer_of t) (drop (payload_at t + 1) t); onward = drop (pointer_of t) (drop (payload_at t + 1) t) }
unfolding brought_by carried_by carried_at
brings-start t b = rw b

pub brings-plain : (t : List ℕ) → starts t ≡ false
    → brought_by t ≡ record { count = count_of t; begins = false; before = drop (payload_at t) t; onward = [] }
unfolding brought_by carried_by carried_at
brings-plain t b = rw b

-- ---- where the waiting bytes lie

module _ (d g : List ℕ) (h : Hand) (in_g : length h.waiting ≤ length g) (there : take (length h.waiting) g ≡ h.waiting) where
  abbrev after : List ℕ
  after = overlay (length h.waiting) (joiners d h) g

  abbrev Lies : Hand → List ℕ → Type 0
  Lies k m = take (length k.waiting) m ≡ k.waiting

  nothing-waits : (k : Hand) (m : List ℕ) → k.waiting ≡ [] → Lies k m
  nothing-waits k m z = rw z

  strayed : (l : List ℕ) (k : Hand) → k.waiting ≡ [] → (strays l k).waiting ≡ []
  strayed l k z = cases (none l) (λ b. rw (b, z)) (λ b. rw b)

  -- in the gathering buffer, with what joined
  pub stage-lies : Lies (up_to_start d h) after
  stage-lies =
      stage_cases d h (λ k. Lies k after)
      (λ s. rw (passes-joiners d h s, overlay-none (length h.waiting) g) there)
      (λ s w. nothing-waits (strays d h) after (strayed d h w))
      (λ s z k. let n : length (h.waiting ++ d) ≡ length h.waiting + length d = length-append h.waiting d in
      rw (some-join d h s z, take_all (size_of (h.waiting ++ d) - length h.waiting) d (omega arith), n)
      (take-overlay (length h.waiting) d g in_g ∙ ap (λ (x : List ℕ). x ++ d) there))
      refl
      (λ k c. nothing-waits (strays (drop (size_of (joint d h)) (joint d h)) (hands_out (take (size_of (joint d h)) (joint d h) ∷ []) h)) after
      (strayed (drop (size_of (joint d h)) (joint d h)) (hands_out (take (size_of (joint d h)) (joint d h) ∷ []) h) refl))

  pub stage-stays : overlay 0 (up_to_start d h).waiting after ≡ after
  stage-stays = overlay-same (up_to_start d h).waiting after stage-lies

-- ---- the answer, as the code comes to it

module _ (s : Reader) (t g o : List ℕ) where
  abbrev e : Hand
  e = rule_one s.last (count_of t) (in_hand s g)

  -- b is in hand behind rule 1, and k behind the others
  module _ (stands : Stands (numbers e) g e) (b : InHand) (enters : b ≡ record { held = numbers e; gathering = g; output = o }) (k : InHand)
      (a : Gathered) (n m : ℕ) (at-is : n ≡ payload_at t) (count-is : m ≡ count_of t) (q : a ≡ answer_by s.pid m k.held) where
    pub taken_start : starts t ≡ true → (p : ℕ) → p ≡ pointer_of t → (before onward : List ℕ) → before ≡ take p (drop (n + 1) t) → onward ≡ drop p (drop (n + 1) t)
        → k ≡ with_start_of before onward b
        → record { answer = a; gathering = k.gathering; output = k.output } ≡ taken_of s t g o
    unfolding taken_of rules_on with_start_of
    taken_start c p pointer_is before onward before-is onward-is f =
        let l = rw (enters, before-is, onward-is, stands.is, at-is, pointer_is) at f in
        rw (brings-start t c, q, count-is, l)

    pub taken-plain : starts t ≡ false → length e.waiting ≤ length g → (payload : List ℕ) → payload ≡ drop n t
        → k ≡ led_of payload b
        → record { answer = a; gathering = k.gathering; output = k.output } ≡ taken_of s t g o
    unfolding taken_of rules_on led_of
    taken-plain c i payload payload-is f =
        let l = rw (enters, payload-is, stands.is, at-is) at f in
        let lies : take (length e.waiting) g ≡ e.waiting = ap (λ (x : Hand). x.waiting) stands.is in
        rw (brings-plain t c, q, count-is, l, stage-stays (drop (payload_at t) t) g e i lies)
