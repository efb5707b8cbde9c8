-- What a step of a walk gives, and a whole walk by steps: the functions for its transmitter, in order, each once, and then the
-- end. A refused step leaves the walk where it was.
-- Assumes nothing.
use mathlib.Core.Path.{◌≡◌, refl, sym, ap, ◌∙◌}
use mathlib.Core.List.{List, [], ◌∷◌, ◌++◌, map}
use Prim.Native.Nat.{ℕ, zero, suc, ◌<◌, ◌≤◌}
use lib.Dec.{eqb}
use lib.ListN.{length}
use denote.Ref.{Bor}
use borrow.Author.Tests.{eqb-true, eqb-false, eq-eqb, ne_eqb}
use Rattle.fields.proofs.Cases.{cases}
use Rattle.addressing.proofs.WalkLaws.{walk-shows, walk_refused, walk-ended, walk-all}
use Rattle.addressing.specs.Data.{house, fault_of}
use Rattle.addressing.specs.Steps.{place_after, fresh_walk, moved_to, found_by, stepped_of, steps_by, Stepped}
use Rattle.addressing.specs.Walk.{functions_for, given, ended, refused, walk_of, unless_end, answers_by, Walked}
use Rattle.addressing.specs.declared.walks.Walk.{Walk}

-- ---- where a walk goes on from

after-refusal : (w : Walked) (at : ℕ) → (w.refusal ≡ 0 → ⊥) → place_after w at ≡ at
unfolding place_after
after-refusal w at h = rw (ne_eqb w.refusal 0 h)

after-answer : (w : Walked) (at : ℕ) → w.refusal ≡ 0 → place_after w at ≡ w.next
unfolding place_after
after-answer w at h = rw (eq-eqb w.refusal 0 h)

-- ---- a step, from what was found

-- with a refusal the walk stays as it is
pub taken_refused : (x : Walk) (w : Walked) → w ≡ found_by x → (w.refusal ≡ 0 → ⊥) → record { answer = w; walk = x } ≡ stepped_of x
taken_refused x w e h =
    let at = sym (after-refusal w x.at h) ∙ ap (λ (y : Walked). place_after y x.at) e in
    λ i. record { answer = e i; walk = moved_to x (at i) }

-- ---- a step

module _ (w : Walk) where
  -- whatever it finds, the walk keeps its slice and its transmitter
  pub step_keeps : ((stepped_of w).walk.«data» ≡ w.«data») × ((stepped_of w).walk.transmitter ≡ w.transmitter)
  step_keeps = (refl, refl)

  -- with an answer it goes on from the place that the answer names
  pub step-on : (found_by w).refusal ≡ 0 → (stepped_of w).walk ≡ moved_to w (found_by w).next
  step-on h = ap (moved_to w) (after-answer (found_by w) w.at h)

  -- THE REFUSED STEP (01: a refusal returns its number and zeros, and hands back the old state)
  pub step-refused : ((found_by w).refusal ≡ 0 → ⊥) → stepped_of w ≡ record { answer = refused (found_by w).refusal; walk = w }
  step-refused h =
      let shows = walk-shows house w.«data».now w.transmitter w.at in
      let e = walk_refused house w.«data».now w.transmitter w.at (λ z. h (shows ∙ z)) ∙ ap refused (sym shows) in
      let stays = ap (moved_to w) (after-refusal (found_by w) w.at h) in
      λ i. record { answer = e i; walk = stays i }

  -- so another step is refused in the same way
  pub refused-again : ((found_by w).refusal ≡ 0 → ⊥) → stepped_of (stepped_of w).walk ≡ stepped_of w
  refused-again h = ap (λ (s : Stepped). stepped_of s.walk) (step-refused h)

-- ---- a whole walk by steps

unless-refused : (w : Walked) (n : ℕ) → w ≡ refused n → (l m : List Walked) → unless_end w.step l ≡ unless_end w.step m
unless-refused w n e l m = rw e

-- steps give what calls give that each go on from the place named by the last
steps-answers : (k : ℕ) (w : Walk) → steps_by k w ≡ answers_by k house w.«data».now w.transmitter w.at
unfolding steps_by answers_by
steps-answers zero w = refl
steps-answers (suc k) w =
    let d = w.«data».now in
    ap (λ (ws : List Walked). found_by w ∷ ws)
    (cases (eqb (found_by w).refusal 0)
    (λ t. ap (unless_end (found_by w).step) (steps-answers k (stepped_of w).walk ∙ ap (answers_by k house d w.transmitter) (after-answer (found_by w) w.at (eqb-true (found_by w).refusal 0 t))))
    (λ t. unless-refused (found_by w) (found_by w).refusal (ap (λ (s : Stepped). s.answer) (step-refused w (eqb-false (found_by w).refusal 0 t))) (steps_by k (stepped_of w).walk) (answers_by k house d w.transmitter (found_by w).next)))

module _ (d : Bor (List ℕ)) (tx : ℕ) (short : length d.now ≤ 255) (good : (fault_of house d.now).refusal ≡ 0) where
  -- THE WHOLE WALK BY STEPS (01: a walk keeps its place, and gives the functions of that identifier and of broadcast, in order): from a
  -- fresh walk of good data, steps give each function for the transmitter once, and then the end
  pub steps_all : (k : ℕ) → length (functions_for house tx d.now) < k → steps_by k (fresh_walk d tx) ≡ map given (functions_for house tx d.now) ++ (ended (length d.now) ∷ [])
  steps_all k h = steps-answers k (fresh_walk d tx) ∙ walk-all house d.now tx short good k h

  -- a walk at the data's end answers none, and stays there
  pub step-ended : stepped_of (moved_to (fresh_walk d tx) (length d.now)) ≡ record { answer = ended (length d.now); walk = moved_to (fresh_walk d tx) (length d.now) }
  step-ended =
      let e = walk-ended house d.now tx short good in
      λ i. record { answer = e i; walk = moved_to (fresh_walk d tx) (after-end i) }
    where
      after-end : place_after (walk_of house d.now tx (length d.now)) (length d.now) ≡ length d.now
      after-end = ap (λ (x : Walked). place_after x (length d.now)) (walk-ended house d.now tx short good) ∙ after-answer (ended (length d.now)) (length d.now) refl
