-- What a walk answers of good data, and a whole walk: it gives the functions for a transmitter, in order, each once. For any
-- counting.
-- Assumes nothing.
use mathlib.Core.Path.{◌≡◌, refl, sym, ap, ◌∙◌, subst}
use mathlib.Core.Bool.{Bool, true, false, ◌||◌}
use mathlib.Core.List.{List, [], ◌∷◌, ◌++◌, map, append_assoc, append-nil}
use Prim.Native.Nat.{ℕ, zero, suc, ◌+◌, ◌≤◌, ◌<◌}
use native.Mathlib.Omega.{arith}
use lib.Dec.{eqb, leb}
use lib.ListN.{length}
use borrow.Author.Tests.{lt-ltb, le-ltb, le-leb, lt-leb, eq-eqb}
use Rattle.fields.proofs.Cases.{cases}
use Rattle.refusals.specs.Checks.{first}
use Rattle.refusals.specs.Answers.{answer}
use Rattle.refusals.proofs.AnswerLaws.{answer-shows, answer-refused}
use Rattle.addressing.proofs.DataLaws.{Rising, rising-upto, for-rising}
use Rattle.addressing.specs.Data.{Placed, end_of, fault_of}
use Rattle.addressing.specs.Walk.{functions_for, ends_at, reached, given, ended, step_in, refused, walk_checks, walk_of, answers_by, Walked}

module _ (own : ℕ) where
  -- data that is too long
  pub walk-long : (d : List ℕ) (tx place : ℕ) → 255 < length d → walk_of own d tx place ≡ refused 38
  unfolding walk_of walk_checks answer
  walk-long d tx place h = rw (lt-ltb 255 (length d) h)

  -- what a walk shows; a refusal gives zeros and no function
  step-accepts : (fs : List Placed) (place end : ℕ) → (step_in fs place end).refusal ≡ 0
  unfolding step_in
  step-accepts [] place end = refl
  step-accepts (f ∷ fs) place end = cases (leb (place + 2) f.start) (λ t. rw t) (λ t. rw t (step-accepts fs place end))

  pub walk-shows : (d : List ℕ) (tx place : ℕ) → (walk_of own d tx place).refusal ≡ first (walk_checks own d tx place)
  unfolding walk_of
  walk-shows d tx place =
      answer-shows (walk_checks own d tx place) refused _ (λ (w : Walked). w.refusal) (λ n. refl) (step-accepts (functions_for own tx d) place (length d))

  pub walk_refused : (d : List ℕ) (tx place : ℕ) → (first (walk_checks own d tx place) ≡ 0 → ⊥) → walk_of own d tx place ≡ refused (first (walk_checks own d tx place))
  unfolding walk_of
  walk_refused d tx place h = answer-refused (walk_checks own d tx place) refused _ h

  -- of good data every place that it reaches is answered
  walk-good : (d : List ℕ) (tx place : ℕ) → length d ≤ 255 → (fault_of own d).refusal ≡ 0 → reached own tx d place ≡ true
      → walk_of own d tx place ≡ step_in (functions_for own tx d) place (length d)
  unfolding walk_of walk_checks answer
  walk-good d tx place short good r = rw (le-ltb 255 (length d) short, eq-eqb (fault_of own d).refusal 0 good, r)

-- ---- a whole walk

-- where some functions end that follow each other from a place on
abbrev last_end : ℕ → List Placed → ℕ
last_end from [] = from
last_end from (f ∷ fs) = last_end (end_of f) fs

last_more : (from : ℕ) (fs : List Placed) (g : Placed) → last_end from (fs ++ (g ∷ [])) ≡ end_of g
last_more from [] g = refl
last_more from (f ∷ fs) g = last_more (end_of f) fs g

rising-split : (from to : ℕ) (fs gs : List Placed) → Rising from to (fs ++ gs) → Rising from (last_end from fs) fs × Rising (last_end from fs) to gs
rising-split from to [] gs r = (omega arith, r)
rising-split from to (f ∷ fs) gs r = let s = rising-split (end_of f) to fs gs r.1 in ((r.0, s.0), s.1)

or-true : (a : Bool) → (a || true) ≡ true
or-true true = refl
or-true false = refl

-- the last of them ends where one of them ends
ends_there : (f : Placed) (fs gs : List Placed) → ends_at (last_end (end_of f) fs) (f ∷ (fs ++ gs)) ≡ true
unfolding ends_at
ends_there f [] gs = rw (eq-eqb (end_of f) (end_of f) refl)
ends_there f (g ∷ fs) gs = rw (ends_there g fs gs, or-true (eqb (last_end (end_of g) fs) (end_of f)))

-- all that end at a place or before it are passed
step_past : (from to place end : ℕ) (fs gs : List Placed) → Rising from to fs → to ≤ place → step_in (fs ++ gs) place end ≡ step_in gs place end
unfolding step_in
step_past from to place end [] gs r h = refl
step_past from to place end (f ∷ fs) gs r h =
    let before : end_of f ≤ to = rising-upto (end_of f) to fs r.1 in
    rw (lt-leb (place + 2) f.start (omega arith)) (step_past (end_of f) to place end fs gs r.1 h)

module _ (own : ℕ) (d : List ℕ) (tx : ℕ) (short : length d ≤ 255) (good : (fault_of own d).refusal ≡ 0) where
  is-reached : (pre post : List Placed) → functions_for own tx d ≡ pre ++ post → reached own tx d (last_end 0 pre) ≡ true
  unfolding reached
  is-reached [] q h = refl
  is-reached (f ∷ fs) q h = rw (h, ends_there f fs q, or-true (eqb (last_end (end_of f) fs) 0 || eqb (last_end (end_of f) fs) (length d)))

  module _ (pre post : List Placed) (e : functions_for own tx d ≡ pre ++ post) where
    -- the place just after the first functions, and how the others rise from there
    abbrev place : ℕ
    place = last_end 0 pre

    split : Rising 0 place pre × Rising place (length d) post
    split = rising-split 0 (length d) pre post (subst (Rising 0 (length d)) e (for-rising own tx d))

    walk-there : walk_of own d tx place ≡ step_in post place (length d)
    walk-there =
        walk-good own d tx place short good (is-reached pre post e)
        ∙ ap (λ (fs : List Placed). step_in fs place (length d)) e
        ∙ step_past 0 place place (length d) pre post split.0 (omega arith)

  walk_end : (pre : List Placed) → functions_for own tx d ≡ pre ++ [] → walk_of own d tx (last_end 0 pre) ≡ ended (length d)
  unfolding step_in
  walk_end pre e = walk-there pre [] e

  -- at the data's end there is none, however it was reached
  pub walk-ended : walk_of own d tx (length d) ≡ ended (length d)
  unfolding reached step_in
  walk-ended =
      let n = length d in
      let fs = functions_for own tx d in
      walk-good own d tx n short good (rw (eq-eqb n n refl, or-true (eqb n 0)))
      ∙ ap (λ (l : List Placed). step_in l n n) (sym (append-nil fs))
      ∙ step_past 0 n n n fs [] (for-rising own tx d) (omega arith)

  walk-next : (pre : List Placed) (g : Placed) (gs : List Placed) → functions_for own tx d ≡ pre ++ g ∷ gs → walk_of own d tx (last_end 0 pre) ≡ given g
  unfolding step_in
  walk-next pre g gs e = walk-there pre (g ∷ gs) e ∙ rw (le-leb (last_end 0 pre + 2) g.start (split pre (g ∷ gs) e).1.0)

  all_from : (post pre : List Placed) (k : ℕ) → functions_for own tx d ≡ pre ++ post → length post < k
      → answers_by k own d tx (last_end 0 pre) ≡ map given post ++ (ended (length d) ∷ [])
  unfolding answers_by
  all_from [] pre zero e h = absurd (omega arith)
  all_from [] pre (suc k) e h = rw (walk_end pre e)
  all_from (g ∷ gs) pre zero e h = absurd (omega arith)
  all_from (g ∷ gs) pre (suc k) e h =
      rw (walk-next pre g gs e)
      (ap (λ (ws : List Walked). given g ∷ ws)
      (rw (last_more 0 pre g) at (all_from gs (pre ++ (g ∷ [])) k (e ∙ sym (append_assoc pre (g ∷ []) gs)) (omega arith))))

  -- THE WHOLE WALK (01: it gives the functions of that identifier and of broadcast, in order). From 0, and each time on
  -- from the place that was answered, a walk of good data gives each function for the transmitter once, as its tag, start
  -- and body, and then says that it is at the data's end; it is never refused
  pub walk-all : (k : ℕ) → length (functions_for own tx d) < k → answers_by k own d tx 0 ≡ map given (functions_for own tx d) ++ (ended (length d) ∷ [])
  walk-all k h = all_from (functions_for own tx d) [] k refl h
