-- A cursor that goes over the data from header to header finds the fault of the data and the walk's answer.
-- Assumes nothing.
use mathlib.Core.Path.{◌≡◌, refl, sym, ap, ap₂, ◌∙◌}
use mathlib.Core.Bool.{Bool, true, false, cond, not, ◌||◌}
use mathlib.Core.List.{List, [], ◌∷◌, ◌++◌}
use Prim.Native.Nat.{ℕ, ◌+◌, ◌-◌, ◌≤◌, ◌<◌}
use native.Mathlib.Omega.{arith}
use lib.Dec.{eqb, leb, ltb}
use lib.ListN.{length, take, drop, length-drop}
use lib.Seq.{drop-drop}
use Rattle.std.specs.Prelude.{Option, Some, None}
use Rattle.std.specs.Bool.{then_some}
use Rattle.std.specs.Option.{option_or}
use borrow.Author.Tests.{ltb-true, ltb-false, leb-true, leb-false, le-ltb, le-leb, lt-leb, eqb-true, eqb-false, ne_eqb}
use Rattle.fields.specs.Parts.{part}
use Rattle.fields.proofs.Cases.{cases}
use Rattle.fields.proofs.PartLaws.{length_part, drop-part}
use Rattle.refusals.specs.Checks.{◌when◌, found, first}
use Rattle.refusals.specs.Answers.{answer}
use Rattle.addressing.proofs.EntryLaws.{entries_none, entries-stop, entries-on}
use Rattle.addressing.proofs.DataLaws.{group-whole, group-fits, function-whole, function-fits}
use Rattle.addressing.specs.Cursor.{group_header, function_header, header_at, unseen, seen_after, first_or, answer_of, Passed, pass_checks, pass_of, Header}
use Rattle.addressing.specs.Data.{Fault, Entries, no_fault, none, on_top, entries_in, owner_of, loop_length, group_size, group_checks, group_at, group, body_length, function_size, function_checks, Placed, end_of, function_at, function, groups_in, loop_in, functions_of, fault_in, fault_of}
use Rattle.addressing.specs.Walk.{Walked, hears, heard_of, functions_for, ends_at, reached, step_in, refused, answered, walk_checks, walk_of}
use Rattle.addressing.specs.declared.Cursor.{Cursor}
use Rattle.addressing.specs.Cursor as header
use Rattle.addressing.specs.declared.Seen.{Seen}
use Rattle.addressing.specs.declared.Walked.{Walked as CodeWalked}

-- ---- what is left of the data at a cursor: its fault, and the functions for the transmitter

pub record Left : Type 0 where
  pub fault : Fault
  pub functions : List Placed

module _ (own tx : ℕ) where
  -- the groups of the bytes l, which lie at place `at`
  abbrev groups_left : ℕ → List ℕ → Left
  groups_left at l =
      record { fault = fault_in own (groups_in at l).entries (groups_in at l).fault; functions = functions_of own (heard_of tx (groups_in at l).entries) }

  -- the functions of a group with this owner, and then what is left after them
  abbrev before : ℕ → Entries Placed → Left → Left
  before owner h rest =
      record {
        fault = cond (eqb h.fault.refusal 0) rest.fault h.fault;
        functions = cond (hears tx owner) (h.entries ++ rest.functions) rest.functions;
      }

  abbrev loop_left : List ℕ → Cursor → Entries Placed
  loop_left d c = entries_in (function own) c.at (part c.at (c.end - c.at) d)

  -- the rest of the loop, and the groups from its end on
  unfoldable pub left_of : List ℕ → Cursor → Left
  left_of d c = before c.owner (loop_left d c) (groups_left c.end (drop c.end d))

  cond_same : {A : Type 0} (b : Bool) (x : A) → cond b x x ≡ x
  cond_same true x = refl
  cond_same false x = refl

  before-none : (owner : ℕ) (rest : Left) → before owner none rest ≡ rest
  before-none owner rest = ap (λ (fs : List Placed). record { fault = rest.fault; functions = fs }) (cond_same (hears tx owner) rest.functions)

  before_on : (owner : ℕ) (f : Placed) (h : Entries Placed) (rest : Left)
      → before owner (on_top f h) rest ≡ record { fault = (before owner h rest).fault; functions = cond (hears tx owner) (f ∷ (before owner h rest).functions) (before owner h rest).functions }
  before_on owner f h rest = cases (hears tx owner) (λ t. rw t) (λ t. rw t)

  -- a group and the rest
  groups-on : (at : ℕ) (l : List ℕ) → 0 < length l → first (group_checks l) ≡ 0
      → groups_left at l ≡ before (owner_of l) (loop_in own (group_at at l)) (groups_left (at + group_size l) (drop (group_size l) l))
  unfolding fault_in functions_of heard_of
  groups-on at l some g = rw (entries-on group group-fits at l some g) (cases (hears tx (owner_of l)) (λ t. rw t) (λ t. rw t))

  -- ---- by what stands at the cursor

  module _ (d : List ℕ) where
    abbrev pub Tells : Cursor → Header → Type 0
    Tells c header.Nothing = left_of d c ≡ record { fault = no_fault; functions = [] }
    Tells c (header.Bad n) = ((left_of d c).fault ≡ record { refusal = n; place = c.at }) × (n ≡ 0 → ⊥)
    Tells c (header.Group owner bytes) =
        (c.at + 3 + bytes ≤ length d) × (left_of d c ≡ left_of d (record { at = c.at + 3; end = c.at + 3 + bytes; owner = owner }))
    Tells c (header.Function tag body) =
        let f : Placed = record { tag = tag; start = c.at + 2; body = body } in
        let on = left_of d (record { at = c.at + 2 + body; end = c.end; owner = c.owner }) in
        (c.at + 2 + body ≤ c.end)
        × (left_of d c ≡ record { fault = on.fault; functions = cond (hears tx c.owner) (f ∷ on.functions) on.functions })

    module _ (c : Cursor) (upto : c.at ≤ c.end) (inside : c.end ≤ length d) where
      abbrev bytes : List ℕ
      bytes = part c.at (c.end - c.at) d

      length-bytes : length bytes ≡ c.end - c.at
      length-bytes = length_part c.at (c.end - c.at) d (omega arith)

      -- in a loop
      module _ (within : c.at < c.end) where
        bad-function : (first (function_checks own bytes) ≡ 0 → ⊥) → Tells c (header.Bad (first (function_checks own bytes)))
        unfolding left_of
        bad-function b =
            (rw (entries-stop (function own) (function-fits own) c.at bytes (omega (arith, length-bytes)) b, ne_eqb (first (function_checks own bytes)) 0 b), b)

        good-function : first (function_checks own bytes) ≡ 0 → Tells c (header.Function (function_at own c.at bytes).tag (body_length own bytes))
        unfolding left_of
        good-function g =
            let fits = function-whole own bytes g in
            let n = length-bytes in
            let f = function_at own c.at bytes in
            let on = loop_left d (record { at = c.at + 2 + body_length own bytes; end = c.end; owner = c.owner }) in
            let place : c.at + function_size own bytes ≡ c.at + 2 + body_length own bytes = omega arith in
            let less : c.end - c.at - function_size own bytes ≡ c.end - (c.at + 2 + body_length own bytes) = omega arith in
            let rest : drop (function_size own bytes) bytes ≡ part (c.at + 2 + body_length own bytes) (c.end - (c.at + 2 + body_length own bytes)) d =
            drop-part c.at (c.end - c.at) (function_size own bytes) d (omega arith) ∙ ap₂ (λ (p m : ℕ). part p m d) place less in
            let here : loop_left d c ≡ on_top f on =
            entries-on (function own) (function-fits own) c.at bytes (omega arith) g
            ∙ ap (on_top f) (ap₂ (λ (p : ℕ) (m : List ℕ). entries_in (function own) p m) place rest) in (
              omega arith,
              ap (λ (h : Entries Placed). before c.owner h (groups_left c.end (drop c.end d))) here
                  ∙ before_on c.owner f on (groups_left c.end (drop c.end d)),
            )

      -- at a loop's end
      module _ (over : c.end ≤ c.at) where
        loop-over : left_of d c ≡ groups_left c.at (drop c.at d)
        unfolding left_of
        loop-over =
            let e : c.end ≡ c.at = omega arith in
            let n = length-bytes in
            ap (λ (h : Entries Placed). before c.owner h (groups_left c.end (drop c.end d))) (entries_none (function own) (function-fits own) c.at bytes (omega arith))
            ∙ before-none c.owner (groups_left c.end (drop c.end d))
            ∙ ap (λ (p : ℕ). groups_left p (drop p d)) e

        ended : length d ≤ c.at → Tells c header.Nothing
        unfolding fault_in functions_of heard_of
        ended h = loop-over ∙ rw (entries_none group group-fits c.at (drop c.at d) (simp length-drop (omega arith)))

        module _ (some : c.at < length d) where
          abbrev rest : List ℕ
          rest = drop c.at d

          bad-group : (first (group_checks rest) ≡ 0 → ⊥) → Tells c (header.Bad (first (group_checks rest)))
          unfolding fault_in
          bad-group b =
              (ap (λ (x : Left). x.fault) loop-over ∙ rw (entries-stop group group-fits c.at rest (simp length-drop (omega arith)) b), b)

          good-group : first (group_checks rest) ≡ 0 → Tells c (header.Group (owner_of rest) (loop_length rest))
          unfolding left_of part
          good-group g =
              let fits = group-whole rest g in
              let n = length-drop c.at d in
              let k = loop_length rest in
              let place : c.at + group_size rest ≡ c.at + 3 + k = omega arith in
              let less : k ≡ c.at + 3 + k - (c.at + 3) = omega arith in
              let loop : loop_in own (group_at c.at rest) ≡ loop_left d (record { at = c.at + 3; end = c.at + 3 + k; owner = owner_of rest }) =
              ap₂ (λ (m : ℕ) (l : List ℕ). entries_in (function own) (c.at + 3) (take m l)) less (drop-drop 3 c.at d) in
              let on : groups_left (c.at + group_size rest) (drop (group_size rest) rest) ≡ groups_left (c.at + 3 + k) (drop (c.at + 3 + k) d) =
              ap (groups_left (c.at + group_size rest)) (drop-drop (group_size rest) c.at d) ∙ ap (λ (p : ℕ). groups_left p (drop p d)) place in
              (omega arith, loop-over ∙ groups-on c.at rest (simp length-drop (omega arith)) g ∙ ap₂ (before (owner_of rest)) loop on)

    pub tells : (c : Cursor) → c.at ≤ c.end → c.end ≤ length d → Tells c (header_at own d c)
    unfolding header_at function_header group_header answer
    tells c upto inside =
        cases (ltb c.at c.end)
        (λ p. let l = part c.at (c.end - c.at) d in
        cases (eqb (first (function_checks own l)) 0)
        (λ t. rw (p, t) (good-function c upto inside (ltb-true _ _ p) (eqb-true _ _ t)))
        (λ t. rw (p, t) (bad-function c upto inside (ltb-true _ _ p) (eqb-false _ _ t))))
        (λ p. let over = ltb-false _ _ p in
        cases (ltb c.at (length d))
        (λ q. let l = drop c.at d in
        cases (eqb (first (group_checks l)) 0)
        (λ t. rw (p, q, t) (good-group c upto inside over (ltb-true _ _ q) (eqb-true _ _ t)))
        (λ t. rw (p, q, t) (bad-group c upto inside over (ltb-true _ _ q) (eqb-false _ _ t))))
        (λ q. rw (p, q) (ended c upto inside over (ltb-false _ _ q))))

-- ---- what a walk has seen, and the functions that are left

or-false : (a : Bool) → (a || false) ≡ a
or-false true = refl
or-false false = refl

or_swap : (a b c e : Bool) → (a || b || (c || e)) ≡ (a || c || b || e)
or_swap true b c e = refl
or_swap false true true e = refl
or_swap false true false e = refl
or_swap false false true e = refl
or_swap false false false e = refl

-- docs/PORT.md names it; no proof cites it
first_found : (found here : Bool) (w f x : Walked) → cond found w (cond here f x) ≡ cond (found || here) (cond found w (cond here f w)) x
first_found true here w f x = refl
first_found false true w f x = refl
first_found false false w f x = refl

-- the first that was seen stays the first
found-first : (seen : Option CodeWalked) (here : Bool) (w : CodeWalked) (x : Walked) → first_or seen (cond here (answered w) x) ≡ first_or (option_or seen (then_some here w)) x
found-first (Some f) here w x = refl
found-first None true w x = refl
found-first None false w x = refl

leb-two : (a b : ℕ) → leb (a + 2) (b + 2) ≡ leb a b
leb-two a b =
    cases (leb a b)
    (λ t. le-leb (a + 2) (b + 2) (omega (arith, leb-true a b t)) ∙ sym t)
    (λ t. lt-leb (a + 2) (b + 2) (omega (arith, leb-false a b t)) ∙ sym t)

-- the answer of a walk that gives a function
abbrev pub given_walk : (at tag body : ℕ) → CodeWalked
given_walk at tag body = record { next = at + 2 + body; step = Some (record { tag = tag; start = at + 2; body = body }) }

module _ (end : ℕ) where
  abbrev answer_from : Seen → List Placed → Walked
  answer_from s fs =
      cond (s.reached || eqb s.place end || ends_at s.place fs) (first_or s.first (step_in fs s.place end)) (refused 38)

  answer-none : (s : Seen) → answer_from s [] ≡ answer_of end s
  unfolding ends_at step_in
  answer-none s = rw (or-false (s.reached || eqb s.place end))

  answer-on : (s : Seen) (at tag body : ℕ) (fs : List Placed)
      → let f : Placed = record { tag = tag; start = at + 2; body = body } in answer_from s (f ∷ fs) ≡ answer_from (seen_after true at (given_walk at tag body) s) fs
  unfolding ends_at step_in
  answer-on s at tag body fs =
      let f : Placed = record { tag = tag; start = at + 2; body = body } in
      ap₂ (λ (t : Bool) (w : Walked). cond t w (refused 38))
      (or_swap s.reached (eqb s.place end) (eqb s.place (end_of f)) (ends_at s.place fs))
      (rw (leb-two s.place at) (found-first s.first (leb s.place at) (given_walk at tag body) (step_in fs s.place end)))

  -- what a pass tells: of what it has seen, and of what is left
  abbrev pub told : Seen → Left → Passed
  told s left =
      record {
        fault = left.fault;
        walked = cond (eqb left.fault.refusal 0) (answer_from s left.functions) (refused left.fault.refusal);
      }

  pub told-nothing : (s : Seen) (left : Left) → left ≡ record { fault = no_fault; functions = [] } → told s left ≡ record { fault = no_fault; walked = answer_of end s }
  told-nothing s left e = ap (told s) e ∙ ap (λ (w : Walked). record { fault = no_fault; walked = w }) (answer-none s)

  pub told-bad : (s : Seen) (left : Left) (n at : ℕ) → left.fault ≡ record { refusal = n; place = at } → (n ≡ 0 → ⊥)
      → told s left ≡ record { fault = record { refusal = n; place = at }; walked = refused n }
  told-bad s left n at e b = rw (e, ne_eqb n 0 b)

  pub told-function : (s : Seen) (heard : Bool) (at tag body : ℕ) (on : Left)
      → let f : Placed = record { tag = tag; start = at + 2; body = body } in
      told s (record { fault = on.fault; functions = cond heard (f ∷ on.functions) on.functions }) ≡ told (seen_after heard at (given_walk at tag body) s) on
  told-function s true at tag body on =
      ap (λ (w : Walked). record { fault = on.fault; walked = cond (eqb on.fault.refusal 0) w (refused on.fault.refusal) }) (answer-on s at tag body on.functions)
  told-function s false at tag body on = refl

two-checks : (n : ℕ) (b : Bool) (x : Walked) → cond (eqb n 0) (cond b x (refused 38)) (refused n) ≡ answer (found n ∷ 38 when not b ∷ []) refused x
unfolding answer
two-checks n true x = cases (eqb n 0) (λ t. simp t) (λ t. simp t)
two-checks n false x = cases (eqb n 0) (λ t. simp t) (λ t. simp t)

-- at the start nothing is seen, and all is left
pub told-all : (own : ℕ) (d : List ℕ) (tx place : ℕ) → told (length d) (unseen place) (left_of own tx d (record { at = 0; end = 0; owner = 0 })) ≡ pass_of own d tx place
unfolding pass_of pass_checks fault_of functions_for reached
told-all own d tx place =
    let fs = functions_for own tx d in
    ap (told (length d) (unseen place)) (loop-over own tx d (record { at = 0; end = 0; owner = 0 }) (omega arith) (omega arith) (omega arith))
    ∙ ap (λ (w : Walked). record { fault = fault_of own d; walked = w }) (two-checks (fault_of own d).refusal (reached own tx d place) (step_in fs place (length d)))

-- so a pass over data that is not too long tells what the walk answers
pub pass_walks : (own : ℕ) (d : List ℕ) (tx place : ℕ) → length d ≤ 255 → (pass_of own d tx place).walked ≡ walk_of own d tx place
unfolding pass_of pass_checks walk_of walk_checks answer
pass_walks own d tx place h = rw (le-ltb 255 (length d) h)
