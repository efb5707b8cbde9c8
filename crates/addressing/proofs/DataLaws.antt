-- What the tests of a group and of a function say, for any counting; that the functions for a transmitter rise; and where a fault
-- lies.
-- Assumes nothing.
use mathlib.Core.Path.{◌≡◌, refl}
use mathlib.Core.Bool.{Bool, true, false, ◌||◌}
use mathlib.Core.List.{List, [], ◌∷◌, ◌++◌}
use Prim.Native.Nat.{ℕ, ◌+◌, ◌-◌, ◌≤◌}
use native.Mathlib.Nat.{zero-add}
use native.Mathlib.Omega.{arith}
use lib.Dec.{eqb, ltb}
use lib.ListN.{length, get_or, take, drop, length-drop}
use lib.Seq.{length-take-le, take_all}
use borrow.Author.Tests.{ltb-false}
use Rattle.fields.proofs.Cases.{cases, true≢false}
use Rattle.refusals.specs.Checks.{first}
use Rattle.refusals.proofs.CheckLaws.{none-holds}
use Rattle.addressing.proofs.EntryLaws.{Fits, entries-rule}
use Rattle.addressing.specs.Data.{Entry, loop_length, group_size, group_checks, group_at, group, function_size, function_checks, Placed, end_of, function, entries_in, groups_in, loop_in, functions_of, fault_in, fault_of, Fault}
use Rattle.addressing.specs.Groups.{Points, loop_end}
use Rattle.addressing.specs.Walk.{hears, heard_of, functions_for}

-- where one test or another fails, both do
pub neither : (a b : Bool) → (a || b) ≡ false → (a ≡ false) × (b ≡ false)
neither true b h = absurd (true≢false h)
neither false b h = (refl, h)

-- the part of a slice from a place to the end
pub from_on : (i : ℕ) (l : List ℕ) → take (length l - i) (drop i l) ≡ drop i l
from_on i l = take_all (length l - i) (drop i l) (simp length-drop (omega arith))

-- ---- a good group and a good function end before what is left of the data or of the loop does

pub group-whole : (l : List ℕ) → first (group_checks l) ≡ 0 → group_size l ≤ length l
unfolding group_checks
group-whole l h =
    let n = (none-holds (group_checks l) tt h).0 in
    ltb-false _ _ (neither (ltb (length l) 3) _ n).1

pub group-fits : Fits group
group-fits = record { some = λ l. omega arith; within = group-whole }

-- so its loop has as many bytes as it says
pub length-loop : (at : ℕ) (l : List ℕ) → first (group_checks l) ≡ 0 → length (group_at at l).loop ≡ loop_length l
length-loop at l h =
    let f = group-whole l h in
    length-take-le (loop_length l) (drop 3 l) (simp length-drop (omega arith))

module _ (own : ℕ) where
  pub function-whole : (l : List ℕ) → first (function_checks own l) ≡ 0 → function_size own l ≤ length l
  unfolding function_checks
  function-whole l h =
      let n = (none-holds (function_checks own l) tt h).0 in
      ltb-false _ _ (neither (ltb (length l) 2 || ltb (get_or l 1 0) own) _ n).1

  pub function-fits : Fits (function own)
  function-fits = record { some = λ l. omega arith; within = function-whole }

-- ---- places rise: each function begins where the one before it ended, or later

abbrev pub Rising : ℕ → ℕ → List Placed → Type 0
Rising from to [] = from ≤ to
Rising from to (f ∷ fs) = (from + 2 ≤ f.start) × Rising (end_of f) to fs

pub rising-upto : (from to : ℕ) (fs : List Placed) → Rising from to fs → from ≤ to
rising-upto from to [] r = r
rising-upto from to (f ∷ fs) r = omega (arith, r.0, rising-upto (end_of f) to fs r.1)

pub rising-wider : (from' from to to' : ℕ) (fs : List Placed) → from' ≤ from → to ≤ to' → Rising from to fs → Rising from' to' fs
rising-wider from' from to to' [] h g r = omega arith
rising-wider from' from to to' (f ∷ fs) h g r = (omega (arith, r.0), rising-wider (end_of f) (end_of f) to to' fs (omega arith) g r.1)

rising-append : (from mid to : ℕ) (fs gs : List Placed) → Rising from mid fs → Rising mid to gs → Rising from to (fs ++ gs)
rising-append from mid to [] gs r s = rising-wider from mid to to gs r (omega arith) s
rising-append from mid to (f ∷ fs) gs r s = (r.0, rising-append (end_of f) mid to fs gs r.1 s)

module _ (own : ℕ) where
  pub loop-rising : (at : ℕ) (l : List ℕ) → Rising at (at + length l) (loop_in own (record { owner = 0; start = at; loop = l })).entries
  loop-rising =
      entries-rule (function own) (function-fits own) (λ at l h. Rising at (at + length l) h.entries)
      (λ at l h. omega arith)
      (λ at l some b. omega arith)
      (λ at l rest some g r. let f = function-whole own l g in
      let n = length-drop (function_size own l) l in
      (omega arith, rising-wider _ (at + function_size own l) (at + function_size own l + length (drop (function_size own l) l)) (at + length l) rest.entries (omega arith) (omega arith) r))

  module _ (tx : ℕ) where
    heard-rising : (at : ℕ) (l : List ℕ) → Rising at (at + length l) (functions_of own (heard_of tx (groups_in at l).entries))
    unfolding functions_of heard_of
    heard-rising =
        entries-rule group group-fits (λ at l h. Rising at (at + length l) (functions_of own (heard_of tx h.entries)))
        (λ at l h. omega arith)
        (λ at l some b. omega arith)
        (λ at l rest some g r. let f = group-whole l g in
        let n = length-drop (group_size l) l in
        let k = length-loop at l g in
        let to = at + group_size l in
        let fs = (loop_in own (group_at at l)).entries in
        let gs = functions_of own (heard_of tx rest.entries) in
        let here : Rising at to fs =
        rising-wider at (at + 3) (at + 3 + length (group_at at l).loop) to fs (omega arith) (omega arith) (loop-rising (at + 3) (group_at at l).loop) in
        let on : Rising to (at + length l) gs = rising-wider to to (to + length (drop (group_size l) l)) (at + length l) gs (omega arith) (omega arith) r in
        cases (hears tx (group_at at l).owner)
        (λ t. rw t (rising-append at to (at + length l) fs gs here on))
        (λ t. rw t (rising-wider at to (at + length l) (at + length l) gs (omega arith) (omega arith) on)))

    -- the functions for a transmitter lie in the data, one after the other
    pub for-rising : (d : List ℕ) → Rising 0 (length d) (functions_for own tx d)
    unfolding functions_for
    for-rising d = rw (zero-add) at (heard-rising 0 d)

-- ---- a fault's place

points-wider : (end end' : ℕ) (f : Fault) → end ≤ end' → Points end f → Points end' f
points-wider end end' f h p = record { nowhere = p.nowhere; before = λ b. omega (arith, p.before b) }

entries-point : {A : Type 0} (e : Entry A) → Fits e → (at : ℕ) (l : List ℕ) → Points (at + length l) (entries_in e at l).fault
entries-point {A} e fits =
    entries-rule e fits (λ at l h. Points (at + length l) h.fault)
    (λ at l h. record { nowhere = λ z. refl; before = λ b. absurd (b refl) })
    (λ at l some b. record { nowhere = λ z. absurd (b z); before = λ _. omega arith })
    (λ at l rest some g r. let f = fits.within l g in
    let n = length-drop (e.size l) l in
    points-wider (at + e.size l + length (drop (e.size l) l)) (at + length l) rest.fault (omega arith) r)

module _ (own : ℕ) where
  fault-points : (at : ℕ) (l : List ℕ) → Points (at + length l) (fault_in own (groups_in at l).entries (groups_in at l).fault)
  unfolding fault_in
  fault-points =
      entries-rule group group-fits (λ at l h. Points (at + length l) (fault_in own h.entries h.fault))
      (λ at l h. record { nowhere = λ z. refl; before = λ b. absurd (b refl) })
      (λ at l some b. record { nowhere = λ z. absurd (b z); before = λ _. omega arith })
      (λ at l rest some g r. let f = group-whole l g in
      let n = length-drop (group_size l) l in
      let k = length-loop at l g in
      cases (eqb (loop_in own (group_at at l)).fault.refusal 0)
      (λ t. rw t (points-wider (at + group_size l + length (drop (group_size l) l)) (at + length l) (fault_in own rest.entries rest.fault) (omega arith) r))
      (λ t. rw t (points-wider (loop_end (group_at at l)) (at + length l) (loop_in own (group_at at l)).fault (omega arith) (entries-point (function own) (function-fits own) (at + 3) (group_at at l).loop))))

  -- THE PLACE (L4 of 02): 0 where the data is good, and else that of a byte of the data
  pub fault-place : (d : List ℕ) → Points (length d) (fault_of own d)
  unfolding fault_of
  fault-place d = rw (zero-add) at (fault-points 0 d)
