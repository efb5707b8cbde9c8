-- Bodies lie within their functions, functions within their loops and loops within the data; of good data there is no byte
-- between them; and what a transmitter is given depends on the groups that it hears and on nothing else. For any counting.
-- Assumes nothing.
use mathlib.Core.Path.{◌≡◌, refl, sym, ap, ap₂, ◌∙◌}
use mathlib.Core.List.{List, [], ◌∷◌, ◌++◌, map}
use Prim.Native.Nat.{ℕ, ◌+◌, ◌-◌, ◌≤◌}
use native.Mathlib.Nat.{zero-add}
use native.Mathlib.Omega.{arith}
use lib.Dec.{eqb}
use lib.ListN.{length, drop, length-drop}
use lib.Seq.{drop-drop}
use borrow.Author.Tests.{eqb-true, eqb-false}
use Rattle.fields.specs.Parts.{part}
use Rattle.fields.proofs.Cases.{cases}
use Rattle.fields.proofs.PartLaws.{part-whole, part-part, drop-part}
use Rattle.refusals.specs.Checks.{first}
use Rattle.addressing.proofs.EntryLaws.{entries-rule, entries_none, entries-stop, entries-on}
use Rattle.addressing.proofs.DataLaws.{group-whole, group-fits, length-loop, function-whole, function-fits, Rising, rising-upto, loop-rising}
use Rattle.addressing.specs.Data.{Entries, group_size, group_checks, Group, group_at, group, tag_of, body_length, function_size, Placed, end_of, function, entries_in, groups_in, groups_of, loop_in, functions_of, fault_in, fault_of}
use Rattle.addressing.specs.Groups.{AllBetween, loop_end, Within, AllWithin, Follow, GroupsFollow, heard_groups, tags_and_bodies}
use Rattle.addressing.specs.Walk.{hears, heard_of, functions_for}

-- ---- all lies within

between : (from at to : ℕ) (fs : List Placed) → from ≤ at → Rising at to fs → AllBetween from to fs
between from at to [] h r = tt
between from at to (f ∷ fs) h r =
    ((omega (arith, r.0), rising-upto (end_of f) to fs r.1), between from (end_of f) to fs (omega (arith, r.0)) r.1)

module _ (own : ℕ) where
  one-within : (d : List ℕ) (at : ℕ) (l : List ℕ) → l ≡ drop at d → first (group_checks l) ≡ 0 → Within own d (group_at at l)
  unfolding part
  one-within d at l e c =
      let n = length-loop at l c in
      let s : length l ≡ length d - at = ap length e ∙ length-drop at d in
      record {
        bytes = rw (n, ← drop-drop 3 at d, ← e);
        loop = omega (arith, group-whole l c);
        functions = between (at + 3) (at + 3) _ (loop_in own (group_at at l)).entries (omega arith) (loop-rising own (at + 3) (group_at at l).loop);
      }

  -- NOTHING REACHES OUTSIDE: every function begins in its loop and ends in it with its body, and every loop ends in the data, whose
  -- bytes it holds
  pub within : (d : List ℕ) → AllWithin own d (groups_of d)
  within d =
      entries-rule group group-fits (λ at l h. l ≡ drop at d → AllWithin own d h.entries)
      (λ at l n e. tt)
      (λ at l some b e. tt)
      (λ at l rest some g r e. (one-within d at l e g, r (ap (drop (group_size l)) e ∙ drop-drop (group_size l) at d)))
      0 d refl

  -- ---- all bytes are taken

  loop-exact : (at : ℕ) (l : List ℕ) → (entries_in (function own) at l).fault.refusal ≡ 0 → Follow at (at + length l) (entries_in (function own) at l).entries
  loop-exact =
      entries-rule (function own) (function-fits own) (λ at l h. h.fault.refusal ≡ 0 → Follow at (at + length l) h.entries)
      (λ at l n z. omega arith)
      (λ at l some b z. absurd (b z))
      (λ at l rest some g r z. let f = function-whole own l g in
      let n = length-drop (function_size own l) l in
      let from : at + function_size own l ≡ at + 2 + body_length own l = omega arith in
      let to : at + function_size own l + length (drop (function_size own l) l) ≡ at + length l = omega arith in
      (refl, rw (to, from) at (r z)))

  groups-exact : (at : ℕ) (l : List ℕ) → (fault_in own (groups_in at l).entries (groups_in at l).fault).refusal ≡ 0 → GroupsFollow own at (at + length l) (groups_in at l).entries
  unfolding fault_in
  groups-exact =
      entries-rule group group-fits (λ at l h. (fault_in own h.entries h.fault).refusal ≡ 0 → GroupsFollow own at (at + length l) h.entries)
      (λ at l n z. omega arith)
      (λ at l some b z. absurd (b z))
      (λ at l rest some g r. let f = group-whole l g in
      let n = length-drop (group_size l) l in
      let k = length-loop at l g in
      let from : at + group_size l ≡ loop_end (group_at at l) = omega arith in
      let to : at + group_size l + length (drop (group_size l) l) ≡ at + length l = omega arith in
      cases (eqb (loop_in own (group_at at l)).fault.refusal 0)
      (λ t. rw t (λ z. (refl, loop-exact (at + 3) (group_at at l).loop (eqb-true _ _ t), rw (to, from) at (r z))))
      (λ t. rw t (λ z. absurd (eqb-false _ _ t z))))

  -- EXACTLY (01: the last group and the last function end exactly at their bounds): groups follow each other from the
  -- data's first byte to its end, and the functions of each from its loop's first byte to the loop's end
  pub exact : (d : List ℕ) → (fault_of own d).refusal ≡ 0 → GroupsFollow own 0 (length d) (groups_of d)
  unfolding fault_of
  exact d good = rw (zero-add) at (groups-exact 0 d good)

-- ---- tags and bodies come from the loops alone

told-append : (d : List ℕ) (fs gs : List Placed) → tags_and_bodies d (fs ++ gs) ≡ tags_and_bodies d fs ++ tags_and_bodies d gs
unfolding tags_and_bodies
told-append d [] gs = refl
told-append d (f ∷ fs) gs = ap (λ (l : List (ℕ × List ℕ)). (f.tag, part f.start f.body d) ∷ l) (told-append d fs gs)

module _ (own : ℕ) where
  -- bytes l that lie in d at a place: a function's body, and what follows the function
  module _ (d : List ℕ) (at : ℕ) (l : List ℕ) (e : part at (length l) d ≡ l) (fits : function_size own l ≤ length l) where
    body-there : part (at + 2) (body_length own l) d ≡ part 2 (body_length own l) l
    body-there = sym (part-part at (length l) 2 (body_length own l) d (omega arith)) ∙ ap (part 2 (body_length own l)) e

    rest-there : part (at + function_size own l) (length (drop (function_size own l) l)) d ≡ drop (function_size own l) l
    rest-there =
        rw (length-drop (function_size own l) l) (sym (drop-part at (length l) (function_size own l) d fits) ∙ ap (drop (function_size own l)) e)

  -- the tags and bodies of a loop's bytes, which lie in d
  abbrev told_at : List ℕ → ℕ → List ℕ → List (ℕ × List ℕ)
  told_at d at l = tags_and_bodies d (entries_in (function own) at l).entries

  -- they are the same wherever the bytes lie
  told-alike : (at : ℕ) (l : List ℕ) (at' : ℕ) (d e : List ℕ) → part at (length l) d ≡ l → part at' (length l) e ≡ l → told_at d at l ≡ told_at e at' l
  unfolding tags_and_bodies
  told-alike =
      let told : List ℕ → Entries Placed → List (ℕ × List ℕ) = λ e h. tags_and_bodies e h.entries in
      entries-rule (function own) (function-fits own) (λ at l h. (at' : ℕ) (d e : List ℕ) → part at (length l) d ≡ l → part at' (length l) e ≡ l → tags_and_bodies d h.entries ≡ told_at e at' l)
      (λ at l n at' d e p q. sym (ap (told e) (entries_none (function own) (function-fits own) at' l n)))
      (λ at l some b at' d e p q. sym (ap (told e) (entries-stop (function own) (function-fits own) at' l some b)))
      (λ at l rest some g r at' d e p q. let f = function-whole own l g in
      ap₂ (λ (m : List ℕ) (on : List (ℕ × List ℕ)). (tag_of l, m) ∷ on)
      (body-there d at l p f ∙ sym (body-there e at' l q f))
      (r (at' + function_size own l) d e (rest-there d at l p f) (rest-there e at' l q f))
      ∙ sym (ap (told e) (entries-on (function own) (function-fits own) at' l some g)))

  -- what loops tell of themselves
  unfoldable told : List (ℕ × List ℕ) → List (ℕ × List ℕ)
  told [] = []
  told (g ∷ gs) = told_at g.1 0 g.1 ++ told gs

  abbrev pair : Group → ℕ × List ℕ
  pair g = (g.owner, g.loop)

  told-groups : (tx : ℕ) (d : List ℕ) (gs : List Group) → AllWithin own d gs → tags_and_bodies d (functions_of own (heard_of tx gs)) ≡ told (map pair (heard_of tx gs))
  unfolding tags_and_bodies heard_of functions_of told
  told-groups tx d [] w = refl
  told-groups tx d (g ∷ gs) w =
      let rest = told-groups tx d gs w.1 in
      cases (hears tx g.owner)
      (λ t. rw t (told-append d (loop_in own g).entries (functions_of own (heard_of tx gs))
      ∙ ap₂ (λ (x y : List (ℕ × List ℕ)). x ++ y) (told-alike g.start g.loop 0 d g.loop w.0.bytes (part-whole g.loop)) rest))
      (λ t. rw t rest)

  told-heard : (tx : ℕ) (d : List ℕ) → tags_and_bodies d (functions_for own tx d) ≡ told (heard_groups tx d)
  unfolding functions_for
  told-heard tx d = told-groups tx d (groups_of d) (within own d)

  -- THE SAME GROUPS (01: two well-formed data that agree on those groups give one transmitter the same tags and bodies)
  pub same-groups : (tx : ℕ) (d e : List ℕ) → heard_groups tx d ≡ heard_groups tx e → tags_and_bodies d (functions_for own tx d) ≡ tags_and_bodies e (functions_for own tx e)
  same-groups tx d e s = told-heard tx d ∙ ap told s ∙ sym (told-heard tx e)
