-- What a batch's transport packets are goes by the lengths of its packets alone.
-- Assumes nothing.
use mathlib.Core.Path.{◌≡◌, refl, sym, ap, ap₂, ◌∙◌}
use mathlib.Core.Bool.{Bool, true, ◌&&◌, and-false}
use mathlib.Core.List.{List, [], ◌∷◌, ◌++◌, map}
use Prim.Native.Nat.{ℕ, zero, suc, ◌+◌, ◌-◌, ◌*◌, ◌/◌, ◌≤◌, ◌<◌, min}
use native.Mathlib.Omega.{arith}
use lib.Dec.{leb, eqb}
use lib.ListN.{length, take, drop, length-append, length-take, length-drop, length-map}
use lib.Seq.{length-take-le}
use borrow.Author.Tests.{leb-true, leb-false, eqb-true, eqb-false, eq-eqb}
use Rattle.fields.proofs.Cases.{cases, and_left}
use Rattle.packet.specs.Cut.{AllWhole, joined}
use Rattle.carry.specs.Loads.{Gone, gone_of, follows, loads_by, loads_of}
use Rattle.carry.proofs.LoadLaws.{whole_long}
use Rattle.carry.specs.Rows.{Shape, carries, begins, shape_of, sum, Rest, rest_of, shapes_by, shapes}

pub length-joined : (ps : List (List ℕ)) → length (joined ps) ≡ sum (map length ps)
unfolding joined
length-joined [] = refl
length-joined (p ∷ ps) = length-append p (joined ps) ∙ ap (λ (n : ℕ). length p + n) (length-joined ps)

follows_same : (ps : List (List ℕ)) → follows ps ≡ follows (map length ps)
follows_same [] = refl
follows_same (p ∷ ps) = refl

record Same (g : Gone) (r : Rest) : Type 0 where
  left : length g.left ≡ r.left
  next : map length g.next ≡ r.next

gone_same : (n : ℕ) (ps : List (List ℕ)) → Same (gone_of n ps) (rest_of n (map length ps))
unfolding gone_of rest_of
gone_same n [] = record { left = refl; next = refl }
gone_same n (p ∷ ps) =
    cases (leb (length p) n)
    (λ t. rw t (gone_same (n - length p) ps))
    (λ t.
    cases (eqb n 0)
    (λ z. rw (t, z) (record { left = refl; next = refl }))
    (λ z. rw (t, z) (record { left = length-drop n p; next = refl })))

shapes-by : (k : ℕ) (r : List ℕ) (ps : List (List ℕ)) → map shape_of (loads_by k r ps) ≡ shapes_by k (length r) (map length ps)
unfolding loads_by shapes_by
shapes-by zero r ps = refl
shapes-by (suc k) r ps =
    rw (← follows_same ps)
    (cases (follows ps && leb (length r) 182)
    (λ t.
    let g = gone_same (183 - length r) ps in
    rw t
    (ap₂ ◌∷◌
    (ap (begins (length r)) (length-take 183 (r ++ joined ps) ∙ ap (min 183) (length-append r (joined ps) ∙ ap (λ (n : ℕ). length r + n) (length-joined ps))))
    (shapes-by k (gone_of (183 - length r) ps).left (gone_of (183 - length r) ps).next ∙ ap₂ (shapes_by k) g.left g.next)))
    (λ t.
    cases (leb 184 (length r))
    (λ u. rw (t, u) (gone k r ps 184 (leb-true _ _ u) (shapes-by k)))
    (λ u.
    cases (eqb (length r) 183 && follows ps)
    (λ v. rw (t, u, v) (gone k r ps 183 (odd (length r) (follows ps) v) (shapes-by k)))
    (λ v.
    cases (eqb (length r) 0)
    (λ z. rw (t, u, v, z))
    (λ z. rw (t, u, v, z) (ap (λ (l : List Shape). carries (length r) ∷ l) (shapes-by k [] ps)))))))
  where
    odd : (m : ℕ) (b : Bool) → (eqb m 183 && b) ≡ true → 183 ≤ m
    odd m b e = let z : m ≡ 183 = eqb-true m 183 (and_left (eqb m 183) b e) in omega arith

    gone : (j : ℕ) (l : List ℕ) (qs : List (List ℕ)) (n : ℕ) → n ≤ length l
        → ((m : List ℕ) (os : List (List ℕ)) → map shape_of (loads_by j m os) ≡ shapes_by j (length m) (map length os))
        → carries (length (take n l)) ∷ map shape_of (loads_by j (drop n l) qs) ≡ carries n ∷ shapes_by j (length l - n) (map length qs)
    gone j l qs n h rec =
        ap₂ ◌∷◌ (ap carries (length-take-le n l h)) (rec (drop n l) qs ∙ ap (λ (m : ℕ). shapes_by j m (map length qs)) (length-drop n l))

-- the lengths say it all
pub shapes-of : (ps : List (List ℕ)) → map shape_of (loads_of ps) ≡ shapes (map length ps)
unfolding loads_of shapes
shapes-of ps = shapes-by (length (joined ps)) [] ps ∙ ap (λ (k : ℕ). shapes_by k 0 (map length ps)) (length-joined ps)

-- how many transport packets a batch needs
pub needs : (ps : List (List ℕ)) → length (loads_of ps) ≡ length (shapes (map length ps))
needs ps = sym (length-map (loads_of ps) shape_of) ∙ ap length (shapes-of ps)

-- ---- how many at the most: each but the last carries 183 bytes at least

-- none of these lengths is 0
abbrev pub Some : List ℕ → Type 0
Some [] = Unit
Some (n ∷ ns) = (0 < n) × Some ns

rest_some : (n : ℕ) (ns : List ℕ) → Some ns → Some (rest_of n ns).next
unfolding rest_of
rest_some n [] p = tt
rest_some n (m ∷ ms) p =
    cases (leb m n) (λ t. rw t (rest_some (n - m) ms p.1)) (λ t. cases (eqb n 0) (λ z. rw (t, z) p) (λ z. rw (t, z) p.1))

rest_sum : (n : ℕ) (ns : List ℕ) → (rest_of n ns).left + sum (rest_of n ns).next ≡ sum ns - n
unfolding rest_of
rest_sum n [] = omega arith
rest_sum n (m ∷ ms) =
    cases (leb m n)
    (λ t. rw t (rest_sum (n - m) ms ∙ omega (arith, leb-true m n t)))
    (λ t.
    cases (eqb n 0)
    (λ z. rw (t, z) (omega (arith, eqb-true n 0 z)))
    (λ z. rw (t, z) (omega (arith, leb-false m n t))))

-- a start takes 183 bytes, or all that are left
started : (r total left more : ℕ) → r ≤ 182 → 0 < total → left ≡ total - (183 - r) → 183 * more ≤ left + 182 → 183 * suc more ≤ r + total + 182
started r total left more a b e h = omega arith

few-by : (k r : ℕ) (ns : List ℕ) → Some ns → 183 * length (shapes_by k r ns) ≤ r + sum ns + 182
unfolding shapes_by
few-by zero r ns p = omega arith
few-by (suc k) r [] p =
    cases (leb 184 r)
    (λ u. rw u (omega (arith, few-by k (r - 184) [] tt, leb-true 184 r u)))
    (λ u. rw (u, and-false (eqb r 183))
    (cases (eqb r 0)
    (λ z. rw z (omega arith))
    (λ z. rw z (omega (arith, few-by k 0 [] tt, eqb-false r 0 z)))))
few-by (suc k) r (m ∷ ms) p =
    cases (leb r 182)
    (λ t.
    let rest : Rest = rest_of (183 - r) (m ∷ ms) in
    rw t
    (started r (m + sum ms) (rest.left + sum rest.next) (length (shapes_by k rest.left rest.next)) (leb-true r 182 t) (omega (arith, p.0)) (rest_sum (183 - r) (m ∷ ms))
    (few-by k rest.left rest.next (rest_some (183 - r) (m ∷ ms) p))))
    (λ t.
    cases (leb 184 r)
    (λ u. rw (t, u) (omega (arith, few-by k (r - 184) (m ∷ ms) p, leb-true 184 r u)))
    (λ u.
    let e : r ≡ 183 = omega (arith, leb-false r 182 t, leb-false 184 r u) in
    rw (t, u, eq-eqb r 183 e) (omega (arith, few-by k (r - 183) (m ∷ ms) p))))

some-lengths : (ps : List (List ℕ)) → AllWhole ps → Some (map length ps)
some-lengths [] w = tt
some-lengths (p ∷ ps) w = (omega (arith, whole_long p w.0), some-lengths ps w.1)

-- A theorem: room for one transport packet for each 183 bytes, and one more, is always enough
pub needs-few : (ps : List (List ℕ)) → AllWhole ps → length (loads_of ps) ≤ length (joined ps) / 183 + 1
needs-few ps w =
    let f : 183 * length (shapes (map length ps)) ≤ 0 + sum (map length ps) + 182 = unfold shapes in few-by (sum (map length ps)) 0 (map length ps) (some-lengths ps w) in
    omega (arith, needs ps, length-joined ps)
