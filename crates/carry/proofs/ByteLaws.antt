-- The loads over the batch's bytes are the loads over its packets, and how they unfold, transport packet by transport packet.
-- Assumes nothing.
use mathlib.Core.Path.{◌≡◌, refl, sym, ap, ◌∙◌, subst}
use mathlib.Core.Bool.{true, false}
use mathlib.Core.List.{List, [], ◌∷◌, ◌++◌, append_assoc, append-nil}
use Prim.Native.Nat.{ℕ, zero, suc, ◌+◌, ◌-◌, ◌≤◌, ◌<◌, min}
use native.Mathlib.Nat.{add-zero, zero-add, add_assoc, min-eq_left}
use native.Mathlib.Omega.{arith}
use lib.Dec.{leb, ltb, eqb}
use lib.ListN.{length, take, drop, length-append, length-drop, length-take, drop_of_length-le}
use lib.Seq.{take_all, length-take-le, take-append-le, drop-append-le, drop-append-add, drop-append_seam}
use borrow.Author.Tests.{le-leb, lt-leb, lt-ltb, le-ltb, leb-true, leb-false, ltb-true, ltb-false, eq-eqb, ne_eqb, eqb-true, eqb-false}
use Rattle.fields.proofs.Cases.{cases, true≢false}
use Rattle.packet.specs.Layout.{size_of}
use Rattle.packet.specs.Cut.{Whole, AllWhole, joined}
use Rattle.packet.proofs.CutLaws.{joined-append}
use Rattle.packet.proofs.LayoutLaws.{size-least, size-append}
use Rattle.transport.specs.Load.{Load, plain, start}
use Rattle.transport.proofs.LoadLaws.{Sound, sound-plain, sound-start}
use Rattle.carry.specs.Loads.{Gone, gone_of, loads_by, loads_of}
use Rattle.carry.specs.OnBytes.{left_by, left_of, Plan, plan_of, load_for, bytes_by, loads_from}
use Rattle.carry.proofs.LoadLaws.{Goes, evenly, cut, goes, whole_long, joined-more, loads-start, loads-none, loads-plain}

-- ---- what is left of the packet that some bytes end in

-- a bound beyond n changes nothing
left-any : (k m n : ℕ) (l : List ℕ) → n ≤ k → n ≤ m → left_by k n l ≡ left_by m n l
unfolding left_by
left-any zero zero n l h g = refl
left-any zero (suc m) n l h g = let z : n ≡ 0 = omega arith in rw (le-leb n (size_of l) (omega arith), eq-eqb n 0 z)
left-any (suc k) zero n l h g = let z : n ≡ 0 = omega arith in rw (le-leb n (size_of l) (omega arith), eq-eqb n 0 z)
left-any (suc k) (suc m) n l h g =
    rw (left-any k m (n - size_of l) (drop (size_of l) l) (omega (arith, size-least l)) (omega (arith, size-least l)))

pub left-none : (l : List ℕ) → left_of 0 l ≡ 0
unfolding left_of left_by
left-none l = refl

pub left-past : (n : ℕ) (l : List ℕ) → size_of l < n → left_of n l ≡ left_of (n - size_of l) (drop (size_of l) l)
unfolding left_of left_by
left-past zero l h = absurd (omega arith)
left-past (suc n) l h =
    rw (lt-leb (suc n) (size_of l) h)
    (left-any n (suc n - size_of l) (suc n - size_of l) (drop (size_of l) l) (omega (arith, size-least l)) (omega arith))

pub left_in : (n : ℕ) (l : List ℕ) → 0 < n → n ≤ size_of l → left_of n l ≡ size_of l - n
unfolding left_of left_by
left_in zero l h g = absurd (omega arith)
left_in (suc n) l h g = rw (le-leb (suc n) (size_of l) g, ne_eqb (suc n) 0 (omega arith))

left_over : (p : List ℕ) (n : ℕ) (l : List ℕ) → Whole p → left_of (length p + n) (p ++ l) ≡ left_of n l
left_over p n l f =
    let e : size_of (p ++ l) ≡ length p = size-append p l (omega (arith, whole_long p f)) ∙ sym f.size in
    cases (eqb n 0)
    (λ t.
    let z : n ≡ 0 = eqb-true _ _ t in
    left_in (length p + n) (p ++ l) (omega (arith, whole_long p f)) (omega arith)
    ∙ (let y : size_of (p ++ l) - (length p + n) ≡ 0 = omega arith in y)
    ∙ sym (left-none l)
    ∙ ap (λ (j : ℕ). left_of j l) (sym z))
    (λ t.
    let z : n ≡ 0 → ⊥ = eqb-false _ _ t in
    let y : length p + n - length p ≡ n = omega arith in
    left-past (length p + n) (p ++ l) (omega arith) ∙ rw (e, y, drop-append_seam p l))

left-joined : (qs : List (List ℕ)) (n : ℕ) (l : List ℕ) → AllWhole qs → left_of (length (joined qs) + n) (joined qs ++ l) ≡ left_of n l
unfolding joined
left-joined [] n l f = ap (λ (j : ℕ). left_of j l) (zero-add n)
left-joined (p ∷ qs) n l f =
    rw (length-append p (joined qs), append_assoc p (joined qs) l, add_assoc (length p) (length (joined qs)) n)
    (left_over p (length (joined qs) + n) (joined qs ++ l) f.0 ∙ left-joined qs n l f.1)

gone-left : (ps : List (List ℕ)) (b : List ℕ) (g : Gone) → Goes ps b g → left_of (length b) (joined ps) ≡ length g.left
unfolding joined
gone-left ps b g (evenly qs rs f k) =
    rw (joined-append qs rs)
    (ap (λ (j : ℕ). left_of j (joined qs ++ joined rs)) (sym (add-zero (length (joined qs))))
    ∙ left-joined qs 0 (joined rs) f
    ∙ left-none (joined rs))
gone-left ps b g (cut qs v s rs f h k a c) =
    let e : size_of ((v ++ s) ++ joined rs) ≡ length v + length s =
    size-append (v ++ s) (joined rs) (omega (arith, whole_long (v ++ s) h)) ∙ sym h.size ∙ length-append v s in
    rw (joined-append qs ((v ++ s) ∷ rs), length-append (joined qs) v)
    (left-joined qs (length v) ((v ++ s) ++ joined rs) f
    ∙ left_in (length v) ((v ++ s) ++ joined rs) a (omega arith)
    ∙ (let y : size_of ((v ++ s) ++ joined rs) - length v ≡ length s = omega arith in y))

gone-rest : (ps : List (List ℕ)) (b : List ℕ) (g : Gone) → Goes ps b g → drop (length b) (joined ps) ≡ g.left ++ joined g.next
unfolding joined
gone-rest ps b g (evenly qs rs f k) = rw (joined-append qs rs) (drop-append_seam (joined qs) (joined rs))
gone-rest ps b g (cut qs v s rs f h k a c) =
    rw (joined-append qs ((v ++ s) ∷ rs), append_assoc v s (joined rs), ← append_assoc (joined qs) v (s ++ joined rs))
    (drop-append_seam (joined qs ++ v) (s ++ joined rs))

gone_whole : (ps : List (List ℕ)) (b : List ℕ) (g : Gone) → Goes ps b g → AllWhole g.next
gone_whole ps b g (evenly qs rs f k) = k
gone_whole ps b g (cut qs v s rs f h k a c) = k

-- ---- at most n, or all

pub take_min : (n : ℕ) (r : List ℕ) → take (min n (length r)) r ≡ take n r
take_min n r =
    cases (leb n (length r))
    (λ t. let h : n ≤ length r = leb-true _ _ t in ap (λ (j : ℕ). take j r) (min-eq_left h))
    (λ t. let h : length r < n = leb-false _ _ t in take_all (min n (length r)) r (omega arith) ∙ sym (take_all n r (omega arith)))

pub drop_min : (n : ℕ) (r : List ℕ) → drop (min n (length r)) r ≡ drop n r
drop_min n r =
    cases (leb n (length r))
    (λ t. let h : n ≤ length r = leb-true _ _ t in ap (λ (j : ℕ). drop j r) (min-eq_left h))
    (λ t.
    let h : length r < n = leb-false _ _ t in
    drop_of_length-le r {i = min n (length r)} (omega arith) ∙ sym (drop_of_length-le r {i = n} (omega arith)))

-- ---- a plan, by its test

abbrev pub start_plan : ℕ → List ℕ → Plan
start_plan r l = record { starts = true; bytes = min 183 (length l); left = left_of (min 183 (length l) - r) (drop r l) }

abbrev pub plain_plan : ℕ → List ℕ → Plan
plain_plan r l = record { starts = false; bytes = min (min 184 r) (length l); left = r - 184 }

pub plan-start : (r : ℕ) (l : List ℕ) → r < length l → r ≤ 182 → plan_of r l ≡ start_plan r l
unfolding plan_of
plan-start r l h g = rw (lt-ltb r (length l) h, le-leb r 182 g)

pub plan-end : (r : ℕ) (l : List ℕ) → length l ≤ r → plan_of r l ≡ plain_plan r l
unfolding plan_of
plan-end r l h = rw (le-ltb r (length l) h)

pub plan-full : (r : ℕ) (l : List ℕ) → 182 < r → plan_of r l ≡ plain_plan r l
unfolding plan_of
plan-full r l h =
    cases (ltb r (length l))
    (λ t. rw (t, lt-leb r 182 h))
    (λ t. rw t)

-- it carries a byte at least, and no more than there are
pub record Carries (r : ℕ) (l : List ℕ) : Type 0 where
  pub some : 0 < (plan_of r l).bytes
  pub most : (plan_of r l).bytes ≤ length l
  pub small : (plan_of r l).bytes ≤ 184

pub plan-carries : (r : ℕ) (l : List ℕ) → 0 < length l → Carries r l
plan-carries r l h =
    cases (ltb r (length l))
    (λ t.
    let a : r < length l = ltb-true _ _ t in
    cases (leb r 182)
    (λ s. let b : r ≤ 182 = leb-true _ _ s in
    let e = plan-start r l a b in
    record { some = rw e (omega arith); most = rw e (omega arith); small = rw e (omega arith) })
    (λ s. let b : 182 < r = leb-false _ _ s in
    let e = plan-full r l b in
    record { some = rw e (omega arith); most = rw e (omega arith); small = rw e (omega arith) }))
    (λ t.
    let a : length l ≤ r = ltb-false _ _ t in
    let e = plan-end r l a in
    record { some = rw e (omega arith); most = rw e (omega arith); small = rw e (omega arith) })

-- with a start: 01's first case
pub record Begun (r : ℕ) (l : List ℕ) : Type 0 where
  pub more : r < length l
  pub pointer : r ≤ 182
  pub is : plan_of r l ≡ start_plan r l

pub plan-begun : (r : ℕ) (l : List ℕ) → (plan_of r l).starts ≡ true → Begun r l
plan-begun r l h =
    cases (ltb r (length l))
    (λ t.
    let a : r < length l = ltb-true _ _ t in
    cases (leb r 182)
    (λ s. record { more = a; pointer = leb-true _ _ s; is = plan-start r l a (leb-true _ _ s) })
    (λ s. absurd (true≢false (sym h ∙ ap (λ (p : Plan). p.starts) (plan-full r l (leb-false _ _ s))))))
    (λ t. absurd (true≢false (sym h ∙ ap (λ (p : Plan). p.starts) (plan-end r l (ltb-false _ _ t)))))

-- what a load holds
pub load-sound : (r : ℕ) (l : List ℕ) → 0 < length l → Sound (load_for (plan_of r l) r l)
load-sound r l h =
    let c = plan-carries r l h in
    let n : length (take (plan_of r l).bytes l) ≡ (plan_of r l).bytes = length-take-le (plan_of r l).bytes l c.most in
    cases (plan_of r l).starts
    (λ t.
    let b = plan-begun r l t in
    let e : (plan_of r l).bytes ≡ min 183 (length l) = ap (λ (p : Plan). p.bytes) b.is in
    rw t (sound-start {n = r} {d = take (plan_of r l).bytes l} (omega (arith, b.more, b.pointer)) (omega arith)))
    (λ t. rw t (sound-plain {d = take (plan_of r l).bytes l} (omega (arith, c.some)) (omega (arith, c.small))))

-- ---- the loads unfold

by-nil : (k r : ℕ) → bytes_by k r [] ≡ []
unfolding bytes_by
by-nil zero r = refl
by-nil (suc k) r = refl

by-more : (k r : ℕ) (l : List ℕ) → 0 < length l → bytes_by (suc k) r l ≡ load_for (plan_of r l) r l ∷ bytes_by k (plan_of r l).left (drop (plan_of r l).bytes l)
unfolding bytes_by
by-more k r [] h = absurd (omega arith)
by-more k r (x ∷ l) h = refl

by-empty : (k r : ℕ) (l : List ℕ) → length l ≤ 0 → bytes_by k r l ≡ []
by-empty k r [] h = by-nil k r
by-empty k r (x ∷ l) h = absurd (omega arith)

-- a bound beyond the bytes changes nothing
by-any : (k m r : ℕ) (l : List ℕ) → length l ≤ k → length l ≤ m → bytes_by k r l ≡ bytes_by m r l
by-any zero m r l hk hm = by-empty zero r l (omega arith) ∙ sym (by-empty m r l (omega arith))
by-any (suc k) zero r l hk hm = by-empty (suc k) r l (omega arith) ∙ sym (by-empty zero r l (omega arith))
by-any (suc k) (suc m) r l hk hm =
    cases (leb (length l) 0)
    (λ t. let z : length l ≤ 0 = leb-true _ _ t in by-empty (suc k) r l z ∙ sym (by-empty (suc m) r l z))
    (λ t.
    let z : 0 < length l = leb-false _ _ t in
    let c = plan-carries r l z in
    let d : length (drop (plan_of r l).bytes l) ≡ length l - (plan_of r l).bytes = length-drop (plan_of r l).bytes l in
    by-more k r l z
    ∙ ap (λ (ls : List Load). load_for (plan_of r l) r l ∷ ls)
    (by-any k m (plan_of r l).left (drop (plan_of r l).bytes l) (omega (arith, c.some)) (omega (arith, c.some)))
    ∙ sym (by-more m r l z))

pub from-nil : (r : ℕ) → loads_from r [] ≡ []
unfolding loads_from
from-nil r = by-nil 0 r

pub from_more : (r : ℕ) (l : List ℕ) → 0 < length l
    → loads_from r l ≡ load_for (plan_of r l) r l ∷ loads_from (plan_of r l).left (drop (plan_of r l).bytes l)
unfolding loads_from
from_more r l h =
    let c = plan-carries r l h in
    by-any (length l) (suc (length l)) r l (omega arith) (omega arith)
    ∙ by-more (length l) r l h
    ∙ ap (λ (ls : List Load). load_for (plan_of r l) r l ∷ ls)
    (by-any (length l) (length (drop (plan_of r l).bytes l)) (plan_of r l).left (drop (plan_of r l).bytes l)
    (rw (length-drop (plan_of r l).bytes l) (omega arith)) (omega arith))

-- the first of them holds what a load may
pub first-sound : (r : ℕ) (l : List ℕ) (x : Load) (ls : List Load) → loads_from r l ≡ x ∷ ls → Sound x
first-sound r [] x ls e = let z : length (x ∷ ls) ≡ 0 = ap length (sym e ∙ from-nil r) in absurd (omega arith)
first-sound r (y ∷ l) x ls e =
    let h : 0 < length (y ∷ l) = omega arith in
    subst Sound (ap (head x) (sym (from_more r (y ∷ l) h) ∙ e)) (load-sound r (y ∷ l) h)
  where
    head : Load → List Load → Load
    head d [] = d
    head d (x ∷ ls) = x

-- there are no more loads than bytes
by-few : (k r : ℕ) (l : List ℕ) → length (bytes_by k r l) ≤ length l
by-few zero r l = unfold bytes_by in omega arith
by-few (suc k) r l =
    cases (leb (length l) 0)
    (λ t. rw (by-empty (suc k) r l (leb-true _ _ t)) (omega arith))
    (λ t.
    let z : 0 < length l = leb-false _ _ t in
    let c = plan-carries r l z in
    let f = by-few k (plan_of r l).left (drop (plan_of r l).bytes l) in
    rw (by-more k r l z) (omega (arith, length-drop (plan_of r l).bytes l, c.some, c.most)))

pub loads-few : (r : ℕ) (l : List ℕ) → length (loads_from r l) ≤ length l
unfolding loads_from
loads-few r l = by-few (length l) r l

-- ---- they are the loads of the packets

abbrev Same : ℕ → Type 0
Same k = (r : List ℕ) (ps : List (List ℕ)) → AllWhole ps → bytes_by k (length r) (r ++ joined ps) ≡ loads_by k r ps

-- with no start
going-same : (k : ℕ) (r : List ℕ) (ps : List (List ℕ)) → AllWhole ps → 0 < length r → plan_of (length r) (r ++ joined ps) ≡ plain_plan (length r) (r ++ joined ps) → Same k
    → bytes_by (suc k) (length r) (r ++ joined ps) ≡ plain (take 184 r) ∷ loads_by k (drop 184 r) ps
going-same k r ps f h e same =
    let l : List ℕ = r ++ joined ps in
    let ll : length (r ++ joined ps) ≡ length r + length (joined ps) = length-append r (joined ps) in
    let m : min (min 184 (length r)) (length (r ++ joined ps)) ≡ min 184 (length r) = omega arith in
    by-more k (length r) l (omega arith)
    ∙ rw (e, m, take-append-le (min 184 (length r)) r (joined ps) (omega arith), drop-append-le (min 184 (length r)) r (joined ps) (omega arith), take_min 184 r, drop_min 184 r, ← length-drop 184 r, same (drop 184 r) ps f)

starting-same : (k : ℕ) (r p : List ℕ) (ps : List (List ℕ)) → AllWhole (p ∷ ps) → length r ≤ 182 → Same k
    → bytes_by (suc k) (length r) (r ++ joined (p ∷ ps))
    ≡ start (length r) (take 183 (r ++ joined (p ∷ ps))) ∷ loads_by k (gone_of (183 - length r) (p ∷ ps)).left (gone_of (183 - length r) (p ∷ ps)).next
starting-same k r p ps f h same =
    let qs : List (List ℕ) = p ∷ ps in
    let l : List ℕ = r ++ joined (p ∷ ps) in
    let b : List ℕ = take (183 - length r) (joined (p ∷ ps)) in
    let g : Goes (p ∷ ps) (take (183 - length r) (joined (p ∷ ps))) (gone_of (183 - length r) (p ∷ ps)) = goes (183 - length r) (p ∷ ps) f in
    let ll : length (r ++ joined (p ∷ ps)) ≡ length r + length (joined (p ∷ ps)) = length-append r (joined (p ∷ ps)) in
    let lb : length (take (183 - length r) (joined (p ∷ ps))) ≡ min (183 - length r) (length (joined (p ∷ ps))) = length-take (183 - length r) (joined (p ∷ ps)) in
    let e : min 183 (length (r ++ joined (p ∷ ps))) - length r ≡ length (take (183 - length r) (joined (p ∷ ps))) = rw lb (omega arith) in
    let n : length r + (183 - length r) ≡ 183 = omega arith in
    let d : drop 183 (r ++ joined (p ∷ ps)) ≡ (gone_of (183 - length r) (p ∷ ps)).left ++ joined (gone_of (183 - length r) (p ∷ ps)).next =
    ap (λ (j : ℕ). drop j (r ++ joined (p ∷ ps))) (sym n)
    ∙ drop-append-add r (joined (p ∷ ps)) (183 - length r)
    ∙ sym (drop_min (183 - length r) (joined (p ∷ ps)))
    ∙ ap (λ (j : ℕ). drop j (joined (p ∷ ps))) (sym lb)
    ∙ gone-rest (p ∷ ps) (take (183 - length r) (joined (p ∷ ps))) (gone_of (183 - length r) (p ∷ ps)) g in
    by-more k (length r) l (omega (arith, joined-more p ps, whole_long p f.0))
    ∙ rw (plan-start (length r) l (omega (arith, joined-more p ps, whole_long p f.0)) h, take_min 183 l, drop_min 183 l, e, drop-append_seam r (joined (p ∷ ps)), gone-left (p ∷ ps) b (gone_of (183 - length r) (p ∷ ps)) g, d, same (gone_of (183 - length r) (p ∷ ps)).left (gone_of (183 - length r) (p ∷ ps)).next (gone_whole (p ∷ ps) b (gone_of (183 - length r) (p ∷ ps)) g))

joined-none : joined [] ≡ []
unfolding joined
joined-none = refl

on-bytes : (k : ℕ) → Same k
on-bytes zero r ps f = unfold bytes_by loads_by in refl
on-bytes (suc k) [] [] f = ap (bytes_by (suc k) 0) joined-none ∙ by-nil (suc k) 0 ∙ sym (loads-none k)
on-bytes (suc k) (x ∷ r) [] f =
    let e : length ((x ∷ r) ++ joined []) ≡ length (x ∷ r) = rw joined-none (ap length (append-nil (x ∷ r))) in
    going-same k (x ∷ r) [] f (omega arith) (plan-end (length (x ∷ r)) ((x ∷ r) ++ joined []) (omega arith)) (on-bytes k)
    ∙ sym (loads-plain k (x ∷ r) [] (omega arith) refl)
on-bytes (suc k) r (p ∷ ps) f =
    cases (leb (length r) 182)
    (λ t. let h : length r ≤ 182 = leb-true _ _ t in
    starting-same k r p ps f h (on-bytes k) ∙ sym (loads-start k r p ps h))
    (λ t. let h : 182 < length r = leb-false _ _ t in
    going-same k r (p ∷ ps) f (omega arith) (plan-full (length r) (r ++ joined (p ∷ ps)) h) (on-bytes k)
    ∙ sym (loads-plain k r (p ∷ ps) (omega arith) t))

-- a batch of whole packets is carried as its bytes are
pub batch-bytes : (ps : List (List ℕ)) → AllWhole ps → loads_from 0 (joined ps) ≡ loads_of ps
unfolding loads_of loads_from
batch-bytes ps f = on-bytes (length (joined ps)) [] ps f
