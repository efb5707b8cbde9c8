-- The writer's loads flow: 01's four cases, of which the three without a start are one (the next 184 bytes of what is left
-- of the packet under way, or all of them).
-- Assumes nothing.
use mathlib.Core.Path.{◌≡◌, refl, sym, ap, ◌∙◌, subst}
use mathlib.Core.Bool.{Bool, true, false, ◌&&◌}
use mathlib.Core.List.{List, [], ◌∷◌, ◌++◌, append_assoc}
use Prim.Native.Nat.{ℕ, zero, suc, ◌+◌, ◌-◌, ◌≤◌, ◌<◌, min}
use native.Mathlib.Omega.{arith}
use lib.Dec.{leb, eqb}
use lib.ListN.{length, take, drop, length-append, length-take, length-drop, take-append-drop, drop_of_length-le}
use lib.Seq.{take_all, take-nil, take-append-add, take-append-le, length-take-le}
use borrow.Author.Tests.{le-leb, leb-true, leb-false, ne_eqb, eqb-true, eqb-false}
use Rattle.fields.proofs.Cases.{cases, and_left}
use Rattle.packet.specs.Cut.{Whole, AllWhole, joined}
use Rattle.packet.proofs.CutLaws.{joined-append}
use Rattle.packet.proofs.LayoutLaws.{size-least}
use Rattle.transport.specs.Load.{plain, start}
use Rattle.carry.specs.Loads.{Gone, gone_of, follows, loads_by, loads_of}
use Rattle.carry.proofs.Flow.{Way, none, under, Flow, done, on, end, even, split}

-- ---- packets one after another

pub whole_long : (p : List ℕ) → Whole p → 10 ≤ length p
whole_long p w = omega (arith, size-least p, w.size)

pub joined-more : (p : List ℕ) (ps : List (List ℕ)) → length (joined (p ∷ ps)) ≡ length p + length (joined ps)
unfolding joined
joined-more p ps = length-append p (joined ps)

-- ---- how a load unfolds

pub loads-start : (k : ℕ) (r p : List ℕ) (ps : List (List ℕ)) → length r ≤ 182
    → loads_by (suc k) r (p ∷ ps) ≡ start (length r) (take 183 (r ++ joined (p ∷ ps))) ∷ loads_by k (gone_of (183 - length r) (p ∷ ps)).left (gone_of (183 - length r) (p ∷ ps)).next
unfolding loads_by
loads-start k r p ps h = rw (le-leb (length r) 182 h)

pub loads-none : (k : ℕ) → loads_by (suc k) [] [] ≡ []
unfolding loads_by
loads-none k = refl

-- with no start: because nothing follows, or 183 bytes and more are left
pub loads-plain : (k : ℕ) (r : List ℕ) (ps : List (List ℕ)) → 0 < length r → (follows ps && leb (length r) 182) ≡ false
    → loads_by (suc k) r ps ≡ plain (take 184 r) ∷ loads_by k (drop 184 r) ps
unfolding loads_by
loads-plain k r ps n h =
    cases (leb 184 (length r))
    (λ t. rw (h, t))
    (λ t.
    let m : length r < 184 = leb-false _ _ t in
    let a : take 184 r ≡ r = take_all 184 r (omega arith) in
    let d : drop 184 r ≡ [] = drop_of_length-le r {i = 184} (omega arith) in
    cases (eqb (length r) 183 && follows ps)
    (λ s. let b : take 183 r ≡ r = take_all 183 r (odd (length r) (follows ps) s) in
    let e : drop 183 r ≡ [] = drop_of_length-le r {i = 183} (odd (length r) (follows ps) s) in
    rw (h, t, s, a, d, b, e))
    (λ s. rw (h, t, s, ne_eqb (length r) 0 (omega arith), a, d)))
  where
    odd : (m : ℕ) (b : Bool) → (eqb m 183 && b) ≡ true → m ≤ 183
    odd m b e = let z : m ≡ 183 = eqb-true m 183 (and_left (eqb m 183) b e) in omega arith

-- ---- what `gone_of` gives: the packet that the bytes end in is cut, or they end with one

pub data Goes : List (List ℕ) → List ℕ → Gone → Type 0 where
  evenly : (qs ps : List (List ℕ)) → AllWhole qs → AllWhole ps → Goes (qs ++ ps) (joined qs) (record { left = []; next = ps })
  cut : (qs : List (List ℕ)) (v s : List ℕ) (ps : List (List ℕ)) → AllWhole qs → Whole (v ++ s) → AllWhole ps → 0 < length v → 0 < length s
      → Goes (qs ++ ((v ++ s) ∷ ps)) (joined qs ++ v) (record { left = s; next = ps })

goes-more : (p : List ℕ) (ps : List (List ℕ)) (b : List ℕ) (g : Gone) → Whole p → Goes ps b g → Goes (p ∷ ps) (p ++ b) g
unfolding joined
goes-more p ps b g f (evenly qs rs h k) = evenly (p ∷ qs) rs (f, h) k
goes-more p ps b g f (cut qs v s rs h j k a c) =
    subst (λ (l : List ℕ). Goes (p ∷ (qs ++ ((v ++ s) ∷ rs))) l (record { left = s; next = rs })) (append_assoc p (joined qs) v)
    (cut (p ∷ qs) v s rs (f, h) j k a c)

pub goes : (n : ℕ) (ps : List (List ℕ)) → AllWhole ps → Goes ps (take n (joined ps)) (gone_of n ps)
unfolding gone_of joined
goes n [] f = rw (take-nil n) (evenly [] [] tt tt)
goes n (p ∷ ps) f =
    cases (leb (length p) n)
    (λ t.
    let h : length p ≤ n = leb-true _ _ t in
    let e : length p + (n - length p) ≡ n = omega arith in
    rw (t, sym (ap (λ (k : ℕ). take k (p ++ joined ps)) e) ∙ take-append-add p (joined ps) (n - length p))
    (goes-more p ps (take (n - length p) (joined ps)) (gone_of (n - length p) ps) f.0 (goes (n - length p) ps f.1)))
    (λ t.
    let h : n < length p = leb-false _ _ t in
    cases (eqb n 0)
    (λ z. let e : n ≡ 0 = eqb-true n 0 z in rw (t, z, ap (λ (k : ℕ). take k (p ++ joined ps)) e) (evenly [] (p ∷ ps) tt f))
    (λ z.
    let k : 0 < n = pos n (eqb-false _ _ z) in
    rw (t, z, take-append-le n p (joined ps) (omega arith))
    (subst (λ (q : List ℕ). Goes (q ∷ ps) (take n p) (record { left = drop n p; next = ps })) (take-append-drop n p)
    (cut [] (take n p) (drop n p) ps tt (rw (take-append-drop n p) f.0) f.1 (rw (length-take-le n p (omega arith)) k) (simp length-drop (omega arith))))))
  where
    pos : (m : ℕ) → (m ≡ 0 → ⊥) → 0 < m
    pos m h = omega arith

-- ---- the loads flow

pub way-under : {u r : List ℕ} → Way u r → 0 < length r → (0 < length u) × Whole (u ++ r)
way-under none h = absurd (omega arith)
way-under (under a b f) h = (a, f)

-- all loads in at most k transport packets
abbrev Full : ℕ → Type 0
Full k = (u r : List ℕ) (ps : List (List ℕ)) → length r + length (joined ps) ≤ k → Way u r → AllWhole ps → Flow u r ps (loads_by k r ps)

going : (k : ℕ) (u r : List ℕ) (ps : List (List ℕ)) → length r + length (joined ps) ≤ suc k → Way u r → 0 < length r → AllWhole ps → Full k
    → Flow u r ps (plain (take 184 r) ∷ loads_by k (drop 184 r) ps)
going k u r ps h w n f full =
    let a : 0 < length u = (way-under w n).0 in
    let g : Whole (u ++ r) = (way-under w n).1 in
    cases (leb 185 (length r))
    (λ t.
    let m : 185 ≤ length r = leb-true _ _ t in
    let lt : length (take 184 r) ≡ 184 = length-take-le 184 r (omega arith) in
    let ld : length (drop 184 r) ≡ length r - 184 = length-drop 184 r in
    subst (λ (l : List ℕ). Flow u l ps (plain (take 184 r) ∷ loads_by k (drop 184 r) ps)) (take-append-drop 184 r)
    (on u (take 184 r) (drop 184 r) ps (loads_by k (drop 184 r) ps) a (omega arith) (omega arith) (omega arith) (rw (take-append-drop 184 r) g)
    (full (u ++ take 184 r) (drop 184 r) ps (omega arith)
    (under {u = u ++ take 184 r} {r = drop 184 r} (simp length-append (omega arith)) (omega arith) (rw (append_assoc u (take 184 r) (drop 184 r), take-append-drop 184 r) g)) f)))
    (λ t.
    let m : length r < 185 = leb-false _ _ t in
    rw (take_all 184 r (omega arith), drop_of_length-le r {i = 184} (omega arith))
    (end u r ps (loads_by k [] ps) a n (omega arith) g (full [] [] ps (omega arith) none f)))

starting : (k : ℕ) (u r : List ℕ) (ps : List (List ℕ)) (b : List ℕ) (g : Gone) → length r + length (joined ps) ≤ suc k → Way u r → Goes ps b g → 0 < length b → length (r ++ b) ≤ 183 → Full k
    → Flow u r ps (start (length r) (r ++ b) ∷ loads_by k g.left g.next)
starting k u r ps b g h w (evenly qs rs fq fr) n m full =
    let l : length (joined (qs ++ rs)) ≡ length (joined qs) + length (joined rs) = ap length (joined-append qs rs) ∙ length-append (joined qs) (joined rs) in
    even u r qs rs (loads_by k [] rs) w n m fq (full [] [] rs (omega arith) none fr)
starting k u r ps b g h w (cut qs v s rs fq fp fr a c) n m full =
    let l : length (joined (qs ++ ((v ++ s) ∷ rs))) ≡ length (joined qs) + length (joined ((v ++ s) ∷ rs)) =
    ap length (joined-append qs ((v ++ s) ∷ rs)) ∙ length-append (joined qs) (joined ((v ++ s) ∷ rs)) in
    split u r qs v s rs (loads_by k s rs) w a c m fq fp (full v s rs (omega (arith, joined-more (v ++ s) rs, length-append v s)) (under a c fp) fr)

-- the bytes behind a start: what is left of the packet under way, and those that go from the packets that follow
pub start-bytes : (r : List ℕ) (ps : List (List ℕ)) → length r ≤ 182 → take 183 (r ++ joined ps) ≡ r ++ take (183 - length r) (joined ps)
start-bytes r ps h =
    let e : length r + (183 - length r) ≡ 183 = omega arith in
    sym (ap (λ (j : ℕ). take j (r ++ joined ps)) e) ∙ take-append-add r (joined ps) (183 - length r)

flows : (k : ℕ) → Full k
flows zero u [] [] h none f = unfold loads_by in done
flows zero u [] [] h (under a b c) f = absurd (omega arith)
flows zero u [] (p ∷ ps) h w f = absurd (omega (arith, joined-more p ps, whole_long p f.0))
flows zero u (x ∷ r) ps h w f = absurd (omega arith)
flows (suc k) u [] [] h none f = rw (loads-none k) done
flows (suc k) u [] [] h (under a b c) f = absurd (omega arith)
flows (suc k) u (x ∷ r) [] h w f = rw (loads-plain k (x ∷ r) [] (omega arith) refl) (going k u (x ∷ r) [] h w (omega arith) f (flows k))
flows (suc k) u r (p ∷ ps) h w f =
    cases (leb (length r) 182)
    (λ t.
    let m : length r ≤ 182 = leb-true _ _ t in
    let lt : length (take (183 - length r) (joined (p ∷ ps))) ≡ min (183 - length r) (length (joined (p ∷ ps))) = length-take _ _ in
    rw (loads-start k r p ps m, start-bytes r (p ∷ ps) m)
    (starting k u r (p ∷ ps) (take (183 - length r) (joined (p ∷ ps))) (gone_of (183 - length r) (p ∷ ps)) h w (goes (183 - length r) (p ∷ ps) f)
    (omega (arith, joined-more p ps, whole_long p f.0)) (simp length-append (omega (arith, joined-more p ps))) (flows k)))
    (λ t.
    let m : 182 < length r = leb-false _ _ t in
    rw (loads-plain k r (p ∷ ps) (omega arith) t) (going k u r (p ∷ ps) h w (omega arith) f (flows k)))

pub flows-of : (ps : List (List ℕ)) → AllWhole ps → Flow [] [] ps (loads_of ps)
unfolding loads_of
flows-of ps f = flows (length (joined ps)) [] [] ps (omega arith) none f
