-- Every carrier of a packet came exactly where every byte of it did.
-- Assumes nothing.
use mathlib.Core.Path.{◌≡◌, refl, sym, ap, ◌∙◌}
use Prim.Native.Nat.{ℕ, suc, ◌+◌, ◌-◌, ◌≤◌, ◌<◌, min, max}
use mathlib.Core.Bool.{Bool, true, false, cond, ◌&&◌, and-true}
use mathlib.Core.List.{List, [], ◌∷◌, ◌++◌}
use native.Mathlib.Nat.{add-zero, zero-add}
use native.Mathlib.Numerals.{one-add}
use native.Mathlib.Omega.{arith}
use lib.Dec.{leb, ltb}
use lib.ListN.{length, get_or, take, drop, replicate, length-replicate}
use lib.Seq.{take-append-le, take_all, drop_at, drop-drop, drop-nil, take-nil, get_or-drop}
use borrow.Author.Tests.{leb-true, leb-false, ltb-true, ltb-false}
use Rattle.fields.proofs.Cases.{cases}
use Rattle.transport.specs.Header.{carried_by}
use Rattle.demands.specs.Route.{carriers, each, due}
use Rattle.demands.proofs.MeetsThree.Events.{byte_came, every, complete}
use Rattle.demands.proofs.MeetsThree.Due.{replicate-on, every_append, every-same, take_on, drop-on}

-- ---- r bytes came or not, and then bytes as m says

drop_rep : (j k : ℕ) (b : Bool) (m : List Bool) → drop j (replicate (j + k) b ++ m) ≡ replicate k b ++ m
drop_rep j k b m = ap (drop j) (replicate-on j k b m) ∙ drop_at (replicate j b) (replicate k b ++ m) j (length-replicate j b)

take_rep : (j k : ℕ) (b : Bool) (m : List Bool) → take j (replicate (j + k) b ++ m) ≡ replicate j b
take_rep j k b m =
    ap (take j) (replicate-on j k b m)
    ∙ take-append-le j (replicate j b) (replicate k b ++ m) (omega (arith, length-replicate j b))
    ∙ take_all j (replicate j b) (omega (arith, length-replicate j b))

-- the first x are asked for
inner : (r x y : ℕ) (b : Bool) (m : List Bool) → 0 < r → 0 < x → y ≡ x - r → every (take x (replicate r b ++ m)) ≡ b && every (take y m)
inner r x y b m h k e =
    cases (leb x r)
    (λ t.
    let l : x ≤ r = leb-true _ _ t in
    let z : y ≡ 0 = omega arith in
    let q : r ≡ x + (r - x) = omega arith in
    ap (λ (j : ℕ). every (take x (replicate j b ++ m))) q
    ∙ ap every (take_rep x (r - x) b m)
    ∙ every-same x b k
    ∙ sym (and-true b)
    ∙ ap (λ (j : ℕ). b && every (take j m)) (sym z))
    (λ t.
    let l : r < x = leb-false _ _ t in
    let q : x ≡ r + y = omega arith in
    ap (λ (j : ℕ). every (take j (replicate r b ++ m))) q ∙ ap every (take_on r y b m) ∙ every_append r b (take y m) h)

-- ---- of the bytes from place c on, those from a up to b

abbrev asked : ℕ → ℕ → ℕ → List Bool → Bool
asked a b c m = every (take (b - max a c) (drop (a - c) m))

none-asked : (a b c : ℕ) (m : List Bool) → b ≤ max a c → asked a b c m ≡ true
none-asked a b c m h = let z : b - max a c ≡ 0 = omega arith in ap (λ (j : ℕ). every (take j (drop (a - c) m))) z

gap : (a b m n : ℕ) → m < n → a ≤ m → b - max a n ≡ b - m - (n - m)
gap a b m n h k = let e : max a n ≡ n = omega arith in rw e (omega arith)

below : (b n m : ℕ) → min b n ≤ m → m < b → n ≤ m
below b n m h k = omega arith

back : (a c s : ℕ) → c + s ≤ max a c → a - c ≡ s + (a - (c + s))
back a c s h = omega arith

same-max : (a c s : ℕ) → c + s ≤ max a c → max a c ≡ max a (c + s)
same-max a c s h = omega arith

-- a transport packet that carries s of them
step : (s a b c : ℕ) (v : Bool) (m : List Bool)
    → asked a b c (replicate s v ++ m) ≡ cond (ltb (max a c) (min b (c + s))) (v && asked a b (c + s) m) (asked a b (c + s) m)
step s a b c v m =
    cases (ltb (max a c) (min b (c + s)))
    (λ t.
    let l : max a c < min b (c + s) = ltb-true _ _ t in
    let j : s ≡ (a - c) + (c + s - max a c) = omega arith in
    let z : a - (c + s) ≡ 0 = omega arith in
    rw t
    (ap (λ (i : ℕ). every (take (b - max a c) (drop (a - c) (replicate i v ++ m)))) j
    ∙ ap (λ (i : List Bool). every (take (b - max a c) i)) (drop_rep (a - c) (c + s - max a c) v m)
    ∙ inner (c + s - max a c) (b - max a c) (b - max a (c + s)) v m (omega arith) (omega arith) (gap a b (max a c) (c + s) (omega arith) (omega arith))
    ∙ ap (λ (i : ℕ). v && every (take (b - max a (c + s)) (drop i m))) (sym z)))
    (λ t.
    let l : min b (c + s) ≤ max a c = ltb-false _ _ t in
    rw t
    (cases (leb b (max a c))
    (λ q. let g : b ≤ max a c = leb-true _ _ q in none-asked a b c (replicate s v ++ m) g ∙ sym (none-asked a b (c + s) m (omega arith)))
    (λ q.
    let g : max a c < b = leb-false _ _ q in
    let w : c + s ≤ max a c = below b (c + s) (max a c) l g in
    let e : a - c ≡ s + (a - (c + s)) = back a c s w in
    let f : b - max a c ≡ b - max a (c + s) = ap (λ (i : ℕ). b - i) (same-max a c s w) in
    ap (λ (i : ℕ). every (take (b - max a c) (drop i (replicate s v ++ m)))) e
    ∙ ap (λ (i : List Bool). every (take (b - max a c) i)) (drop-on s (a - (c + s)) v m)
    ∙ ap (λ (i : ℕ). every (take i (drop (a - (c + s)) m))) f)))

-- ---- over all transport packets

came-cons : (bs : List Bool) (t : List ℕ) (ts : List (List ℕ)) → byte_came bs (t ∷ ts) ≡ replicate (length (carried_by t)) (get_or bs 0 false) ++ byte_came (drop 1 bs) ts
came-cons [] t ts = refl
came-cons (b ∷ bs) t ts = refl

each-cond : (b : Bool) (f : ℕ → Bool) (k : ℕ) (ks : List ℕ) → each f (cond b (k ∷ ks) ks) ≡ cond b (f k && each f ks) (each f ks)
each-cond true f k ks = refl
each-cond false f k ks = refl

add-suc-of : (k i : ℕ) → k + suc i ≡ suc k + i
add-suc-of k i = omega arith

spans : (ts : List (List ℕ)) (bs : List Bool) (f : ℕ → Bool) (a b c k : ℕ) → ((i : ℕ) → i < length ts → get_or bs i false ≡ f (k + i))
    → asked a b c (byte_came bs ts) ≡ each f (carriers a b c k ts)
spans [] bs f a b c k h = ap (λ (l : List Bool). every (take (b - max a c) l)) (drop-nil (a - c)) ∙ ap every (take-nil (b - max a c))
spans (t ∷ ts) bs f a b c k h =
    let n : ℕ = length (carried_by t) in
    let e : get_or bs 0 false ≡ f k = h 0 (omega arith) ∙ ap f (add-zero k) in
    let g : (i : ℕ) → i < length ts → get_or (drop 1 bs) i false ≡ f (suc k + i) =
    λ i l. get_or-drop 1 bs i false ∙ ap (λ (j : ℕ). get_or bs j false) (one-add i) ∙ h (suc i) (omega arith) ∙ ap f (add-suc-of k i) in
    rw (came-cons bs t ts, each-cond (ltb (max a c) (min b (c + length (carried_by t)))) f k (carriers a b (c + length (carried_by t)) (suc k) ts))
    (step (length (carried_by t)) a b c (get_or bs 0 false) (byte_came (drop 1 bs) ts)
    ∙ rw (e, spans ts (drop 1 bs) f a b (c + length (carried_by t)) (suc k) g))

pub complete-due : (ts : List (List ℕ)) (bs : List Bool) (f : ℕ → Bool) → ((i : ℕ) → i < length ts → get_or bs i false ≡ f i) → (a : ℕ) (ps : List (List ℕ))
    → complete ps (drop a (byte_came bs ts)) ≡ due f ts a ps
complete-due ts bs f h a [] = refl
complete-due ts bs f h a (p ∷ ps) =
    let z : a + length p - max a 0 ≡ length p = omega arith in
    let y : a - 0 ≡ a = omega arith in
    let x : every (take (length p) (drop a (byte_came bs ts))) ≡ each f (carriers a (a + length p) 0 0 ts) =
    ap (λ (j : ℕ). every (take j (drop a (byte_came bs ts)))) (sym z)
    ∙ ap (λ (j : ℕ). every (take (a + length p - max a 0) (drop j (byte_came bs ts)))) (sym y)
    ∙ spans ts bs f a (a + length p) 0 0 (λ i l. h i l ∙ ap f (sym (zero-add i))) in
    rw (x, drop-drop (length p) a (byte_came bs ts), complete-due ts bs f h (a + length p) ps)
