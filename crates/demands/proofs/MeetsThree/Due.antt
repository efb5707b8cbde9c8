-- The packets that are due, with one under way, as bytes come or are lost.
-- Assumes nothing.
use mathlib.Core.Path.{◌≡◌, refl, sym, ap, ◌∙◌}
use Prim.Native.Nat.{ℕ, zero, suc, ◌+◌, ◌<◌}
use mathlib.Core.Bool.{Bool, true, false, cond, ◌&&◌, and_assoc, and-true}
use mathlib.Core.List.{List, [], ◌∷◌, ◌++◌, append_assoc, append-nil}
use native.Mathlib.Omega.{arith}
use lib.ListN.{length, take, drop, replicate, length-append, length-replicate, replicate-append-replicate}
use lib.Seq.{take-append-add, drop-append-add, take_at, drop_at}
use Rattle.packet.specs.Cut.{AllWhole, joined}
use Rattle.carry.proofs.LoadLaws.{whole_long}
use Rattle.demands.specs.Route.{keep}
use Rattle.demands.proofs.MeetsThree.Events.{every, complete}

-- u went of the packet under way, and all of it came or not; r is left, and m says what comes from here on
abbrev pub due_of : Bool → List ℕ → List ℕ → List (List ℕ) → List Bool → List (List ℕ)
due_of ok u [] ps m = complete ps m
due_of ok u (x ∷ r) ps m = keep (ok && every (take (length (x ∷ r)) m)) (u ++ (x ∷ r)) (complete ps (drop (length (x ∷ r)) m))

due-under : (ok : Bool) (u r : List ℕ) (ps : List (List ℕ)) (m : List Bool) → 0 < length r
    → due_of ok u r ps m ≡ keep (ok && every (take (length r) m)) (u ++ r) (complete ps (drop (length r) m))
due-under ok u [] ps m h = absurd (omega arith)
due-under ok u (x ∷ r) ps m h = refl

-- ---- bytes that all came, or none of them

pub every_append : (n : ℕ) (b : Bool) (m : List Bool) → 0 < n → every (replicate n b ++ m) ≡ b && every m
every_append zero b m h = absurd (omega arith)
every_append (suc zero) b m h = refl
every_append (suc (suc n)) true m h = every_append (suc n) true m (omega arith)
every_append (suc (suc n)) false m h = refl

pub every-same : (n : ℕ) (b : Bool) → 0 < n → every (replicate n b) ≡ b
every-same n b h = ap every (sym (append-nil (replicate n b))) ∙ every_append n b [] h ∙ and-true b

pub take_on : (n k : ℕ) (b : Bool) (m : List Bool) → take (n + k) (replicate n b ++ m) ≡ replicate n b ++ take k m
take_on n k b m = ap (λ (j : ℕ). take (j + k) (replicate n b ++ m)) (sym (length-replicate n b)) ∙ take-append-add (replicate n b) m k

pub drop-on : (n k : ℕ) (b : Bool) (m : List Bool) → drop (n + k) (replicate n b ++ m) ≡ drop k m
drop-on n k b m = ap (λ (j : ℕ). drop (j + k) (replicate n b ++ m)) (sym (length-replicate n b)) ∙ drop-append-add (replicate n b) m k

pub replicate-on : (n k : ℕ) (b : Bool) (m : List Bool) → replicate (n + k) b ++ m ≡ replicate n b ++ (replicate k b ++ m)
replicate-on n k b m = ap (λ (l : List Bool). l ++ m) (sym (replicate-append-replicate n k b)) ∙ append_assoc (replicate n b) (replicate k b) m

-- ---- the packet under way

-- d goes of it
keep-on : (ok b : Bool) (u d r : List ℕ) (ps : List (List ℕ)) (m : List Bool) → 0 < length d
    → keep (ok && every (take (length (d ++ r)) (replicate (length d) b ++ m))) (u ++ (d ++ r)) (complete ps (drop (length (d ++ r)) (replicate (length d) b ++ m)))
    ≡ keep ((ok && b) && every (take (length r) m)) ((u ++ d) ++ r) (complete ps (drop (length r) m))
keep-on ok b u d r ps m h =
    rw (
      length-append d r,
      take_on (length d) (length r) b m,
      drop-on (length d) (length r) b m,
      every_append (length d) b (take (length r) m) h,
      and_assoc ok b (every (take (length r) m)),
      append_assoc u d r,
    )

pub due-on : (ok b : Bool) (u d r : List ℕ) (ps : List (List ℕ)) (m : List Bool) → 0 < length d → 0 < length r
    → due_of ok u (d ++ r) ps (replicate (length d) b ++ m) ≡ due_of (ok && b) (u ++ d) r ps m
due-on ok b u d r ps m h k =
    due-under ok u (d ++ r) ps (replicate (length d) b ++ m) (simp length-append (omega arith))
    ∙ keep-on ok b u d r ps m h
    ∙ sym (due-under (ok && b) (u ++ d) r ps m k)

-- the rest of it goes
pub due-end : (ok b : Bool) (u d : List ℕ) (ps : List (List ℕ)) (m : List Bool) → 0 < length d
    → due_of ok u d ps (replicate (length d) b ++ m) ≡ keep (ok && b) (u ++ d) (complete ps m)
due-end ok b u d ps m h =
    due-under ok u d ps (replicate (length d) b ++ m) h
    ∙ (rw (append-nil d, append-nil (u ++ d), and-true (ok && b)) at (keep-on ok b u d [] ps m h))

-- ---- whole packets

keep-cond : (b : Bool) (p : List ℕ) (qs l : List (List ℕ)) → keep b p (cond b qs [] ++ l) ≡ cond b (p ∷ qs) [] ++ l
keep-cond true p qs l = refl
keep-cond false p qs l = refl

pub due-whole : (b : Bool) (qs ps : List (List ℕ)) (m : List Bool) → AllWhole qs
    → complete (qs ++ ps) (replicate (length (joined qs)) b ++ m) ≡ cond b qs [] ++ complete ps m
unfolding joined
due-whole true [] ps m f = refl
due-whole false [] ps m f = refl
due-whole b (p ∷ qs) ps m f =
    let x : List Bool = replicate (length (joined qs)) b ++ m in
    let r : replicate (length (p ++ joined qs)) b ++ m ≡ replicate (length p) b ++ x =
    ap (λ (j : ℕ). replicate j b ++ m) (length-append p (joined qs)) ∙ replicate-on (length p) (length (joined qs)) b m in
    rw (
      r,
      take_at (replicate (length p) b) x (length p) (length-replicate (length p) b),
      drop_at (replicate (length p) b) x (length p) (length-replicate (length p) b),
      every-same (length p) b (omega (arith, whole_long p f.0)),
      due-whole b qs ps m f.1,
    )
    (keep-cond b p qs (complete ps m))

-- ---- what is due of the packet under way, if it ends here

abbrev pub last_of : Bool → List ℕ → List ℕ → List (List ℕ)
last_of ok u [] = []
last_of ok u (x ∷ r) = keep ok (u ++ (x ∷ r)) []

pub last_under : (ok : Bool) (u r : List ℕ) → 0 < length r → last_of ok u r ≡ keep ok (u ++ r) []
last_under ok u [] h = absurd (omega arith)
last_under ok u (x ∷ r) h = refl

pub last_none : (u r : List ℕ) → last_of false u r ≡ []
last_none u [] = refl
last_none u (x ∷ r) = refl

keep_append : (b : Bool) (p : List ℕ) (l : List (List ℕ)) → keep b p l ≡ keep b p [] ++ l
keep_append true p l = refl
keep_append false p l = refl

due-rest : (ok b : Bool) (u r : List ℕ) (ps : List (List ℕ)) (m : List Bool) → due_of ok u r ps (replicate (length r) b ++ m) ≡ last_of (ok && b) u r ++ complete ps m
due-rest ok b u [] ps m = refl
due-rest ok b u (x ∷ r) ps m = due-end ok b u (x ∷ r) ps m (omega arith) ∙ keep_append (ok && b) (u ++ (x ∷ r)) (complete ps m)

-- the rest of it goes, and whole packets behind it
pub due-even : (ok b : Bool) (u r : List ℕ) (qs ps : List (List ℕ)) (m : List Bool) → AllWhole qs
    → due_of ok u r (qs ++ ps) (replicate (length (r ++ joined qs)) b ++ m) ≡ last_of (ok && b) u r ++ (cond b qs [] ++ complete ps m)
due-even ok b u r qs ps m f =
    rw (length-append r (joined qs), replicate-on (length r) (length (joined qs)) b m)
    (due-rest ok b u r (qs ++ ps) (replicate (length (joined qs)) b ++ m) ∙ ap (λ (l : List (List ℕ)). last_of (ok && b) u r ++ l) (due-whole b qs ps m f))

-- and the first bytes of one more
pub due-split : (ok b : Bool) (u r : List ℕ) (qs : List (List ℕ)) (v s : List ℕ) (ps : List (List ℕ)) (m : List Bool) → AllWhole qs → 0 < length v → 0 < length s
    → due_of ok u r (qs ++ ((v ++ s) ∷ ps)) (replicate (length (r ++ (joined qs ++ v))) b ++ m) ≡ last_of (ok && b) u r ++ (cond b qs [] ++ due_of b v s ps m)
due-split ok b u r qs v s ps m f h k =
    let e : length (r ++ (joined qs ++ v)) ≡ length (r ++ joined qs) + length v = simp length-append (omega arith) in
    let g : complete ((v ++ s) ∷ ps) (replicate (length v) b ++ m) ≡ due_of b v s ps m = keep-on true b [] v s ps m h ∙ sym (due-under b v s ps m k) in
    rw (e, replicate-on (length (r ++ joined qs)) (length v) b m)
    (due-even ok b u r qs ((v ++ s) ∷ ps) (replicate (length v) b ++ m) f ∙ ap (λ (l : List (List ℕ)). last_of (ok && b) u r ++ (cond b qs [] ++ l)) g)
