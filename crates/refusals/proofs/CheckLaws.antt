-- The laws of `first`: for a function that is a chain of early returns, for its caller, and for a reader of the statement.
-- Assumes nothing.
use mathlib.Core.Path.{◌≡◌, refl, sym}
use mathlib.Core.Bool.{true, false, not}
use mathlib.Core.List.{List, [], ◌∷◌, ◌++◌}
use Prim.Native.Nat.{ℕ, zero, suc}
use native.Mathlib.Nat.{suc-ne-zero}
use lib.Dec.{eqb}
use lib.ListN.{length}
use borrow.Author.Tests.{eqb-true, eqb-false, not-true, not-false}
use Rattle.fields.proofs.Cases.{cases, true≢false}
use Rattle.refusals.specs.Checks.{Check, ◌when◌, found, holds, number, first}
pub use Rattle.refusals.specs.Exactly.{holds_at, number_at, Clear, NoneHolds, GivenAt, Exactly}

head : (k : ℕ) (c : Check) (l : List Check) → Clear (suc k) (c ∷ l) → holds c ≡ false
head zero c l h = h.1
head (suc k) c l h = head k c l h.0

tail : (k : ℕ) (c : Check) (l : List Check) → Clear (suc k) (c ∷ l) → Clear k l
tail zero c l h = tt
tail (suc k) c l h = (tail k c l h.0, h.1)

more : (k : ℕ) (c : Check) (l : List Check) → holds c ≡ false → Clear k l → Clear (suc k) (c ∷ l)
more zero c l b h = (tt, b)
more (suc k) c l b h = (more k c l b h.0, h.1)

-- ---- for a chain of early returns

-- a return: no check before this one holds, and this one does
pub first-at : (k : ℕ) (l : List Check) → Clear k l → holds_at k l ≡ true → number_at k l ≡ first l
first-at k [] c h = refl
first-at zero (x ∷ l) c h = rw h
first-at (suc k) (x ∷ l) c h = rw (head k x l c) (first-at k l (tail k x l c) h)

-- the last return
pub first-none : (l : List Check) → Clear (length l) l → 0 ≡ first l
first-none [] c = refl
first-none (x ∷ l) c = rw (head (length l) x l c) (first-none l (tail (length l) x l c))

-- the last return where what another operation found stands last
pub found-last : (n : ℕ) → first (found n ∷ []) ≡ n
found-last n = cases (eqb n 0) (λ t. rw t (sym (eqb-true n 0 t))) (λ t. rw t)

-- ---- for the caller: where the answer is 0, no line holds, one by one

-- no number that stands in the list is 0
abbrev pub Numbered : List Check → Type 0
Numbered [] = Unit
Numbered ((zero when b) ∷ l) = ⊥
Numbered ((suc n when b) ∷ l) = Numbered l
Numbered (found n ∷ l) = Numbered l

numbered : (c : Check) (l : List Check) → Numbered (c ∷ l) → (holds c ≡ true → number c ≡ 0 → ⊥) × Numbered l
numbered (zero when b) l p = absurd p
numbered (suc n when b) l p = (λ h. suc-ne-zero n, p)
numbered (found n) l p = (λ h. eqb-false n 0 (not-true _ h), p)

pub none-holds : (l : List Check) → Numbered l → first l ≡ 0 → NoneHolds l
none-holds [] p h = tt
none-holds (c ∷ l) p h =
    let q = numbered c l p in
    cases (holds c) (λ t. absurd (q.0 t (rw t at h))) (λ t. (t, none-holds l q.1 (rw t at h)))

-- what another operation did not find
pub not_found : (n : ℕ) → not (eqb n 0) ≡ false → n ≡ 0
not_found n h = eqb-true n 0 (not-false _ h)

pub first-zero : (l : List Check) → NoneHolds l → first l ≡ 0
first-zero [] h = refl
first-zero (c ∷ l) h = rw h.0 (first-zero l h.1)

-- ---- one list of checks behind another

pub first-front : (l m : List Check) → (first l ≡ 0 → ⊥) → first (l ++ m) ≡ first l
first-front [] m h = absurd (h refl)
first-front (c ∷ l) m h = cases (holds c) (λ t. rw t) (λ t. rw t (first-front l m (rw t at h)))

pub none-front : (l m : List Check) → NoneHolds (l ++ m) → NoneHolds l
none-front [] m h = tt
none-front (c ∷ l) m h = (h.0, none-front l m h.1)

pub first-behind : (l m : List Check) → NoneHolds l → first (l ++ m) ≡ first m
first-behind [] m h = refl
first-behind (c ∷ l) m h = rw h.0 (first-behind l m h.1)

-- ---- for the reader of a statement

given-first : (l : List Check) → (first l ≡ 0 → ⊥) → (k : ℕ) × GivenAt k l × (number_at k l ≡ first l)
given-first [] h = absurd (h refl)
given-first (c ∷ l) h =
    cases (holds c)
    (λ t. (0, record { earlier = tt; line = t }, rw t))
    (λ t. let r = given-first l (λ z. h (rw t z)) in
    (suc r.0, record { earlier = more r.0 c l t r.1.earlier; line = r.1.line }, rw t r.2))

number-stands : (k : ℕ) (l : List Check) → Numbered l → holds_at k l ≡ true → number_at k l ≡ 0 → ⊥
number-stands zero [] p h = absurd (true≢false (sym h))
number-stands (suc k) [] p h = absurd (true≢false (sym h))
number-stands zero (c ∷ l) p h = (numbered c l p).0 h
number-stands (suc k) (c ∷ l) p h = number-stands k l (numbered c l p).1 h

pub given-exactly : (l : List Check) → Numbered l → Exactly l
given-exactly l p =
    record {
      given = given-first l;
      told = λ k g. (sym (first-at k l g.earlier g.line), number-stands k l p g.line);
      none = none-holds l p;
    }
