-- A test of numbers over a stretch of them: computed once by the checker, and then a rule for each number of the stretch.
-- Assumes nothing.
use mathlib.Core.Path.{◌≡◌, refl}
use mathlib.Core.Bool.{Bool, true, false, not}
use Prim.Native.Nat.{ℕ, zero, suc, ◌+◌, ◌≤◌, ◌<◌}
use native.Mathlib.Omega.{arith}
use lib.Dec.{T, eqb}
use borrow.Author.Tests.{eqb-true, eqb-false}
use Rattle.fields.proofs.Cases.{cases, both, both_left, both_right}

abbrev same : Bool → Bool → Bool
same true b = b
same false b = not b

same-is : (a b : Bool) → T (same a b) → a ≡ b
same-is true true t = refl
same-is true false t = absurd t
same-is false true t = absurd t
same-is false false t = refl

-- the test gives x at each of the k numbers from `from` on
unfoldable pub all_are : (ℕ → Bool) → Bool → ℕ → ℕ → Bool
all_are f x from zero = true
all_are f x from (suc k) = both (same (f from) x) (all_are f x (suc from) k)

pub over-stretch : (f : ℕ → Bool) (x : Bool) (from k : ℕ) → T (all_are f x from k) → (n : ℕ) → from ≤ n → n < from + k → f n ≡ x
unfolding all_are
over-stretch f x from zero t n h g = absurd (empty from n h g)
  where
    empty : (a b : ℕ) → a ≤ b → b < a + 0 → ⊥
    empty a b p q = omega arith
over-stretch f x from (suc k) t n h g =
    cases (eqb from n)
    (λ e. let p : from ≡ n = eqb-true from n e in
    rw (← p) (same-is (f from) x (both_left (same (f from) x) (all_are f x (suc from) k) t)))
    (λ e. over-stretch f x (suc from) k (both_right (same (f from) x) (all_are f x (suc from) k) t) n
    (next from n h (eqb-false from n e)) (last from k n g))
  where
    next : (a b : ℕ) → a ≤ b → (a ≡ b → ⊥) → suc a ≤ b
    next a b p q = omega arith

    last : (a j b : ℕ) → b < a + suc j → b < suc a + j
    last a j b p = omega arith
