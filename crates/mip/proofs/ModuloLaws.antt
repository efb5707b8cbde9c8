-- The remainder of a sum that may be negative, over any modulus: it is below the modulus, and it is the library's.
-- Assumes nothing.
use mathlib.Core.Path.{◌≡◌, refl, sym, ap, ◌∙◌}
use Prim.Native.Nat.{ℕ, zero, suc, ◌+◌, ◌-◌, ◌*◌, ◌/◌, ◌%◌, ◌≤◌, ◌<◌, zero-le}
use native.Mathlib.Nat.{mod-lt, mod-eq_of_lt, mod-eq-sub-mod, add-mod_right, mod-add-div', div-le_self, zero-mul, suc-mul}
use native.Mathlib.Omega.{arith}
use lib.Dec.{ltb}
use lib.IntN.{ℤ, pos, negsuc, neg_ℤ, sub_ℕ, ◌+ℤ◌, ◌-ℤ◌, +ℤ_assoc, +ℤ_comm, +ℤ_idr}
use lib.Signed.{mag, quot_z}
use borrow.Author.Tests.{ltb-true, ltb-false, le-ltb}
use Rattle.std.specs.Int.{int_rem_euclid}
use Rattle.fields.proofs.Cases.{cases}
use Rattle.mip.specs.Timing.{modulo}

pub modulo_lt : (z : ℤ) (m : ℕ) → 0 < m → modulo z m < m
unfolding modulo
modulo_lt (pos n) m h = mod-lt n h
modulo_lt (negsuc k) m h = omega arith

-- ---- a difference of natural numbers

sub-below : (a b : ℕ) → b ≤ a → sub_ℕ a b ≡ pos (a - b)
sub-below a b h = rw (le-ltb a b h)

-- ---- how large a sum is, and a quotient; no proof cites these

pub mag-add : (n : ℕ) (z : ℤ) → mag (pos n +ℤ z) ≤ n + mag z
mag-add n (pos k) = omega arith
mag-add n (negsuc k) =
    cases (ltb n (suc k))
    (λ t. rw t (omega arith))
    (λ t. rw t (omega arith))

pub mag-sub : (n k : ℕ) → mag (pos n -ℤ pos k) ≤ n + k
mag-sub n zero = omega arith
mag-sub n (suc k) = omega (arith, mag-add n (negsuc k))

-- a quotient is no larger than what is divided
pub mag-quotient : (z : ℤ) (m : ℕ) → mag (quot_z z (pos m)) ≤ mag z
mag-quotient (pos n) m = div-le_self n m
mag-quotient (negsuc k) m = negated (suc k / m) (div-le_self (suc k) m)
  where
    negated : (r : ℕ) → r ≤ suc k → mag (neg_ℤ (pos r)) ≤ k
    negated zero h = zero-le
    negated (suc r) h = omega arith

-- ---- the library's remainder, which is never negative, is the definition's

pub euclid_modulo : (z : ℤ) (m : ℕ) → int_rem_euclid z (pos m) ≡ pos (modulo z m)
unfolding modulo
euclid_modulo (pos n) m = refl
euclid_modulo (negsuc k) m = ap pos (less (k % m))
  where
    less : (r : ℕ) → m - 1 - r ≡ m - suc r
    less r = omega arith

-- A theorem: below the modulus it is the number itself
pub modulo-small : (n m : ℕ) → n < m → modulo (pos n) m ≡ n
unfolding modulo
modulo-small n m h = mod-eq_of_lt h

pub modulo-add : (z : ℤ) (m : ℕ) → 0 < m → modulo (z +ℤ pos m) m ≡ modulo z m
unfolding modulo
modulo-add (pos n) m h = add-mod_right n m
modulo-add (negsuc k) m h =
    cases (ltb m (suc k))
    (λ t. rw t (ap (λ (x : ℕ). m - suc x) (back (ltb-true _ _ t))))
    (λ t. let l : k < m = ltb-false _ _ t in rw (t, mod-eq_of_lt l) (mod-eq_of_lt (omega arith)))
  where
    back : m < suc k → (suc k - suc m) % m ≡ k % m
    back l = let e : suc k - suc m ≡ k - m = omega arith in ap (λ (x : ℕ). x % m) e ∙ sym (mod-eq-sub-mod (omega arith))

-- nor do several
pub modulo-adds : (q : ℕ) (z : ℤ) (m : ℕ) → 0 < m → modulo (z +ℤ pos (q * m)) m ≡ modulo z m
modulo-adds zero z m h = ap (λ (n : ℕ). modulo (z +ℤ pos n) m) (zero-mul m) ∙ ap (λ (y : ℤ). modulo y m) (+ℤ_idr z)
modulo-adds (suc q) z m h =
    ap (λ (n : ℕ). modulo (z +ℤ pos n) m) (suc-mul q m)
    ∙ ap (λ (y : ℤ). modulo y m) (sym (+ℤ_assoc z (pos (q * m)) (pos m)))
    ∙ modulo-add (z +ℤ pos (q * m)) m h
    ∙ modulo-adds q z m h

-- a number is its remainder and so many moduli more, or less
whole_above : (n m : ℕ) → pos (modulo (pos n) m) +ℤ pos (n / m * m) ≡ pos n
unfolding modulo
whole_above n m = ap pos (mod-add-div' n m)

whole_below : (k m : ℕ) → 0 < m → negsuc k +ℤ pos (suc (k / m) * m) ≡ pos (modulo (negsuc k) m)
unfolding modulo
whole_below k m h =
    ap (λ (n : ℕ). negsuc k +ℤ pos n) (suc-mul (k / m) m)
    ∙ sub-below (k / m * m + m) (suc k) (omega (arith, mod-add-div' k m, mod-lt k h))
    ∙ ap pos (less (k / m * m) (k % m) (mod-add-div' k m))
  where
    less : (x y : ℕ) → y + x ≡ k → x + m - suc k ≡ m - suc y
    less x y e = omega arith

-- the last two of three summands change places
swap : (a b c : ℤ) → a +ℤ b +ℤ c ≡ a +ℤ c +ℤ b
swap a b c = +ℤ_assoc a b c ∙ ap (λ (y : ℤ). a +ℤ y) (+ℤ_comm b c) ∙ sym (+ℤ_assoc a c b)

-- in a sum, a remainder serves as what it is the remainder of
pub modulo-modulo : (a b : ℤ) (m : ℕ) → 0 < m → modulo (pos (modulo a m) +ℤ b) m ≡ modulo (a +ℤ b) m
modulo-modulo (pos n) b m h =
    sym (modulo-adds (n / m) (pos (modulo (pos n) m) +ℤ b) m h)
    ∙ ap (λ (y : ℤ). modulo y m) (swap (pos (modulo (pos n) m)) b (pos (n / m * m)) ∙ ap (λ (y : ℤ). y +ℤ b) (whole_above n m))
modulo-modulo (negsuc k) b m h =
    ap (λ (y : ℤ). modulo y m) (ap (λ (y : ℤ). y +ℤ b) (sym (whole_below k m h)) ∙ swap (negsuc k) (pos (suc (k / m) * m)) b)
    ∙ modulo-adds (suc (k / m)) (negsuc k +ℤ b) m h
