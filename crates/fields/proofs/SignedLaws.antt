-- Two's complement: the bits and the number that they stand for undo each other, over any width.
-- Assumes nothing.
use mathlib.Core.Path.{◌≡◌, sym, ap, ◌∙◌}
use mathlib.Core.Bool.{false}
use Prim.Native.Nat.{ℕ, zero, suc, ◌-◌, ◌*◌, ◌^◌, ◌≤◌, ◌<◌}
use native.Mathlib.Nat.{pow-suc}
use native.Mathlib.Omega.{arith}
use lib.Dec.{ltb}
use lib.IntN.{ℤ, pos, negsuc}
use borrow.Author.Tests.{lt-ltb, le-ltb, ltb-true, ltb-false, lt-leb, leb-false}
use Rattle.fields.proofs.Cases.{cases}
use Rattle.fields.specs.Signed.{signed, unsigned, InSigned, beyond_signed}

-- the top bit is half of all
half : (w : ℕ) → 0 < w → 2 ^ (w - 1) * 2 ≡ 2 ^ w
half zero h = omega arith
half (suc w) h = ap (λ (k : ℕ). 2 ^ k * 2) (less w) ∙ sym (pow-suc 2 w)
  where
    less : (k : ℕ) → suc k - 1 ≡ k
    less k = omega arith

pub signed-pos : (w n : ℕ) → n < 2 ^ (w - 1) → signed w n ≡ pos n
unfolding signed
signed-pos w n h = simp (lt-ltb _ _ h)

pub signed-neg : (w n : ℕ) → 2 ^ (w - 1) ≤ n → signed w n ≡ negsuc (2 ^ w - suc n)
unfolding signed
signed-neg w n h = simp (le-ltb _ _ h)

pub unsigned_signed : (w n : ℕ) → n < 2 ^ w → unsigned w (signed w n) ≡ n
unfolding unsigned
unsigned_signed w n h =
    cases (ltb n (2 ^ (w - 1)))
    (λ t. ap (unsigned w) (signed-pos w n (ltb-true _ _ t)))
    (λ t. ap (unsigned w) (signed-neg w n (ltb-false _ _ t)) ∙ back (2 ^ w) h)
  where
    back : (m : ℕ) → n < m → m - suc (m - suc n) ≡ n
    back m k = omega arith

pub signed-in : (w n : ℕ) → 0 < w → n < 2 ^ w → InSigned w (signed w n)
signed-in w n v h =
    cases (ltb n (2 ^ (w - 1)))
    (λ t. rw (signed-pos w n (ltb-true _ _ t)) (ltb-true _ _ t))
    (λ t. rw (signed-neg w n (ltb-false _ _ t)) (omega (arith, half w v, ltb-false n (2 ^ (w - 1)) t)))

-- the test of the range
pub in-signed : (w : ℕ) (z : ℤ) → beyond_signed w z ≡ false → InSigned w z
in-signed w (pos n) h = leb-false _ _ h
in-signed w (negsuc k) h = leb-false _ _ h

pub not_beyond : (w : ℕ) (z : ℤ) → InSigned w z → beyond_signed w z ≡ false
not_beyond w (pos n) h = lt-leb _ _ h
not_beyond w (negsuc k) h = lt-leb _ _ h

pub unsigned-lt : (w : ℕ) (z : ℤ) → 0 < w → InSigned w z → unsigned w z < 2 ^ w
unfolding unsigned
unsigned-lt w (pos n) v h = omega (arith, half w v)
unsigned-lt w (negsuc k) v h = omega (arith, half w v)

pub signed-unsigned : (w : ℕ) (z : ℤ) → 0 < w → InSigned w z → signed w (unsigned w z) ≡ z
unfolding unsigned
signed-unsigned w (pos n) v h = signed-pos w n h
signed-unsigned w (negsuc k) v h =
    signed-neg w (2 ^ w - suc k) (omega (arith, half w v)) ∙ ap negsuc (omega (arith, half w v))
