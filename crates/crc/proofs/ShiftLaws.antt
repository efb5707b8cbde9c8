-- One clock keeps the register below 2 ^ 32, is linear, and can be undone. It is linear because each stage is loaded with
-- a sum of stages; it can be undone because the lowest stage is tapped, and so shows what left the top.
-- Assumes nothing.
use mathlib.Core.Path.{◌≡◌, sym, ◌∙◌}
use Prim.Native.Nat.{ℕ, zero, suc, ◌*◌, ◌/◌, ◌%◌, ◌^◌, ◌<◌}
use native.Mathlib.Nat.{mod-lt, zero-mul, div-eq_of_lt, mod-eq_of_lt}
use native.Mathlib.Omega.{arith}
use lib.Dec.{ltb}
use lib.Pow.{pow_pos, shl-shr}
use lib.Bits.{bit_xor, xor_shr, xor_mod, xor_lt, xor_zero_r, xor_self}
use borrow.Author.Tests.{ltb-true, ltb-false}
use Rattle.fields.proofs.Cases.{cases}
use Rattle.crc.specs.Crc.{taps, shift}
use Rattle.crc.proofs.XorLaws.{xor-swap, xor-shl, xor-zero}

-- ---- the parts of a shift

-- what is fed back is all the taps or nothing, and adds up
fed-back : (n x y : ℕ) → x < 2 → y < 2 → bit_xor x y * n ≡ bit_xor (x * n) (y * n)
fed-back n zero y hx hy = rw (zero-mul n)
fed-back n (suc zero) zero hx hy = rw (zero-mul n) (sym (xor_zero_r (1 * n)))
fed-back n (suc zero) (suc zero) hx hy = zero-mul n ∙ sym (xor_self (1 * n))
fed-back n (suc zero) (suc (suc y)) hx hy = omega arith
fed-back n (suc (suc x)) y hx hy = omega arith

moved-xor : (a b : ℕ) → bit_xor a b * 2 % 2 ^ 32 ≡ bit_xor (a * 2 % 2 ^ 32) (b * 2 % 2 ^ 32)
moved-xor a b = rw (← xor-shl a b 1) (xor_mod (a * 2) (b * 2) 32)

leaves : (r bit : ℕ) → r < 2 ^ 32 → bit < 2 → bit_xor (r / 2 ^ 31) bit < 2
leaves r bit hr hb = xor_lt 1 (r / 2 ^ 31) bit (omega arith) hb

pub shift-lt : (r bit : ℕ) → r < 2 ^ 32 → bit < 2 → shift r bit < 2 ^ 32
unfolding shift
shift-lt r bit hr hb =
    let top : bit_xor (r / 2 ^ 31) bit < 2 = leaves r bit hr hb in
    xor_lt 32 (bit_xor (r / 2 ^ 31) bit * taps) (r * 2 % 2 ^ 32) (omega arith) (mod-lt (r * 2) (pow_pos 32))

pub shift-xor : (a b p q : ℕ) → a < 2 ^ 32 → b < 2 ^ 32 → p < 2 → q < 2
    → shift (bit_xor a b) (bit_xor p q) ≡ bit_xor (shift a p) (shift b q)
unfolding shift
shift-xor a b p q ha hb hp hq =
    let x : ℕ = bit_xor (a / 2 ^ 31) p in
    let y : ℕ = bit_xor (b / 2 ^ 31) q in
    rw (xor_shr a b 31, xor-swap (a / 2 ^ 31) (b / 2 ^ 31) p q, fed-back taps x y (leaves a p ha hp) (leaves b q hb hq), moved-xor a b)
    (xor-swap (x * taps) (y * taps) (a * 2 % 2 ^ 32) (b * 2 % 2 ^ 32))

-- ---- the top stage

-- with a zero in the top stage nothing is fed back
pub shift-low : (r : ℕ) → r < 2 ^ 31 → shift r 0 ≡ r * 2
unfolding shift
shift-low r h = rw (div-eq_of_lt h, mod-eq_of_lt {n = r * 2} {m = 2 ^ 32} (omega arith))

-- a bit at the input might as well have been added to the top stage
pub shift_top : (r bit : ℕ) → shift r bit ≡ shift (bit_xor r (bit * 2 ^ 31)) 0
unfolding shift
shift_top r bit =
    let gone : bit * 2 ^ 31 * 2 % 2 ^ 32 ≡ 0 = omega arith in
    rw (xor_shr r (bit * 2 ^ 31) 31, shl-shr bit 31, xor_zero_r (bit_xor (r / 2 ^ 31) bit), moved-xor r (bit * 2 ^ 31), gone, xor_zero_r (r * 2 % 2 ^ 32))

-- ---- a shift can be undone

-- only an empty register leaves an empty one
pub shift_zero : (r : ℕ) → r < 2 ^ 32 → shift r 0 ≡ 0 → r ≡ 0
unfolding shift
shift_zero r h e =
    cases (ltb r (2 ^ 31))
    (λ t. let low : r < 2 ^ 31 = ltb-true _ _ t in omega (arith, shift-low r low))
    (λ t. let one : r / 2 ^ 31 ≡ 1 = omega (arith, ltb-false r (2 ^ 31) t) in
    let odd : taps ≡ r * 2 % 2 ^ 32 = xor-zero taps (r * 2 % 2 ^ 32) (rw one at e) in
    omega arith)

-- A theorem: nor do two registers leave the same
pub shift-injective : (a b bit : ℕ) → a < 2 ^ 32 → b < 2 ^ 32 → bit < 2 → shift a bit ≡ shift b bit → a ≡ b
shift-injective a b bit ha hb hbit e =
    xor-zero a b (shift_zero (bit_xor a b) (xor_lt 32 a b ha hb)
    (rw (xor_self bit, e, xor_self (shift b bit)) at (shift-xor a b bit bit ha hb hbit hbit)))
