-- Sums without carries can be regrouped and moved up by k places, and only equal numbers have the sum zero. Regrouping
-- holds because it holds of single digits, which `bit_xor` goes through one by one; the rest follows.
-- Assumes nothing.
use mathlib.Core.Path.{◌≡◌, refl, sym, ap, ◌∙◌}
use Prim.Native.Nat.{ℕ, zero, suc, ◌*◌, ◌/◌, ◌%◌, ◌^◌, ◌<◌}
use native.Mathlib.Nat.{add-zero}
use native.Mathlib.Omega.{arith}
use lib.Arith.{bin_ind}
use lib.Bits.{bit_xor, xor_shr, xor_mod, xor_block, xor_comm, xor_self, xor_zero_r}
use lib.Pow.{pow_pos}

digits-assoc : (x y z : ℕ) → x < 2 → y < 2 → z < 2 → bit_xor (bit_xor x y) z ≡ bit_xor x (bit_xor y z)
digits-assoc zero y z hx hy hz = refl
digits-assoc (suc zero) zero z hx hy hz = refl
digits-assoc (suc zero) (suc zero) zero hx hy hz = refl
digits-assoc (suc zero) (suc zero) (suc zero) hx hy hz = refl
digits-assoc (suc zero) (suc zero) (suc (suc z)) hx hy hz = omega arith
digits-assoc (suc zero) (suc (suc y)) z hx hy hz = omega arith
digits-assoc (suc (suc x)) y z hx hy hz = omega arith

-- numbers with the same half and the same last digit
same : (a b : ℕ) → a / 2 ≡ b / 2 → a % 2 ≡ b % 2 → a ≡ b
same a b h l = omega arith

pub xor_assoc : (a b c : ℕ) → bit_xor (bit_xor a b) c ≡ bit_xor a (bit_xor b c)
xor_assoc =
    bin_ind (λ (a : ℕ). (b c : ℕ) → bit_xor (bit_xor a b) c ≡ bit_xor a (bit_xor b c)) (λ b c. refl)
    (λ a ih b c. same (bit_xor (bit_xor a b) c) (bit_xor a (bit_xor b c))
    (rw (xor_shr (bit_xor a b) c 1, xor_shr a b 1, xor_shr a (bit_xor b c) 1, xor_shr b c 1) (ih (b / 2) (c / 2)))
    (rw (xor_mod (bit_xor a b) c 1, xor_mod a b 1, xor_mod a (bit_xor b c) 1, xor_mod b c 1)
    (digits-assoc (a % 2) (b % 2) (c % 2) (omega arith) (omega arith) (omega arith))))

pub xor-swap : (a b c d : ℕ) → bit_xor (bit_xor a b) (bit_xor c d) ≡ bit_xor (bit_xor a c) (bit_xor b d)
xor-swap a b c d = rw (xor_assoc a b (bit_xor c d), ← xor_assoc b c d, xor_comm b c, xor_assoc c b d, ← xor_assoc a c (bit_xor b d))

pub xor-shl : (a b k : ℕ) → bit_xor (a * 2 ^ k) (b * 2 ^ k) ≡ bit_xor a b * 2 ^ k
xor-shl a b k = simp add-zero at (xor_block k a b 0 0 (pow_pos k) (pow_pos k))

pub xor-zero : (a b : ℕ) → bit_xor a b ≡ 0 → a ≡ b
xor-zero a b h =
    sym (xor_zero_r a) ∙ ap (bit_xor a) (sym (xor_self b)) ∙ sym (xor_assoc a b b) ∙ ap (λ (x : ℕ). bit_xor x b) h
