-- What k bits do at the input, they do as well added to the k top stages, with zero bits at the input: the key law, over
-- any k up to 32, and what follows from it. It holds of one bit by the definition, and of more because a shift is linear.
-- Assumes nothing.
use mathlib.Core.Path.{◌≡◌, sym, ◌∙◌}
use Prim.Native.Nat.{ℕ, zero, suc, ◌+◌, ◌*◌, ◌/◌, ◌%◌, ◌^◌, ◌<◌}
use native.Mathlib.Nat.{mod-lt, mod-one, mod-eq_of_lt, zero-mul, add-mul, mul-one, mul_assoc, mul_comm, mul-mod_left, pow-suc, suc-add, add-suc, add-zero, add_comm, lt_of_lt_of_le}
use native.Mathlib.Numerals.{one-add}
use native.Mathlib.Omega.{arith}
use lib.Dec.{lit<}
use lib.Pow.{pow_pos, pow-add, pow_mono, split, shl_lt, shl-shr, shr_lt, mod-pow-add}
use lib.Bits.{bit_xor, xor_block, xor_lt, xor_self, xor_shifted, xor_zero_r}
use Rattle.crc.specs.Crc.{shift, bit_at, feed}
use Rattle.crc.specs.Tables.{zeros}
use Rattle.crc.proofs.XorLaws.{xor_assoc, xor-zero}
use Rattle.crc.proofs.ShiftLaws.{shift-lt, shift-xor, shift-low, shift_top, shift_zero}
use Rattle.crc.proofs.FeedLaws.{bit-lt, feed-xor, zeros-suc}

-- ---- k bits at the top leave j stages below: in each step a bit goes and a stage comes

next-width : (k j : ℕ) → suc k + j ≡ 32 → k + suc j ≡ 32
next-width k j e = add-suc k j ∙ sym (suc-add k j) ∙ e

-- bits above j stages are the top one and the others, added
top_bit : (k j m : ℕ) → k + j ≡ 31 → m % 2 ^ suc k * 2 ^ j ≡ bit_xor (bit_at k m * 2 ^ 31) (m % 2 ^ k * 2 ^ j)
unfolding bit_at
top_bit k j m e =
    let b : ℕ = m / 2 ^ k % 2 in
    let rest : m % 2 ^ k * 2 ^ j < 2 ^ 31 = rw e at (shl_lt k j (mod-lt m (pow_pos k))) in
    rw (← one-add k, mod-pow-add m 1 k, add-mul (b * 2 ^ k) (m % 2 ^ k) (2 ^ j), mul_assoc b (2 ^ k) (2 ^ j), ← pow-add 2 k j, e)
    (sym (xor_shifted b 31 (m % 2 ^ k * 2 ^ j) rest))

-- ---- the key law

pub feed-top-low : (k j r m : ℕ) → k + j ≡ 32 → r < 2 ^ 32 → feed k r m ≡ zeros k (bit_xor r (m % 2 ^ k * 2 ^ j))
unfolding feed
feed-top-low zero j r m e hr = rw (mod-one m, zero-mul (2 ^ j), xor_zero_r r)
feed-top-low (suc k) j r m e hr =
    let b : ℕ = bit_at k m in
    let rest : ℕ = m % 2 ^ k * 2 ^ j in
    let added : ℕ = bit_xor r (b * 2 ^ 31) in
    let width : k + j ≡ 31 = omega (arith, suc-add k j) in
    let hb : b < 2 = bit-lt k m in
    let hrest : rest < 2 ^ 31 = rw width at (shl_lt k j (mod-lt m (pow_pos k))) in
    let hadded : added < 2 ^ 32 = xor_lt 32 r (b * 2 ^ 31) hr (omega arith) in
    let moves : m % 2 ^ k * 2 ^ suc j ≡ shift rest 0 = rw (shift-low rest hrest, pow-suc 2 j) (sym (mul_assoc (m % 2 ^ k) (2 ^ j) 2)) in
    feed-top-low k (suc j) (shift r b) m (next-width k j e) (shift-lt r b hr hb)
    ∙ rw (moves, shift_top r b, ← shift-xor added rest 0 0 hadded (omega arith) (lit< tt) (lit< tt), xor_assoc r (b * 2 ^ 31) rest, ← top_bit k j m width)
    (sym (zeros-suc k (bit_xor r (m % 2 ^ suc k * 2 ^ j))))

pub feed-top : (k j r m : ℕ) → k + j ≡ 32 → r < 2 ^ 32 → m < 2 ^ k → feed k r m ≡ zeros k (bit_xor r (m * 2 ^ j))
feed-top k j r m e hr hm = rw (mod-eq_of_lt hm) at (feed-top-low k j r m e hr)

-- ---- while zeros leave the top, the stages move up and nothing is fed back

pub zeros-low : (k j r : ℕ) → k + j ≡ 32 → r < 2 ^ j → zeros k r ≡ r * 2 ^ k
unfolding feed
zeros-low zero j r e h = sym (mul-one r)
zeros-low (suc k) j r e h =
    let low : r < 2 ^ 31 = lt_of_lt_of_le h (pow_mono {i = j} {j = 31} (omega (arith, suc-add k j))) in
    let more : r * 2 < 2 ^ suc j = rw (pow-suc 2 j) (omega arith) in
    rw (zeros-suc k r, shift-low r low, zeros-low k (suc j) (r * 2) (next-width k j e) more, pow-suc 2 k, mul_comm (2 ^ k) 2)
    (mul_assoc r 2 (2 ^ k))

-- ---- what the k top stages and the bits give is a matter of their sum alone, and the other stages move up: so a table
-- of 2 ^ k entries can give it

-- of a register that moves up by k, the j lowest stages are left
left_over : (k j r : ℕ) → k + j ≡ 32 → r * 2 ^ k % 2 ^ 32 ≡ r % 2 ^ j * 2 ^ k
left_over k j r e =
    rw (add_comm j k ∙ e, shl-shr r k, mul-mod_left r (2 ^ k), add-zero (r % 2 ^ j * 2 ^ k)) at (mod-pow-add (r * 2 ^ k) j k)

pub feed-looked-up : (k j r m : ℕ) → k + j ≡ 32 → r < 2 ^ 32 → m < 2 ^ k
    → feed k r m ≡ bit_xor (zeros k (bit_xor (r / 2 ^ j) m * 2 ^ j)) (r * 2 ^ k % 2 ^ 32)
feed-looked-up k j r m e hr hm =
    let hi : ℕ = bit_xor (r / 2 ^ j) m in
    let lo : ℕ = r % 2 ^ j in
    let hlo : lo < 2 ^ j = mod-lt r (pow_pos j) in
    let hhi : hi < 2 ^ k = xor_lt k (r / 2 ^ j) m (shr_lt k j (rw e hr)) hm in
    let blocks : bit_xor (r / 2 ^ j * 2 ^ j + lo) (m * 2 ^ j + 0) ≡ hi * 2 ^ j + bit_xor lo 0 = xor_block j (r / 2 ^ j) m lo 0 hlo (pow_pos j) in
    let whole : bit_xor r (m * 2 ^ j) ≡ hi * 2 ^ j + lo = rw (split r j, add-zero (m * 2 ^ j), xor_zero_r lo) at blocks in
    feed-top k j r m e hr hm
    ∙ rw (whole, ← xor_shifted hi j lo hlo, left_over k j r e, ← zeros-low k j lo e hlo)
    (feed-xor k (hi * 2 ^ j) lo 0 0 (rw e at (shl_lt k j hhi)) (lt_of_lt_of_le hlo (pow_mono {i = j} {j = 32} (omega arith))))

-- ---- feeding can be undone

pub zeros-zero : (k r : ℕ) → r < 2 ^ 32 → zeros k r ≡ 0 → r ≡ 0
unfolding feed
zeros-zero zero r h e = e
zeros-zero (suc k) r h e = shift_zero r h (zeros-zero k (shift r 0) (shift-lt r 0 h (lit< tt)) (sym (zeros-suc k r) ∙ e))

pub feed-injective : (k a b m : ℕ) → a < 2 ^ 32 → b < 2 ^ 32 → feed k a m ≡ feed k b m → a ≡ b
feed-injective k a b m ha hb e =
    xor-zero a b (zeros-zero k (bit_xor a b) (xor_lt 32 a b ha hb)
    (rw (xor_self m, e, xor_self (feed k b m)) at (feed-xor k a b m m ha hb)))
