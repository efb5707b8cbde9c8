-- Feeding any number of bits keeps the register below 2 ^ 32, is linear, and can be done in two goes. Each holds by
-- induction on the number of bits, one clock at a time.
-- Assumes nothing.
use mathlib.Core.Path.{◌≡◌, refl, sym, ap, ◌∙◌}
use Prim.Native.Nat.{ℕ, zero, suc, ◌+◌, ◌*◌, ◌/◌, ◌%◌, ◌^◌, ◌<◌}
use native.Mathlib.Nat.{mod-lt, mod-mod, zero-add, suc-add, add_comm, zero-div}
use native.Mathlib.Numerals.{one-add}
use lib.Dec.{lit<}
use lib.Pow.{shr-shr, high, low, field, mod-mod-pow}
use lib.Bits.{bit_xor, xor_shr, xor_mod, xor_self}
use Rattle.crc.specs.Crc.{shift, bit_at, feed}
use Rattle.crc.specs.Tables.{zeros}
use Rattle.crc.proofs.ShiftLaws.{shift-lt, shift-xor}

-- ---- one bit

pub bit-lt : (k m : ℕ) → bit_at k m < 2
unfolding bit_at
bit-lt k m = mod-lt _ (lit< tt)

bit-xor : (k m n : ℕ) → bit_at k (bit_xor m n) ≡ bit_xor (bit_at k m) (bit_at k n)
unfolding bit_at
bit-xor k m n = rw (xor_shr, odd)
  where
    odd : (a b : ℕ) → bit_xor a b % 2 ≡ bit_xor (a % 2) (b % 2)
    odd a b = xor_mod a b 1

bit-zero : (k : ℕ) → bit_at k 0 ≡ 0
unfolding bit_at
bit-zero k = rw (zero-div)

-- the bits above the j lowest are those of m without the j lowest
bit_high : (i j m : ℕ) → bit_at i (m / 2 ^ j) ≡ bit_at (i + j) m
unfolding bit_at
bit_high i j m = ap (λ (n : ℕ). n % 2) (shr-shr m j i ∙ ap (λ (n : ℕ). m / 2 ^ n) (add_comm j i))

-- the k + 1 lowest bits have bit k of m on top
bit-low : (k m : ℕ) → bit_at k (m % 2 ^ (1 + k)) ≡ bit_at k m
unfolding bit_at
bit-low k m = ap (λ (n : ℕ). n % 2) (field m 1 k) ∙ mod-mod (m / 2 ^ k) 2

-- ---- k bits

pub feed-lt : (k r m : ℕ) → r < 2 ^ 32 → feed k r m < 2 ^ 32
unfolding feed
feed-lt zero r m h = h
feed-lt (suc k) r m h = feed-lt k (shift r (bit_at k m)) m (shift-lt r (bit_at k m) h (bit-lt k m))

pub feed-xor : (k a b m n : ℕ) → a < 2 ^ 32 → b < 2 ^ 32 → feed k (bit_xor a b) (bit_xor m n) ≡ bit_xor (feed k a m) (feed k b n)
unfolding feed
feed-xor zero a b m n ha hb = refl
feed-xor (suc k) a b m n ha hb =
    let p : ℕ = bit_at k m in
    let q : ℕ = bit_at k n in
    rw (bit-xor k m n, shift-xor a b p q ha hb (bit-lt k m) (bit-lt k n))
    (feed-xor k (shift a p) (shift b q) m n (shift-lt a p ha (bit-lt k m)) (shift-lt b q hb (bit-lt k n)))

-- ---- bits in two goes

pub feed-split : (i j r m : ℕ) → feed (i + j) r m ≡ feed j (feed i r (m / 2 ^ j)) m
unfolding feed
feed-split zero j r m = rw (zero-add j)
feed-split (suc i) j r m = rw (suc-add i j, feed, bit_high i j m) (feed-split i j (shift r (bit_at (i + j) m)) m)

-- bits above the k lowest are not looked at
pub feed-low : (k r m : ℕ) → feed k r (m % 2 ^ k) ≡ feed k r m
unfolding feed
feed-low zero r m = refl
feed-low (suc k) r m =
    let s : ℕ = shift r (bit_at k m) in
    rw (← one-add k, bit-low k m)
    (sym (feed-low k s (m % 2 ^ (1 + k))) ∙ ap (feed k s) (mod-mod-pow m 1 k) ∙ feed-low k s m)

-- bits whose number is given in two parts
pub feed-parts : (i j r hi lo : ℕ) → lo < 2 ^ j → feed (i + j) r (hi * 2 ^ j + lo) ≡ feed j (feed i r hi) lo
feed-parts i j r hi lo h = rw (feed-split i j r (hi * 2 ^ j + lo), high hi j h, ← feed-low j (feed i r hi) (hi * 2 ^ j + lo), low hi j h)

-- ---- zero bits

pub zeros-suc : (k r : ℕ) → zeros (suc k) r ≡ zeros k (shift r 0)
unfolding feed
zeros-suc k r = rw (bit-zero k)

pub zeros-add : (i j r : ℕ) → zeros (i + j) r ≡ zeros j (zeros i r)
zeros-add i j r = rw (feed-split i j r 0, zero-div (2 ^ j))

-- an empty register stays empty
pub zeros-none : (k : ℕ) → zeros k 0 ≡ 0
zeros-none k = feed-xor k 0 0 0 0 (lit< tt) (lit< tt) ∙ xor_self (feed k 0 0)
