-- The laws of a packet's own length, its types and its pad.
-- Assumes nothing.
use Rattle.std.proofs.Common.{◌≡◌, ℕ, ◌*◌, ◌%◌, ◌^◌, ◌<◌, ◌≤◌, List, ◌++◌, length, take, ap, ◌∙◌, mod-eq_of_lt, one-mul, arith, get_or-take}
use lib.Pow.{pow-lt}
use lib.ListN.{get_or-append}
use Rattle.fields.specs.Numbers.{Bytes}
use Rattle.packet.specs.Layout.{pad_bits, size_of}

-- ---- a packet's own length

-- it is never under ten bytes, and fits what a reader keeps
pub size-least : (l : List ℕ) → 10 ≤ size_of l
unfolding size_of
size-least l = omega arith

pub size-most : (l : List ℕ) → Bytes l → size_of l ≤ 8202
unfolding size_of
size-most l b = omega (arith, b 4, b 5)

-- six bytes settle it
pub size-take : (n : ℕ) (l : List ℕ) → 6 ≤ n → size_of (take n l) ≡ size_of l
unfolding size_of
size-take n l h = rw (get_or-take n l 4 0 (omega arith), get_or-take n l 5 0 (omega arith))

pub size-append : (l m : List ℕ) → 6 ≤ length l → size_of (l ++ m) ≡ size_of l
unfolding size_of
size-append l m h = rw (get_or-append l m 0 4 (omega arith), get_or-append l m 0 5 (omega arith))

-- ---- the pad

pub pad-under-8 : (bits : ℕ) → pad_bits bits < 8
pad-under-8 bits = omega arith

-- two to the pad, as a shift of a byte makes it
pub pad-power : (k : ℕ) → k < 8 → 1 * 2 ^ k % 256 ≡ 2 ^ k
pad-power k h = ap (λ (n : ℕ). n % 256) (one-mul (2 ^ k)) ∙ mod-eq_of_lt (pow-lt {i = k} {j = 8} h)
