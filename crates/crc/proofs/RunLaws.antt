-- Bytes run through the register one list after the other, a list does what the bits of its number do, and no list makes
-- two registers one. All hold by induction on the bytes, from the laws of eight bits.
-- Assumes nothing.
use mathlib.Core.Path.{◌≡◌, refl, sym, ◌∙◌}
use mathlib.Core.List.{List, [], ◌∷◌, ◌++◌}
use Prim.Native.Nat.{ℕ, suc, ◌+◌, ◌*◌, ◌^◌, ◌≤◌, ◌<◌}
use native.Mathlib.Nat.{mul-suc, add_comm}
use lib.ListN.{length, drop, drop_of_length-le}
use lib.Bits.{bit_xor}
use Rattle.std.specs.List.{fold}
use Rattle.fields.specs.Numbers.{Bytes, number}
use Rattle.fields.proofs.NumberLaws.{bytes-tail, number_lt, number-cons}
use Rattle.crc.specs.Crc.{feed, run}
use Rattle.crc.specs.Tables.{zeros}
use Rattle.crc.proofs.FeedLaws.{feed-lt, feed-xor, feed-parts, zeros-add}
use Rattle.crc.proofs.TopLaws.{feed-top, feed-injective}

pub run-lt : (r : ℕ) (l : List ℕ) → r < 2 ^ 32 → run r l < 2 ^ 32
unfolding run
run-lt r [] h = h
run-lt r (b ∷ l) h = run-lt (feed 8 r b) l (feed-lt 8 r b h)

pub run-append : (r : ℕ) (l m : List ℕ) → run r (l ++ m) ≡ run (run r l) m
unfolding run
run-append r [] m = refl
run-append r (b ∷ l) m = run-append (feed 8 r b) l m

-- a byte more is eight bits more
pub eight-more : (n : ℕ) → 8 * suc n ≡ 8 + 8 * n
eight-more n = mul-suc 8 n ∙ add_comm (8 * n) 8

pub run-feed : (r : ℕ) (l : List ℕ) → Bytes l → run r l ≡ feed (8 * length l) r (number l)
unfolding run feed
run-feed r [] h = refl
run-feed r (b ∷ l) h =
    run-feed (feed 8 r b) l (bytes-tail b l h)
    ∙ rw (eight-more (length l), number-cons b l) (sym (feed-parts 8 (8 * length l) r b (number l) (number_lt l (bytes-tail b l h))))

-- the key law for up to four bytes
pub run-top : (j r : ℕ) (l : List ℕ) → 8 * length l + j ≡ 32 → r < 2 ^ 32 → Bytes l
    → run r l ≡ zeros (8 * length l) (bit_xor r (number l * 2 ^ j))
run-top j r l e hr hl = run-feed r l hl ∙ feed-top (8 * length l) j r (number l) e hr (number_lt l hl)

-- of a sum of two registers, one may go through zero bytes and be added at the end
pub run-xor : (a r : ℕ) (l : List ℕ) → a < 2 ^ 32 → r < 2 ^ 32 → run (bit_xor a r) l ≡ bit_xor (zeros (8 * length l) a) (run r l)
unfolding run feed
run-xor a r [] ha hr = refl
run-xor a r (b ∷ l) ha hr =
    rw (feed-xor 8 a r 0 b ha hr, eight-more (length l), zeros-add 8 (8 * length l) a)
    (run-xor (zeros 8 a) (feed 8 r b) l (feed-lt 8 a 0 ha) (feed-lt 8 r b hr))

pub run-injective : (a b : ℕ) (l : List ℕ) → a < 2 ^ 32 → b < 2 ^ 32 → run a l ≡ run b l → a ≡ b
unfolding run
run-injective a b [] ha hb e = e
run-injective a b (x ∷ l) ha hb e =
    feed-injective 8 a b x ha hb (run-injective (feed 8 a x) (feed 8 b x) l (feed-lt 8 a x ha) (feed-lt 8 b x hb) e)

-- a fold over the bytes, one by one
pub run_fold : (r : ℕ) (l : List ℕ) → fold (feed 8) r l ≡ run r l
unfolding run
run_fold r [] = refl
run_fold r (b ∷ l) = run_fold (feed 8 r b) l

-- past the end no bytes are left
pub run_end : (r i : ℕ) (l : List ℕ) → length l ≤ i → run r (drop i l) ≡ r
unfolding run
run_end r i l h = rw (drop_of_length-le l h)
