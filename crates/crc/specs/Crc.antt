-- The CRC as 01 says it ("CRC:") and as annex A of the T2-MI standard draws it: a shift register of 32 stages that is
-- fed one bit at a time. The register is a number below 2 ^ 32, in which annex A's stage b_i is the binary digit of
-- weight 2 ^ i; digits are added without carries, by `bit_xor`.
use Rattle.std.specs.Prelude.{ℕ, zero, suc, ◌+◌, ◌-◌, ◌*◌, ◌/◌, ◌%◌, ◌^◌, Bool, List, [], ◌∷◌, eqb}
use Rattle.std.specs.Int.Bits.{bit_xor}

-- the exponents of the polynomial below 32, in the order of 01 and of annex A
abbrev pub exponents : List ℕ
exponents = 26 ∷ 23 ∷ 22 ∷ 16 ∷ 12 ∷ 11 ∷ 10 ∷ 8 ∷ 7 ∷ 5 ∷ 4 ∷ 2 ∷ 1 ∷ 0 ∷ []

-- the register with a one in each of these stages, and no other
abbrev pub ones_at : List ℕ → ℕ
ones_at [] = 0
ones_at (i ∷ is) = 2 ^ i + ones_at is

-- the stages that are tapped
abbrev pub taps : ℕ
taps = ones_at exponents

-- one clock: every stage moves one place towards the top, and what leaves the top stage, added to the bit at the
-- input, is added into each tapped stage
unfoldable pub shift : ℕ → ℕ → ℕ
shift register bit = bit_xor (bit_xor (register / 2 ^ 31) bit * taps) (register * 2 % 2 ^ 32)

-- the bit of m with the weight 2 ^ k
unfoldable pub bit_at : ℕ → ℕ → ℕ
bit_at k m = m / 2 ^ k % 2

-- the k lowest bits of m go in, the top one first
unfoldable pub feed : ℕ → ℕ → ℕ → ℕ
feed zero register m = register
feed (suc k) register m = feed k (shift register (bit_at k m)) m

-- bytes go in one after the other, each with its top bit first
unfoldable pub run : ℕ → List ℕ → ℕ
run register [] = register
run register (b ∷ bs) = run (feed 8 register b) bs

-- all ones, as the register starts
abbrev pub all_ones : ℕ
all_ones = 2 ^ 32 - 1

-- the CRC of bytes is what they leave in the register, with no final change
unfoldable pub crc_of : List ℕ → ℕ
crc_of bytes = run all_ones bytes

-- the CRC among the bytes is right: over all of them, with it, the register ends at zero
unfoldable pub crc_holds : List ℕ → Bool
crc_holds bytes = eqb (crc_of bytes) 0
