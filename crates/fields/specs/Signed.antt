-- Two's complement at a width of w bits.
use Rattle.std.specs.Prelude.{ℕ, suc, ◌-◌, ◌^◌, ◌<◌, Bool, cond, leb, ltb, ℤ, pos, negsuc}
use Rattle.std.specs.Int.Signed.{mag}

-- the number that w bits stand for: n where their top bit is clear, and n less two to the w where it is set
-- (`negsuc k` is one less than the negative of k)
unfoldable pub signed : ℕ → ℕ → ℤ
signed w n = cond (ltb n (2 ^ (w - 1))) (pos n) (negsuc (2 ^ w - suc n))

-- the w bits that stand for a number
unfoldable pub unsigned : ℕ → ℤ → ℕ
unsigned w (pos n) = n
unsigned w (negsuc k) = 2 ^ w - suc k

-- w bits can stand for it
abbrev pub InSigned : ℕ → ℤ → Type 0
InSigned w (pos n) = n < 2 ^ (w - 1)
InSigned w (negsuc k) = k < 2 ^ (w - 1)

-- less than the negative of half, or not less than half (`mag z` is n for n, and for the number one less than the negative of n)
abbrev pub outside : ℕ → ℤ → Bool
outside half z = leb half (mag z)

-- w bits cannot stand for it
abbrev pub beyond_signed : ℕ → ℤ → Bool
beyond_signed w z = outside (2 ^ (w - 1)) z
