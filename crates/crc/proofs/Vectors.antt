-- Two numbers that are printed elsewhere hold the definition to what others mean by this CRC: the polynomial's usual
-- numeral, and the published check value of the nine bytes "123456789". Both hold by computing the definition.
-- Assumes nothing.
use mathlib.Core.Path.{◌≡◌, refl}
use mathlib.Core.List.{[], ◌∷◌}
use Rattle.crc.specs.Crc.{taps, shift, bit_at, feed, run, crc_of}

-- A theorem: the numeral
pub taps-number : taps ≡ 0x04C11DB7
taps-number = refl

-- A theorem: the check value
pub check-value : crc_of (0x31 ∷ 0x32 ∷ 0x33 ∷ 0x34 ∷ 0x35 ∷ 0x36 ∷ 0x37 ∷ 0x38 ∷ 0x39 ∷ []) ≡ 0x0376E6E7
unfolding shift bit_at feed run crc_of
check-value = refl
