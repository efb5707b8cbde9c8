-- Two's complement as code makes it in a machine's signed integers. docs/PORT.md names the law; no proof cites it.
-- Assumes nothing.
use mathlib.Core.Path.{◌≡◌, sym, ap, ◌∙◌}
use Prim.Native.Nat.{ℕ, zero, suc, ◌-◌, ◌^◌, ◌≤◌, ◌<◌}
use native.Mathlib.Nat.{not-suc-le-zero, lt_of_lt_of_le}
use lib.IntN.{ℤ, pos, negsuc, ◌-ℤ◌}
use lib.Pow.{pow_mono}
use mir.Syntax.{Width}
use mir.Val.{hbits, to_z}
use mir.ValLaws.{to_z_pos}
use borrow.Author.Tests.{lt-ltb}
use Rattle.fields.proofs.SignedLaws.{signed-neg}
use Rattle.fields.specs.Signed.{signed}

less : (n m : ℕ) → n < m → pos n -ℤ pos m ≡ negsuc (m - suc n)
less n zero h = absurd (not-suc-le-zero h)
less n (suc m) h = rw (lt-ltb n (suc m) h)

-- the top bit is set: the number less two to the width
pub top_set : (W : Width) (w n : ℕ) → w ≤ hbits W → n < 2 ^ w → 2 ^ (w - 1) ≤ n → to_z W n -ℤ pos (2 ^ w) ≡ signed w n
top_set W w n narrow k h =
    ap (λ (z : ℤ). z -ℤ pos (2 ^ w)) (to_z_pos W n (lt_of_lt_of_le k (pow_mono narrow)))
    ∙ less n (2 ^ w) k
    ∙ sym (signed-neg w n h)
