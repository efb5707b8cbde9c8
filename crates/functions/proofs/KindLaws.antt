-- The laws of the kinds of functions: their bodies' lengths, their flags, and what they carry.
-- Assumes nothing.
use mathlib.Core.Path.{◌≡◌, refl, sym}
use mathlib.Core.Bool.{Bool, true, false}
use mathlib.Core.List.{List}
use Prim.Native.Nat.{ℕ, zero, suc, ◌<◌}
use native.Mathlib.Omega.{arith}
use lib.Dec.{lit<}
use mir.Val.{bool_byte}
use borrow.Author.Tests.{eqb-true, not-false}
use Rattle.fields.proofs.Cases.{true≢false}
use Rattle.functions.specs.Tags.{exactly, size_of, body_wrong}
use Rattle.functions.specs.Function.{is_set, bit, carries, body_of}
use Rattle.functions.specs.declared.Function.{Function}
use Rattle.functions.specs.declared.Function.TheVariants.{TimeOffset, FrequencyOffset, Power, Private, Cell, Enable, Bandwidth, Passed}

-- a body of its tag's length
pub sized : (tag k n : ℕ) → size_of tag ≡ exactly k → body_wrong tag n ≡ false → n ≡ k
unfolding body_wrong
sized tag k n size right = eqb-true _ _ (not-false _ (rw size at right))

-- ---- flags

-- no proof cites these three
pub byte-bit : (flag : Bool) → bool_byte flag ≡ bit flag
byte-bit true = refl
byte-bit false = refl

pub byte_small : (flag : Bool) → bool_byte flag < 2
byte_small true = lit< tt
byte_small false = lit< tt

pub bit-small : (flag : Bool) → bit flag < 2
bit-small true = lit< tt
bit-small false = lit< tt

pub set-bit : (flag : Bool) → is_set (bit flag) ≡ flag
set-bit true = refl
set-bit false = refl

pub bit-set : (n : ℕ) → n < 2 → bit (is_set n) ≡ n
bit-set zero h = refl
bit-set (suc zero) h = refl
bit-set (suc (suc n)) h = absurd (omega arith)

-- ---- what is carried

pub carried-is : (f : Function) (carried : List ℕ) → carries f ≡ true → body_of f carried ≡ carried
unfolding body_of
carried-is (TimeOffset t) carried h = absurd (true≢false (sym h))
carried-is (FrequencyOffset f) carried h = absurd (true≢false (sym h))
carried-is (Power p) carried h = absurd (true≢false (sym h))
carried-is Private carried h = refl
carried-is (Cell id wait rest) carried h = absurd (true≢false (sym h))
carried-is Enable carried h = refl
carried-is (Bandwidth value wait) carried h = absurd (true≢false (sym h))
carried-is (Passed tag) carried h = refl
