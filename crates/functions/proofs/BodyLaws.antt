-- A body and what it holds undo each other: a signed number, and the fields of a format. Over any count of bytes k, and any
-- format that fills them.
-- Assumes nothing.
use mathlib.Core.Path.{◌≡◌, refl, sym, ap, ◌∙◌, subst}
use mathlib.Core.Bool.{false}
use mathlib.Core.List.{List, [], ◌∷◌}
use Prim.Native.Nat.{ℕ, ◌+◌, ◌*◌, ◌^◌, ◌≤◌, ◌<◌}
use native.Mathlib.Omega.{arith}
use lib.IntN.{ℤ, pos, negsuc}
use lib.ListN.{length, get_or}
use Rattle.fields.specs.Formats.{span, pack, unpack, Fit}
use Rattle.fields.specs.Numbers.{Bytes, number, bytes}
use Rattle.fields.specs.Parts.{number_at}
use Rattle.fields.specs.Signed.{signed, unsigned, InSigned, beyond_signed}
use Rattle.fields.proofs.FormatLaws.{pack-lt, pack-unpack, unpack-pack}
use Rattle.fields.proofs.NumberLaws.{length-bytes, number-bytes, number_lt, bytes-number, number-cons, number-nil}
use mir.Syntax.{w16}
use mir.Val.{to_z, of_z}
use Rattle.functions.specs.Write.{unfit}
use Rattle.functions.specs.declared.Function.TheVariants.{FrequencyOffset}
use Rattle.fields.proofs.PartLaws.{stored-at, copied-to, number-at, part-whole}
use Rattle.fields.proofs.SignedLaws.{unsigned_signed, signed-in, in-signed, not_beyond, unsigned-lt, signed-unsigned}

-- ---- from what is held to the body and back

pub signed_back : (k : ℕ) (z : ℤ) → 0 < k → beyond_signed (8 * k) z ≡ false → signed (8 * k) (number (bytes k (unsigned (8 * k) z))) ≡ z
signed_back k z h b =
    let i : InSigned (8 * k) z = in-signed (8 * k) z b in
    ap (signed (8 * k)) (number-bytes k (unsigned (8 * k) z) (unsigned-lt (8 * k) z (omega arith) i))
    ∙ signed-unsigned (8 * k) z (omega arith) i

pub fields_back : (ws fs : List ℕ) (k : ℕ) → span ws ≡ 8 * k → Fit ws fs → unpack ws (number (bytes k (pack ws fs))) ≡ fs
fields_back ws fs k e fit =
    ap (unpack ws) (number-bytes k (pack ws fs) (subst (λ (n : ℕ). pack ws fs < 2 ^ n) e (pack-lt ws fs fit)))
    ∙ unpack-pack ws fs fit

-- ---- from the body to what it holds and back

module _ (k : ℕ) (body : List ℕ) (size : length body ≡ k) (b : Bytes body) where
  pub number_small : number body < 2 ^ (8 * k)
  number_small = subst (λ (n : ℕ). number body < 2 ^ (8 * n)) size (number_lt body b)

  pub number-forth : bytes k (number body) ≡ body
  number-forth = ap (λ (n : ℕ). bytes n (number body)) (sym size) ∙ bytes-number body b

  pub signed-forth : bytes k (unsigned (8 * k) (signed (8 * k) (number body))) ≡ body
  signed-forth = ap (bytes k) (unsigned_signed (8 * k) (number body) number_small) ∙ number-forth

  pub signed-within : 0 < k → beyond_signed (8 * k) (signed (8 * k) (number body)) ≡ false
  signed-within h = not_beyond (8 * k) (signed (8 * k) (number body)) (signed-in (8 * k) (number body) (omega arith) number_small)

  pub fields-forth : (ws : List ℕ) → span ws ≡ 8 * k → bytes k (pack ws (unpack ws (number body))) ≡ body
  fields-forth ws e =
      ap (bytes k) (pack-unpack ws (number body) (subst (λ (n : ℕ). number body < 2 ^ n) (sym e) number_small)) ∙ number-forth

-- the number of a whole slice, as code takes it
pub number-whole : (body : List ℕ) → length body ≤ 8 → number_at 0 (length body) body ≡ number body
number-whole body h = number-at 0 (length body) body (omega arith) h ∙ ap number (part-whole body)

-- a body of one byte
pub one_byte : (body : List ℕ) → length body ≡ 1 → number body ≡ get_or body 0 0
one_byte [] h = omega arith
one_byte (x ∷ []) h = number-cons x [] ∙ ap (λ (n : ℕ). x * 1 + n) number-nil ∙ omega arith
one_byte (x ∷ y ∷ l) h = omega arith

-- ---- for the check: how long a body is, and how it is laid down

pub as_signed : (n : ℕ) → to_z w16 n ≡ signed 16 n
unfolding signed
as_signed n = refl

pub as_unsigned : (z : ℤ) → of_z w16 z ≡ unsigned 16 z
unfolding unsigned
as_unsigned (pos n) = refl
as_unsigned (negsuc k) = refl

pub fits_24 : (z : ℤ) → unfit (FrequencyOffset z) ≡ false → InSigned 24 z
unfolding unfit
fits_24 z h = in-signed 24 z h

pub ruleset sizes = (length-bytes)

pub ruleset layings = (length-bytes, stored-at, copied-to, part-whole, as_unsigned, fits_24)
