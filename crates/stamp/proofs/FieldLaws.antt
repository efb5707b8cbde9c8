-- Where a payload's fields lie in two numbers that 64 bits hold, and what the two refusal lists say once they are passed.
-- Assumes nothing.
use mathlib.Core.Path.{◌≡◌, refl, sym, ap, ap₂, ◌∙◌}
use mathlib.Core.Bool.{false}
use mathlib.Core.List.{List, [], ◌∷◌, ◌++◌}
use Prim.Native.Nat.{ℕ, ◌+◌, ◌*◌, ◌/◌, ◌%◌, ◌^◌, ◌≤◌, ◌<◌}
use native.Mathlib.Nat.{div-one}
use native.Mathlib.Omega.{arith}
use lib.ListN.{length, get_or, replicate}
use borrow.Author.Tests.{ltb-false, eqb-true, not-false}
use Rattle.fields.specs.Formats.{pack, unpack, Fit}
use Rattle.fields.specs.Numbers.{Bytes, number, bytes}
use Rattle.fields.specs.Parts.{number_at}
use Rattle.fields.proofs.FormatLaws.{not-too-wide, unpack-halves, pack-append}
use Rattle.fields.proofs.PartLaws.{number-at, in_halves}
use Rattle.refusals.specs.Checks.{first}
use Rattle.refusals.proofs.CheckLaws.{none-holds}
use Rattle.stamp.specs.Layout.{format, bandwidth_over, second_reached}
use Rattle.stamp.specs.Read.{field, stamp_of, read_checks}
use Rattle.stamp.specs.Write.{fields_of, stamp_bytes, write_checks}
use Rattle.stamp.specs.declared.Stamp.{Stamp}

-- ---- the fields of a payload

-- a payload's halves: 6 bytes and 5
abbrev front : List ℕ
front = 4 ∷ 4 ∷ 40 ∷ []

abbrev back : List ℕ
back = 27 ∷ 13 ∷ []

module _ (s : List ℕ) (b : Bytes s) (e : length s ≡ 11) where
  fields-halves : unpack format (number s) ≡ unpack front (number_at 0 6 s) ++ unpack back (number_at 6 5 s)
  fields-halves =
      in_halves front back 6 5 s b e refl
      ∙ sym (ap₂ (λ (x y : ℕ). unpack front x ++ unpack back y)
      (number-at 0 6 s (omega arith) (omega arith))
      (number-at 6 5 s (omega arith) (omega arith)))

  pub reserved-half : field 0 s ≡ number_at 0 6 s / 2 ^ 44 % 16
  unfolding unpack
  reserved-half = ap (λ (l : List ℕ). get_or l 0 0) fields-halves

-- the fields in the two numbers, as code takes them out
abbrev pub from_halves : ℕ → ℕ → Stamp
from_halves x y =
    record { bw = x / 2 ^ 40 % 16; seconds = x % 2 ^ 40; subseconds = record { 0 = y / 2 ^ 13 % 2 ^ 27 }; utco = y % 2 ^ 13 }

pub stamp-halves : (s : List ℕ) → Bytes s → length s ≡ 11 → stamp_of s ≡ from_halves (number_at 0 6 s) (number_at 6 5 s)
unfolding stamp_of unpack
stamp-halves s b e =
    ap (λ (l : List ℕ). record { bw = get_or l 1 0; seconds = get_or l 2 0; subseconds = record { 0 = get_or l 3 0 }; utco = get_or l 4 0 }) (fields-halves s b e)
    ∙ rw (div-one (number_at 0 6 s), div-one (number_at 6 5 s))

-- ---- the bytes of a stamp, from two numbers as code makes them

abbrev pub front_number : Stamp → ℕ
front_number s = s.bw * 2 ^ 40 + s.seconds

abbrev pub back_number : Stamp → ℕ
back_number s = s.subseconds.0 * 2 ^ 13 + s.utco

pub bytes_halves : (s : Stamp) → Fit format (fields_of s) → stamp_bytes s ≡ bytes 6 (front_number s) ++ bytes 5 (back_number s)
unfolding stamp_bytes bytes pack
bytes_halves s fit =
    let x : pack front (0 ∷ s.bw ∷ s.seconds ∷ []) ≡ front_number s = omega arith in
    let y : pack back (s.subseconds.0 ∷ s.utco ∷ []) ≡ back_number s = omega arith in
    let small : back_number s < 2 ^ 40 = omega (arith, fit.1.1.1.0, fit.1.1.1.1.0) in
    ap (bytes 11)
    (pack-append front back (0 ∷ s.bw ∷ s.seconds ∷ []) (s.subseconds.0 ∷ s.utco ∷ []) refl ∙ ap₂ (λ (m n : ℕ). m * 2 ^ 40 + n) x y)
    ∙ unpack-halves (replicate 6 8) (replicate 5 8) (front_number s) (back_number s) small

-- ---- what is known of a payload that is read

pub record Readable (s : List ℕ) : Type 0 where
  pub size : length s ≡ 11
  pub reserved : field 0 s ≡ 0
  pub bandwidth : bandwidth_over (stamp_of s) ≡ false
  pub second : second_reached (stamp_of s) ≡ false

pub readable : (s : List ℕ) → first (read_checks s) ≡ 0 → Readable s
unfolding read_checks
readable s h =
    let n = none-holds (read_checks s) tt h in
    record {
      size = eqb-true _ _ (not-false _ n.0);
      reserved = eqb-true _ _ (not-false _ n.1.0);
      bandwidth = n.1.1.0;
      second = n.1.1.1.0;
    }

-- ---- what is known of a stamp that is written

pub record Writable (s : Stamp) (out : List ℕ) : Type 0 where
  pub bandwidth : bandwidth_over s ≡ false
  pub fit : Fit format (fields_of s)
  pub second : second_reached s ≡ false
  pub room : 11 ≤ length out

pub writable : (s : Stamp) (out : List ℕ) → first (write_checks s (length out)) ≡ 0 → Writable s out
unfolding write_checks
writable s out h =
    let n = none-holds (write_checks s (length out)) tt h in
    record {
      bandwidth = n.0;
      fit = not-too-wide format (fields_of s) refl n.1.0;
      second = n.1.1.0;
      room = ltb-false _ _ n.1.1.1.0;
    }
