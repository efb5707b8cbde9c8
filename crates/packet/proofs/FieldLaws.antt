-- Where the header's fields lie in a slice, and what the two refusal lists say once they are passed.
-- Assumes nothing.
use Rattle.std.proofs.Common.{◌≡◌, ℕ, ◌+◌, ◌-◌, ◌*◌, ◌/◌, ◌%◌, ◌^◌, ◌<◌, ◌≤◌, true, false, List, [], ◌∷◌, ◌++◌, length, get_or, take, drop, sym, refl, ap, ◌∙◌, arith, ltb-false, eqb-true}
use borrow.Author.Tests.{not-false}
use Rattle.crc.specs.Crc.{crc_holds}
use Rattle.fields.specs.Formats.{unpack, Fit}
use Rattle.fields.specs.Numbers.{Bytes, number}
use Rattle.fields.specs.Parts.{part, number_at}
use Rattle.fields.proofs.FormatLaws.{not-too-wide}
use Rattle.fields.proofs.NumberLaws.{number_append, number-cons, number-nil}
use Rattle.fields.proofs.PartLaws.{number-at, part-add, part-cons, part_none}
use Rattle.refusals.specs.Checks.{first}
use Rattle.refusals.proofs.CheckLaws.{none-holds}
use Rattle.packet.specs.Layout.{header, reserved_type, payload_bytes, total_of, pad_set, size_of}
use Rattle.packet.specs.Read.{field, payload_of, read_checks}
use Rattle.packet.specs.Write.{fields_of, write_checks}
use Rattle.packet.specs.declared.Header.{Header}

-- ---- payload_len lies in bytes 4 and 5

pair : (s : List ℕ) → 6 ≤ length s → part 4 2 s ≡ get_or s 4 0 ∷ get_or s 5 0 ∷ []
pair s h =
    part-cons 4 1 s (omega arith) ∙ ap (λ (l : List ℕ). get_or s 4 0 ∷ l) (part-cons 5 0 s (omega arith) ∙ ap (λ (l : List ℕ). get_or s 5 0 ∷ l) (part_none 6 s))

two : (a b : ℕ) → number (a ∷ b ∷ []) ≡ a * 256 + b
two a b = number-cons a (b ∷ []) ∙ ap (λ (x : ℕ). a * 256 + x) (number-cons b [] ∙ ap (λ (x : ℕ). b * 1 + x) number-nil ∙ omega arith)

pub payload-len : (s : List ℕ) → Bytes s → 6 ≤ length s → field 5 s ≡ get_or s 4 0 * 256 + get_or s 5 0
unfolding unpack
payload-len s b h =
    let e : number_at 0 6 s ≡ number (part 0 4 s) * 2 ^ 16 + (get_or s 4 0 * 256 + get_or s 5 0) =
    number-at 0 6 s h (omega arith)
    ∙ ap number (part-add 0 4 2 s ∙ ap (λ (l : List ℕ). part 0 4 s ++ l) (pair s h))
    ∙ number_append (part 0 4 s) (get_or s 4 0 ∷ get_or s 5 0 ∷ [])
    ∙ ap (λ (x : ℕ). number (part 0 4 s) * 2 ^ 16 + x) (two (get_or s 4 0) (get_or s 5 0)) in
    ap (λ (x : ℕ). x / 1 % 65536) e ∙ lowest (number (part 0 4 s)) (get_or s 4 0 * 256 + get_or s 5 0) (omega (arith, b 4, b 5))
  where
    lowest : (x y : ℕ) → y < 65536 → (x * 65536 + y) / 1 % 65536 ≡ y
    lowest x y k = omega arith

pub size-field : (s : List ℕ) → Bytes s → 6 ≤ length s → size_of s ≡ total_of (field 5 s)
unfolding size_of
size-field s b h = sym (ap total_of (payload-len s b h))

-- the part that lies between the header and the CRC is the payload with its pad
pub payload-part : (s : List ℕ) → Bytes s → 10 ≤ length s → length s ≡ size_of s → take (length s - 4 - 6) (drop 6 s) ≡ payload_of s
unfolding payload_of part
payload-part s b h e =
    let k : length s - 4 - 6 ≡ payload_bytes (field 5 s) = omega (arith, size-field s b (omega arith)) in
    ap (λ (n : ℕ). take n (drop 6 s)) k

-- ---- what is known of a slice that is read

pub record Readable (s : List ℕ) : Type 0 where
  pub long : 10 ≤ length s
  pub size : length s ≡ size_of s
  pub crc : crc_holds s ≡ true
  pub reserved : field 3 s ≡ 0
  pub kind : reserved_type (field 0 s) ≡ false
  pub pad : pad_set (field 5 s) (payload_of s) ≡ false

pub readable : (s : List ℕ) → first (read_checks s) ≡ 0 → Readable s
unfolding read_checks
readable s h =
    let n = none-holds (read_checks s) tt h in
    record {
      long = ltb-false _ _ n.0;
      size = eqb-true _ _ (not-false _ n.1.0);
      crc = not-false _ n.1.1.0;
      reserved = eqb-true _ _ (not-false _ n.1.1.1.0);
      kind = n.1.1.1.1.0;
      pad = n.1.1.1.1.1.0;
    }

-- ---- what is known of fields and a payload that are written

pub record Writable (h : Header) (payload out : List ℕ) : Type 0 where
  pub kind : reserved_type h.kind ≡ false
  pub fit : Fit header (fields_of h)
  pub size : length payload ≡ payload_bytes h.bits
  pub pad : pad_set h.bits payload ≡ false
  pub room : total_of h.bits ≤ length out

pub writable : (h : Header) (payload out : List ℕ) → first (write_checks h payload (length out)) ≡ 0 → Writable h payload out
unfolding write_checks
writable h payload out e =
    let n = none-holds (write_checks h payload (length out)) tt e in
    record {
      kind = n.0;
      fit = not-too-wide header (fields_of h) refl n.1.0;
      size = eqb-true _ _ (not-false _ n.1.1.0);
      pad = n.1.1.1.0;
      room = ltb-false _ _ n.1.1.1.1.0;
    }
