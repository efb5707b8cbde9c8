-- Where a MIP's fields lie in four numbers that 64 bits hold, and what the two refusal lists say once they are passed.
-- Assumes nothing.
use mathlib.Core.Path.{◌≡◌, refl, sym, ap, ap₂, ◌∙◌}
use mathlib.Core.Bool.{Bool, true, false, cond, not, ◌||◌}
use mathlib.Core.List.{List, [], ◌∷◌, ◌++◌}
use Prim.Native.Nat.{ℕ, ◌+◌, ◌-◌, ◌*◌, ◌/◌, ◌%◌, ◌^◌, ◌≤◌, ◌<◌}
use native.Mathlib.Omega.{arith}
use lib.Dec.{eqb, ltb}
use lib.ListN.{length, get_or, take, drop, length-drop}
use lib.Seq.{take_all}
use borrow.Author.Tests.{lt-ltb, eq-eqb, eqb-true, eqb-false, ltb-false, leb-false, not-false}
use Rattle.std.specs.List.{list_any}
use Rattle.addressing.specs.Data.{house, fault_of}
use Rattle.crc.specs.Crc.{crc_holds}
use Rattle.fields.specs.Formats.{pack, unpack, Fit, too_wide}
use Rattle.fields.specs.Numbers.{Bytes, number, bytes}
use Rattle.fields.specs.Parts.{part, number_at}
use Rattle.fields.proofs.Cases.{cases, true≢false}
use Rattle.fields.proofs.FormatLaws.{unpack-fit, pack-unpack-mod, unpack-pack, unpack-append, not-too-wide, fit-not-wide, wide-last}
use Rattle.fields.proofs.ByteFormatLaws.{unpack-parts, pack-parts}
use Rattle.fields.proofs.PartLaws.{part-cons, part_none, number-at}
use Rattle.refusals.specs.Checks.{first}
use Rattle.refusals.proofs.CheckLaws.{none-holds, not_found}
use Rattle.transport.specs.Header.{header, header_field, sync_of, count_of}
use Rattle.mip.specs.Layout.{fixed_widths, fixed_fields, parameters, parameters_of, section_of, crc_end, second}
use Rattle.mip.specs.Read.{fixed_of, differ, parameter, addressing_length, addressing_of, header_wrong, section_wrong, not_all_ones, read_checks, mip_of, lead_of}
use Rattle.mip.specs.Write.{flag, header_fields, parameter_fields, lead_bytes, field_wide, write_checks}
use Rattle.mip.specs.declared.Mip.{Mip}
use Rattle.mip.specs.declared.reading.Lead.{Lead}

-- ---- the fields of a packet

-- the parameters in three: 6 bytes, 6 and 5
abbrev pub head : List ℕ
head = 8 ∷ 8 ∷ 16 ∷ 1 ∷ 15 ∷ []

abbrev pub times : List ℕ
times = 24 ∷ 24 ∷ []

abbrev pub tail : List ℕ
tail = 32 ∷ 8 ∷ []

-- the header's fields as one list: those of the number in its four bytes
abbrev pub header_of : List ℕ → List ℕ
header_of p = sync_of p ∷ (fixed_of p ++ (count_of p ∷ []))

four : (p : List ℕ) → 4 ≤ length p → part 0 4 p ≡ get_or p 0 0 ∷ get_or p 1 0 ∷ get_or p 2 0 ∷ get_or p 3 0 ∷ []
four p h =
    part-cons 0 3 p (omega arith)
    ∙ ap (λ (l : List ℕ). get_or p 0 0 ∷ l) (part-cons 1 2 p (omega arith)
    ∙ ap (λ (l : List ℕ). get_or p 1 0 ∷ l) (part-cons 2 1 p (omega arith)
    ∙ ap (λ (l : List ℕ). get_or p 2 0 ∷ l) (part-cons 3 0 p (omega arith)
    ∙ ap (λ (l : List ℕ). get_or p 3 0 ∷ l) (part_none 4 p))))

pub header-listed : (p : List ℕ) → 4 ≤ length p → header_of p ≡ unpack header (number (part 0 4 p))
unfolding header_field unpack
header-listed p h = ap (λ (l : List ℕ). unpack header (number l)) (sym (four p h))

module _ (p : List ℕ) (b : Bytes p) (e : length p ≡ 188) where
  pub header-number : header_of p ≡ unpack header (number_at 0 4 p)
  header-number = header-listed p (omega arith) ∙ ap (unpack header) (sym (number-at 0 4 p (omega arith) (omega arith)))

  pub parameter-numbers : parameters_of p ≡ unpack head (number_at 4 6 p) ++ (unpack times (number_at 10 6 p) ++ unpack tail (number_at 16 5 p))
  unfolding parameters_of
  parameter-numbers =
      unpack-parts head (times ++ tail) 4 6 11 p b (omega arith) refl
      ∙ ap (λ (l : List ℕ). unpack head (number (part 4 6 p)) ++ l) (unpack-parts times tail 10 6 5 p b (omega arith) refl)
      ∙ sym (ap₂ (λ (x : ℕ) (l : List ℕ). unpack head x ++ l) (number-at 4 6 p (omega arith) (omega arith))
      (ap₂ (λ (x y : ℕ). unpack times x ++ unpack tail y) (number-at 10 6 p (omega arith) (omega arith)) (number-at 16 5 p (omega arith) (omega arith))))

-- all of them, in the two lists of the definitions
abbrev pub from_fields : List ℕ → List ℕ → Lead
from_fields h f =
    record {
      sync = get_or h 0 0;
      fixed = pack fixed_widths (take 6 (drop 1 h));
      id = get_or f 0 0;
      section = get_or f 1 0;
      addressing = get_or f 8 0;
      mip =
          record {
            count = get_or h 7 0;
            pointer = get_or f 2 0;
            periodic = eqb (get_or f 3 0) 1;
            future = get_or f 4 0;
            stamp = record { 0 = get_or f 5 0 };
            delay = record { 0 = get_or f 6 0 };
            tps = get_or f 7 0;
          };
    }

pub lead-fields : (p : List ℕ) → lead_of p ≡ from_fields (header_of p) (parameters_of p)
unfolding mip_of
lead-fields p = refl

-- the fixed bits as one number: 20 bits that end before the last four
pub fixed-number : (n : ℕ) → pack fixed_widths (take 6 (drop 1 (unpack header n))) ≡ n / 0x10 % 0x10_0000
unfolding unpack
fixed-number n =
    ap (λ (l : List ℕ). pack fixed_widths (take 6 l)) (unpack-append fixed_widths (4 ∷ []) n) ∙ pack-unpack-mod fixed_widths (n / 2 ^ 4)

fixed-fit : (p : List ℕ) → Fit fixed_widths (fixed_of p)
unfolding header_field unpack
fixed-fit p =
    let f = unpack-fit header (number (get_or p 0 0 ∷ get_or p 1 0 ∷ get_or p 2 0 ∷ get_or p 3 0 ∷ [])) in
    (f.1.0, (f.1.1.0, (f.1.1.1.0, (f.1.1.1.1.0, (f.1.1.1.1.1.0, (f.1.1.1.1.1.1.0, tt))))))

differ-same : (xs : List ℕ) → differ xs xs ≡ false
differ-same [] = refl
differ-same (x ∷ xs) = rw (eq-eqb x x refl) (differ-same xs)

differ-not : (xs ys : List ℕ) → differ xs ys ≡ false → xs ≡ ys
differ-not [] [] h = refl
differ-not [] (y ∷ ys) h = absurd (true≢false h)
differ-not (x ∷ xs) [] h = absurd (true≢false h)
differ-not (x ∷ xs) (y ∷ ys) h =
    cases (eqb x y)
    (λ t. ap₂ ◌∷◌ (eqb-true x y t) (differ-not xs ys (rw t at h)))
    (λ t. absurd (true≢false (rw t at h)))

-- fields that fit their widths differ where their numbers do
differ-packed : (ws xs ys : List ℕ) → Fit ws xs → Fit ws ys → differ xs ys ≡ not (eqb (pack ws xs) (pack ws ys))
differ-packed ws xs ys f g =
    cases (eqb (pack ws xs) (pack ws ys))
    (λ t. let e : xs ≡ ys = sym (unpack-pack ws xs f) ∙ ap (unpack ws) (eqb-true _ _ t) ∙ unpack-pack ws ys g in
    rw t (ap (λ (l : List ℕ). differ l ys) e ∙ differ-same ys))
    (λ t. cases (differ xs ys)
    (λ d. rw (t, d))
    (λ d. absurd (eqb-false _ _ t (ap (pack ws) (differ-not xs ys d)))))

pub header_judged : (p : List ℕ) → header_wrong p ≡ not (eqb (pack fixed_widths (fixed_of p)) 0x6_0151)
unfolding pack
header_judged p = differ-packed fixed_widths (fixed_of p) fixed_fields (fixed-fit p) (omega arith, (omega arith, (omega arith, (omega arith, (omega arith, (omega arith, tt))))))

-- ---- the parts that the code lends, where the addressing length is a

module _ (p : List ℕ) (a : ℕ) (e : a ≡ addressing_length p) where
  pub crc_part : take (21 + a + 4) p ≡ take (crc_end (addressing_length p)) p
  crc_part = let n : 21 + a + 4 ≡ crc_end (addressing_length p) = omega arith in ap (λ (k : ℕ). take k p) n

  pub stuffing_part : take (length p - (21 + a + 4)) (drop (21 + a + 4) p) ≡ drop (crc_end (addressing_length p)) p
  stuffing_part =
      let n : 21 + a + 4 ≡ crc_end (addressing_length p) = omega arith in
      take_all (length p - (21 + a + 4)) (drop (21 + a + 4) p) (rw (length-drop (21 + a + 4) p) (omega arith)) ∙ ap (λ (k : ℕ). drop k p) n

  pub addressing_part : take (21 + a - 21) (drop 21 p) ≡ addressing_of p
  unfolding addressing_of part
  addressing_part = let n : 21 + a - 21 ≡ addressing_length p = omega arith in ap (λ (k : ℕ). take k (drop 21 p)) n

-- some byte is not 0xFF
pub ones-any : (l : List ℕ) → list_any (λ (b : ℕ). not (eqb b 0xFF)) l ≡ not_all_ones l
ones-any [] = refl
ones-any (b ∷ bs) = cases (eqb b 0xFF) (λ t. rw t (ones-any bs)) (λ t. rw t)

-- ---- what is known of a packet that is read

pub record Readable (p : List ℕ) : Type 0 where
  pub size : length p ≡ 188
  pub sync : sync_of p ≡ 0x47
  pub fixed : fixed_of p ≡ fixed_fields
  pub id : parameter 0 p ≡ 0
  pub section : parameter 1 p ≡ section_of (addressing_length p)
  pub short : addressing_length p ≤ 163
  pub crc : crc_holds (take (crc_end (addressing_length p)) p) ≡ true
  pub stamp : parameter 5 p < second
  pub delay : parameter 6 p < second
  pub stuffing : not_all_ones (drop (crc_end (addressing_length p)) p) ≡ false
  pub fault : (fault_of house (addressing_of p)).refusal ≡ 0

pub section-right : (section addressing : ℕ) → section_wrong section addressing ≡ false → (section ≡ section_of addressing) × (addressing ≤ 163)
section-right s a h =
    cases (ltb 182 s)
    (λ t. absurd (true≢false (rw t at h)))
    (λ t. let e : s ≡ 19 + a = eqb-true _ _ (not-false _ (rw t at h)) in (e, omega (arith, ltb-false 182 s t)))

pub readable : (p : List ℕ) → first (read_checks p) ≡ 0 → Readable p
unfolding read_checks
readable p z =
    let n = none-holds (read_checks p) tt z in
    let s = section-right _ _ n.1.1.1.1.0 in
    let late = n.1.1.1.1.1 in
    record {
      size = eqb-true _ _ (not-false _ n.0);
      sync = eqb-true _ _ (not-false _ n.1.0);
      fixed = differ-not _ _ n.1.1.0;
      id = eqb-true _ _ (not-false _ n.1.1.1.0);
      section = s.0;
      short = s.1;
      crc = not-false _ late.0;
      stamp = leb-false _ _ late.1.0;
      delay = leb-false _ _ late.1.1.0;
      stuffing = late.1.1.1.0;
      fault = not_found _ late.1.1.1.1.0;
    }

-- the addressing data lies within it
pub read_within : (p : List ℕ) → 0 ≡ first (read_checks p) → (length p ≡ 188) × (addressing_length p ≤ 163)
read_within p z = let r = readable p (sym z) in (r.size, r.short)

-- ---- the header and the parameters, from four numbers as code makes them

abbrev pub header_number : Mip → ℕ
header_number m = 0x4760_1510 + m.count

abbrev pub head_number : Mip → ℕ → ℕ
head_number m n = (19 + n) * 2 ^ 32 + (m.pointer * 2 ^ 16 + (flag m.periodic * 2 ^ 15 + m.future))

abbrev pub times_number : Mip → ℕ
times_number m = m.stamp.0 * 2 ^ 24 + m.delay.0

abbrev pub tail_number : Mip → ℕ → ℕ
tail_number m n = m.tps * 2 ^ 8 + n

module _ (m : Mip) (n : ℕ) where
  abbrev head_fields : List ℕ
  head_fields = 0 ∷ section_of n ∷ m.pointer ∷ flag m.periodic ∷ m.future ∷ []

  abbrev times_fields : List ℕ
  times_fields = m.stamp.0 ∷ m.delay.0 ∷ []

  abbrev tail_fields : List ℕ
  tail_fields = m.tps ∷ n ∷ []

  header-packed : pack header (header_fields m) ≡ header_number m
  unfolding pack
  header-packed = omega arith

  head-packed : pack head head_fields ≡ head_number m n
  unfolding pack
  head-packed = omega arith

  times-packed : pack times times_fields ≡ times_number m
  unfolding pack
  times-packed = omega arith

  tail-packed : pack tail tail_fields ≡ tail_number m n
  unfolding pack
  tail-packed = omega arith

  pub lead-numbers : Fit parameters (parameter_fields m n) → lead_bytes m n ≡ bytes 4 (header_number m) ++ (bytes 6 (head_number m n) ++ (bytes 6 (times_number m) ++ bytes 5 (tail_number m n)))
  unfolding lead_bytes
  lead-numbers fit =
      let back = fit.1.1.1.1.1 in
      ap₂ (λ (x : ℕ) (l : List ℕ). bytes 4 x ++ l) header-packed
      (pack-parts head (times ++ tail) head_fields (times_fields ++ tail_fields) 6 11 refl back refl
      ∙ ap₂ (λ (x : ℕ) (l : List ℕ). bytes 6 x ++ l) head-packed
      (pack-parts times tail times_fields tail_fields 6 5 refl back.1.1 refl
      ∙ ap₂ (λ (x y : ℕ). bytes 6 x ++ bytes 5 y) times-packed tail-packed))

  -- no header_field is too wide
  pub wide-fit : field_wide m n ≡ false → Fit header (header_fields m) × Fit parameters (parameter_fields m n)
  unfolding field_wide
  wide-fit h =
      cases (too_wide header (header_fields m))
      (λ t. absurd (true≢false (rw t at h)))
      (λ t. (not-too-wide header (header_fields m) refl t, not-too-wide parameters (parameter_fields m n) refl (rw t at h)))

  pub fit_wide : Fit header (header_fields m) → Fit parameters (parameter_fields m n) → field_wide m n ≡ false
  unfolding field_wide
  fit_wide h f = rw (fit-not-wide header (header_fields m) h) (fit-not-wide parameters (parameter_fields m n) f)

  -- neither section_length nor the addressing length ever is
  pub wide_alike : n ≤ 163 → field_wide m n ≡ field_wide m 0
  unfolding field_wide too_wide
  wide_alike h = rw (lt-ltb (19 + n) 256 (omega arith), lt-ltb n 256 (omega arith))

-- four fields have fewer bits than the types that hold them
flag-lt : (b : Bool) → ltb (flag b) 2 ≡ true
flag-lt true = lt-ltb 1 2 (omega arith)
flag-lt false = lt-ltb 0 2 (omega arith)

over : (w n : ℕ) → ltb (2 ^ w - 1) n ≡ not (ltb n (2 ^ w))
unfolding too_wide
over w n = wide-last w n ∙ cases (ltb n (2 ^ w)) (λ t. rw t) (λ t. rw t)

some-wide : (a b c d : Bool) → (not a || not b || not c || not d) ≡ cond (cond a false true) true (cond b (cond c (cond d false true) true) true)
some-wide false b c d = refl
some-wide true false c d = refl
some-wide true true false d = refl
some-wide true true true false = refl
some-wide true true true true = refl

pub wide-four : (m : Mip) → m.pointer < 2 ^ 16 → m.tps < 2 ^ 32 → (ltb 15 m.count || ltb 0x7fff m.future || ltb 0xff_ffff m.stamp.0 || ltb 0xff_ffff m.delay.0) ≡ field_wide m 0
unfolding field_wide too_wide
wide-four m p t =
    rw (over 4 m.count, over 15 m.future, over 24 m.stamp.0, over 24 m.delay.0, lt-ltb m.pointer (2 ^ 16) p, flag-lt m.periodic, lt-ltb m.tps (2 ^ 32) t)
    (some-wide (ltb m.count 16) (ltb m.future (2 ^ 15)) (ltb m.stamp.0 (2 ^ 24)) (ltb m.delay.0 (2 ^ 24)))

-- ---- what is known of fields and addressing data that are written

pub record Writable (m : Mip) (d out : List ℕ) : Type 0 where
  pub short : length d ≤ 163
  pub header : Fit header (header_fields m)
  pub fit : Fit parameters (parameter_fields m (length d))
  pub stamp : m.stamp.0 < second
  pub delay : m.delay.0 < second
  pub fault : (fault_of house d).refusal ≡ 0
  pub room : 188 ≤ length out

pub writable : (m : Mip) (d out : List ℕ) → first (write_checks m d (length out)) ≡ 0 → Writable m d out
unfolding write_checks
writable m d out z =
    let n = none-holds (write_checks m d (length out)) tt z in
    let f = wide-fit m (length d) n.1.0 in
    record {
      short = ltb-false _ _ n.0;
      header = f.0;
      fit = f.1;
      stamp = leb-false _ _ n.1.1.0;
      delay = leb-false _ _ n.1.1.1.0;
      fault = not_found _ n.1.1.1.1.0;
      room = ltb-false _ _ n.1.1.1.1.1.0;
    }
