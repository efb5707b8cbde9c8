-- The two round trips of a MIP: reading what was written gives the fields and the addressing data, and writing what was read
-- gives the packet.
-- Assumes nothing.
use mathlib.Core.Path.{◌≡◌, refl, sym, ap, ap₂, ◌∙◌, subst}
use mathlib.Core.Bool.{Bool, true, false, not}
use mathlib.Core.List.{List, [], ◌∷◌, ◌++◌, append_assoc}
use Prim.Native.Nat.{ℕ, zero, suc, ◌+◌, ◌-◌, ◌≤◌, ◌<◌}
use native.Mathlib.Omega.{arith}
use lib.Dec.{eqb, leb}
use lib.ListN.{length, get_or, take, drop, replicate, length-drop, take-append-drop}
use lib.Seq.{length-take-le, take-take, take_at, drop_at}
use borrow.Author.Tests.{le-ltb, lt-leb, eq-eqb, eqb-true, eqb-false}
use Rattle.addressing.specs.Data.{house, fault_of}
use Rattle.crc.specs.Crc.{crc_of, crc_holds}
use Rattle.crc.specs.Sealed.{sealed}
use Rattle.crc.proofs.OwnLaws.{sealed-append, holds-own, holds-only}
use Rattle.fields.specs.Formats.{pack, unpack, Fit}
use Rattle.fields.specs.Numbers.{Bytes, number, bytes}
use Rattle.fields.specs.Parts.{part, overlay}
use Rattle.fields.proofs.ByteFormatLaws.{unpack-bytes, pack-bytes}
use Rattle.fields.proofs.Cases.{cases, true≢false}
use Rattle.fields.proofs.FormatLaws.{unpack-fit}
use Rattle.fields.proofs.NumberLaws.{bytes_take, length-bytes}
use Rattle.fields.proofs.PartLaws.{length_part, part_bytes, part-add, part-front, part-behind, take-front}
use Rattle.refusals.specs.Checks.{first}
use Rattle.refusals.proofs.CheckLaws.{first-zero}
use Rattle.transport.specs.Header.{header, count_of}
use Rattle.mip.proofs.FieldLaws.{header_of, header-listed, Readable, readable, Writable, writable, fit_wide}
use Rattle.mip.proofs.Operations.{read-shows, read-accepted, data-accepted, write-shows, length-lead, length-end, length-mip, write-accepted}
use Rattle.mip.specs.Layout.{fixed_fields, parameters, parameters_of, crc_end, second}
use Rattle.mip.specs.Read.{parameter, addressing_length, addressing_of, differ, header_wrong, section_wrong, not_all_ones, read_checks, mip_of, read_of, addressing_read}
use Rattle.mip.specs.Write.{flag, header_fields, parameter_fields, lead_bytes, front_bytes, mip_bytes, write_checks, write_of}
use Rattle.mip.specs.declared.Mip.{Mip}

-- ---- stuffing

ones-right : (n : ℕ) → not_all_ones (replicate n 0xFF) ≡ false
ones-right zero = refl
ones-right (suc n) = ones-right n

ones-only : (l : List ℕ) → not_all_ones l ≡ false → l ≡ replicate (length l) 0xFF
ones-only [] h = refl
ones-only (b ∷ l) h =
    cases (eqb b 0xFF)
    (λ t. ap₂ ◌∷◌ (eqb-true b 0xFF t) (ones-only l (rw t at h)))
    (λ t. absurd (true≢false (rw t at h)))

-- ---- reading what was written

bit-flag : (b : Bool) → eqb (flag b) 1 ≡ b
bit-flag true = eq-eqb 1 1 refl
bit-flag false = refl

module _ (m : Mip) (d out : List ℕ) (w : Writable m d out) where
  abbrev s : List ℕ
  s = mip_bytes m d

  abbrev header4 : List ℕ
  header4 = bytes 4 (pack header (header_fields m))

  abbrev parameters17 : List ℕ
  parameters17 = bytes 17 (pack parameters (parameter_fields m (length d)))

  abbrev crc4 : List ℕ
  crc4 = bytes 4 (crc_of (front_bytes m d))

  abbrev stuffing : List ℕ
  stuffing = replicate (188 - crc_end (length d)) 0xFF

  behind : mip_bytes m d ≡ lead_bytes m (length d) ++ (d ++ (crc4 ++ stuffing))
  unfolding mip_bytes front_bytes
  behind =
      ap (λ (l : List ℕ). l ++ stuffing) (sealed-append (lead_bytes m (length d)) d)
      ∙ append_assoc (lead_bytes m (length d)) (d ++ crc4) stuffing
      ∙ ap (λ (l : List ℕ). lead_bytes m (length d) ++ l) (append_assoc d crc4 stuffing)

  pieces : mip_bytes m d ≡ header4 ++ (parameters17 ++ (d ++ (crc4 ++ stuffing)))
  unfolding lead_bytes
  pieces = behind ∙ append_assoc header4 parameters17 (d ++ (crc4 ++ stuffing))

  header-back : header_of s ≡ header_fields m
  header-back =
      header-listed s (rw (length-mip m d w.short) (omega arith))
      ∙ ap (λ (l : List ℕ). unpack header (number l)) (ap (part 0 4) pieces ∙ part-front header4 (parameters17 ++ (d ++ (crc4 ++ stuffing))) 4 (length-bytes 4 _))
      ∙ unpack-bytes header (header_fields m) 4 refl w.header

  parameters-back : parameters_of s ≡ parameter_fields m (length d)
  unfolding parameters_of
  parameters-back =
      ap (λ (l : List ℕ). unpack parameters (number l))
      (ap (part 4 17) pieces ∙ part-behind header4 (parameters17 ++ (d ++ (crc4 ++ stuffing))) 4 17 (length-bytes 4 _) ∙ take_at parameters17 (d ++ (crc4 ++ stuffing)) 17 (length-bytes 17 _))
      ∙ unpack-bytes parameters (parameter_fields m (length d)) 17 refl w.fit

  parameter-is : (i : ℕ) → parameter i s ≡ get_or (parameter_fields m (length d)) i 0
  parameter-is i = ap (λ (l : List ℕ). get_or l i 0) parameters-back

  length_back : addressing_length s ≡ length d
  length_back = parameter-is 8

  data-back : addressing_of s ≡ d
  unfolding addressing_of
  data-back =
      ap (λ (n : ℕ). part 21 n s) length_back
      ∙ ap (part 21 (length d)) behind
      ∙ part-behind (lead_bytes m (length d)) (d ++ (crc4 ++ stuffing)) 21 (length d) (length-lead m (length d))
      ∙ take_at d (crc4 ++ stuffing) (length d) refl

  mip-back : mip_of s ≡ m
  unfolding mip_of
  mip-back =
      let count : count_of s ≡ m.count = ap (λ (l : List ℕ). get_or l 7 0) header-back in
      rw (count, parameters-back, bit-flag m.periodic)

  -- up to the CRC's end, and from there on
  abbrev end : ℕ
  end = crc_end (length d)

  crc-holds : crc_holds (take (crc_end (addressing_length s)) s) ≡ true
  unfolding mip_bytes
  crc-holds =
      ap (λ (n : ℕ). crc_holds (take (crc_end n) s)) length_back
      ∙ ap crc_holds (take_at (sealed (front_bytes m d)) stuffing end (length-end m d))
      ∙ holds-own (front_bytes m d)

  stuffing-right : not_all_ones (drop (crc_end (addressing_length s)) s) ≡ false
  unfolding mip_bytes
  stuffing-right =
      ap (λ (n : ℕ). not_all_ones (drop (crc_end n) s)) length_back
      ∙ ap not_all_ones (drop_at (sealed (front_bytes m d)) stuffing end (length-end m d))
      ∙ ones-right (188 - end)

  header-right : header_wrong s ≡ false
  header-right = ap (λ (l : List ℕ). differ (take 6 (drop 1 l)) fixed_fields) header-back

  section-fits : section_wrong (parameter 1 s) (addressing_length s) ≡ false
  section-fits =
      ap₂ section_wrong (parameter-is 1) length_back
      ∙ rw (le-ltb 182 (19 + length d) (omega (arith, w.short)), eq-eqb (19 + length d) (19 + length d) refl)

  passes : first (read_checks s) ≡ 0
  unfolding read_checks
  passes =
      first-zero (read_checks s) (
        ap not (eq-eqb _ _ (length-mip m d w.short)),
        (
          ap not (eq-eqb _ _ (ap (λ (l : List ℕ). get_or l 0 0) header-back)),
          (
            header-right,
            (
              ap not (eq-eqb _ _ (parameter-is 0)),
              (
                section-fits,
                (
                  ap not crc-holds,
                  (
                    ap (leb second) (parameter-is 5) ∙ lt-leb _ _ w.stamp,
                    (
                      ap (leb second) (parameter-is 6) ∙ lt-leb _ _ w.delay,
                      (stuffing-right, (ap not (eq-eqb _ _ (ap (λ (l : List ℕ). (fault_of house l).refusal) data-back ∙ w.fault)), tt)),
                    ),
                  ),
                ),
              ),
            ),
          ),
        ),
      )

  reads : read_of s ≡ record { refusal = 0; addressing = length d; mip = m }
  reads = read-accepted s passes ∙ ap₂ (λ (n : ℕ) (x : Mip). record { refusal = 0; addressing = n; mip = x }) length_back mip-back

  reads-data : addressing_read s ≡ d
  reads-data = data-accepted s passes ∙ data-back

pub record ReadsBack (m : Mip) (d p : List ℕ) : Type 0 where
  pub fields : read_of p ≡ record { refusal = 0; addressing = length d; mip = m }
  pub addressing : addressing_read p ≡ d

-- THE FIRST ROUND TRIP: where a write is accepted, its bytes are read as the same fields and addressing data
pub read-written : (m : Mip) (d out : List ℕ) → (write_of m d out).answer.refusal ≡ 0
    → ReadsBack m d (take (write_of m d out).answer.bytes (write_of m d out).out)
read-written m d out e =
    let z : first (write_checks m d (length out)) ≡ 0 = sym (write-shows m d out) ∙ e in
    let w : Writable m d out = writable m d out z in
    let t : take 188 (overlay 0 (mip_bytes m d) out) ≡ mip_bytes m d = rw (length-mip m d w.short) at (take-front (mip_bytes m d) out) in
    rw (write-accepted m d out z, t) (record { fields = reads m d out w; addressing = reads-data m d out w })

-- ---- writing what was read

flag-bit : (n : ℕ) → n < 2 → flag (eqb n 1) ≡ n
flag-bit n h =
    cases (eqb n 1)
    (λ t. rw t (sym (eqb-true n 1 t)))
    (λ t. rw t (omega (arith, eqb-false n 1 t)))

module _ (p : List ℕ) (b : Bytes p) (r : Readable p) where
  abbrev a : ℕ
  a = addressing_length p

  length-data : length (addressing_of p) ≡ a
  unfolding addressing_of
  length-data = length_part 21 a p (omega (arith, r.size, r.short))

  -- the fields with the fixed ones in their places are all the fields
  header-same : header_of p ≡ header_fields (mip_of p)
  unfolding mip_of
  header-same = ap₂ (λ (x : ℕ) (l : List ℕ). x ∷ (l ++ (count_of p ∷ []))) r.sync r.fixed

  listed : unpack header (number (part 0 4 p)) ≡ header_fields (mip_of p)
  listed = sym (header-listed p (rw r.size (omega arith))) ∙ header-same

  parameters-listed : parameters_of p ≡ parameter 0 p ∷ parameter 1 p ∷ parameter 2 p ∷ parameter 3 p ∷ parameter 4 p ∷ parameter 5 p ∷ parameter 6 p ∷ parameter 7 p ∷ a ∷ []
  unfolding parameters_of unpack
  parameters-listed = refl

  header-fit : Fit header (header_fields (mip_of p))
  header-fit = subst (Fit header) listed (unpack-fit header (number (part 0 4 p)))

  periodic-small : parameter 3 p < 2
  unfolding parameters_of unpack
  periodic-small = (unpack-fit parameters (number (part 4 17 p))).1.1.1.0

  parameters-same : parameters_of p ≡ parameter_fields (mip_of p) (length (addressing_of p))
  unfolding mip_of
  parameters-same = parameters-listed ∙ rw (r.id, r.section, length-data, flag-bit (parameter 3 p) periodic-small)

  parameters-fit : Fit parameters (parameter_fields (mip_of p) (length (addressing_of p)))
  unfolding parameters_of
  parameters-fit = subst (Fit parameters) parameters-same (unpack-fit parameters (number (part 4 17 p)))

  lead-same : lead_bytes (mip_of p) (length (addressing_of p)) ≡ part 0 21 p
  unfolding lead_bytes parameters_of
  lead-same =
      ap₂ ◌++◌
      (ap (λ (l : List ℕ). bytes 4 (pack header l)) (sym listed)
      ∙ pack-bytes header (part 0 4 p) 4 (part_bytes 0 4 p b) (length_part 0 4 p (omega (arith, r.size))) refl)
      (ap (λ (l : List ℕ). bytes 17 (pack parameters l)) (sym parameters-same)
      ∙ pack-bytes parameters (part 4 17 p) 17 (part_bytes 4 17 p b) (length_part 4 17 p (omega (arith, r.size))) refl)
      ∙ sym (part-add 0 4 17 p)

  front_same : front_bytes (mip_of p) (addressing_of p) ≡ take (21 + a) p
  unfolding front_bytes addressing_of
  front_same = ap (λ (l : List ℕ). l ++ part 21 a p) lead-same ∙ sym (part-add 0 21 a p) ∙ unfold part in refl

  sealed-same : sealed (front_bytes (mip_of p) (addressing_of p)) ≡ take (crc_end a) p
  sealed-same =
      let long : length (take (crc_end a) p) ≡ 21 + a + 4 = length-take-le (crc_end a) p (omega (arith, r.size, r.short)) ∙ omega arith in
      ap sealed (front_same ∙ sym (take-take (21 + a) (crc_end a) p (omega arith)))
      ∙ holds-only (21 + a) (take (crc_end a) p) (bytes_take (crc_end a) p b) long r.crc

  stuffing-same : drop (crc_end a) p ≡ replicate (188 - crc_end a) 0xFF
  stuffing-same =
      ones-only (drop (crc_end a) p) r.stuffing ∙ ap (λ (n : ℕ). replicate n 0xFF) (length-drop (crc_end a) p ∙ ap (λ (n : ℕ). n - crc_end a) r.size)

  packet-same : mip_bytes (mip_of p) (addressing_of p) ≡ p
  unfolding mip_bytes
  packet-same =
      ap₂ ◌++◌ sealed-same (ap (λ (n : ℕ). replicate (188 - crc_end n) 0xFF) length-data ∙ sym stuffing-same)
      ∙ take-append-drop (crc_end a) p

  passes-write : (out : List ℕ) → 188 ≤ length out → first (write_checks (mip_of p) (addressing_of p) (length out)) ≡ 0
  unfolding write_checks mip_of
  passes-write out h =
      first-zero (write_checks (mip_of p) (addressing_of p) (length out)) (
        le-ltb 163 (length (addressing_of p)) (rw length-data r.short),
        (
          fit_wide (mip_of p) (length (addressing_of p)) header-fit parameters-fit,
          (
            lt-leb _ _ r.stamp,
            (
              lt-leb _ _ r.delay,
              (ap not (eq-eqb _ _ r.fault), (le-ltb (length out) 188 h, tt)),
            ),
          ),
        ),
      )

-- THE SECOND ROUND TRIP: what is read from a packet is written as the same 188 bytes
pub written_read : (p out : List ℕ) → Bytes p → (read_of p).refusal ≡ 0 → 188 ≤ length out
    → write_of (read_of p).mip (addressing_read p) out ≡ record { answer = record { refusal = 0; bytes = 188 }; out = overlay 0 p out }
written_read p out b e h =
    let z : first (read_checks p) ≡ 0 = sym (read-shows p) ∙ e in
    let r : Readable p = readable p z in
    rw (read-accepted p z, data-accepted p z)
    (write-accepted (mip_of p) (addressing_of p) out (passes-write p b r out h) ∙ rw (packet-same p b r))
