-- The two round trips of a T2-MI packet: reading what was written gives the fields and the payload, and writing what was
-- read gives the bytes.
-- Assumes nothing.
use Rattle.std.proofs.Common.{◌≡◌, ℕ, ◌+◌, ◌^◌, ◌<◌, ◌≤◌, true, not, List, [], ◌∷◌, ◌++◌, length, get_or, take, sym, refl, ap, ◌∙◌, subst, ap₂, arith, length-append, take_at, le-ltb, eq-eqb}
use Rattle.crc.specs.Crc.{crc_of, crc_holds}
use Rattle.crc.specs.Sealed.{sealed}
use Rattle.crc.proofs.OwnLaws.{length-sealed, bytes-sealed, sealed-append, holds-own, holds-only}
use Rattle.fields.specs.Formats.{pack, unpack, Fit}
use Rattle.fields.specs.Numbers.{Bytes, number, bytes}
use Rattle.fields.specs.Parts.{part, number_at, overlay}
use Rattle.fields.proofs.FormatLaws.{pack-lt, pack-unpack, unpack-pack, unpack-fit, fit-not-wide}
use Rattle.fields.proofs.NumberLaws.{number-bytes, number_lt, bytes-number, length-bytes, bytes-are, bytes-append}
use Rattle.fields.proofs.PartLaws.{number-at, length_part, part_bytes, part-add, part-front, part-behind, take-front}
use Rattle.std.specs.Prelude.{Err}
use Rattle.refusals.specs.Checks.{first}
use Rattle.refusals.specs.Refusals.{number_of}
use Rattle.refusals.specs.declared.Refusal.{Refusal}
use Rattle.refusals.proofs.CheckLaws.{first-zero}
use Rattle.refusals.proofs.AnswerLaws.{answer-told, answer-accepted, answer-refused, answer-shows, written-accepted, written-refused, written-shows}
use Rattle.packet.proofs.FieldLaws.{size-field, Readable, readable, Writable, writable}
use Rattle.packet.specs.Layout.{header, reserved_type, payload_bytes, total_of, pad_set, size_of}
use Rattle.packet.specs.Read.{field, header_of, payload_of, read_checks, no_header, packet_told, read_of, payload_read}
use Rattle.packet.specs.Write.{fields_of, front_bytes, packet_bytes, write_checks, write_of}
use Rattle.packet.specs.declared.Header.{Header}
use Rattle.packet.specs.Read.{Packet}

-- ---- what the two operations show

pub read-shows : (s : List ℕ) → (read_of s).refusal ≡ first (read_checks s)
unfolding read_of
read-shows s = answer-shows (read_checks s) _ _ (λ (p : Packet). p.refusal) (λ n. refl) refl

-- what a refusal gives
pub read-told : (s : List ℕ) (e : Refusal) → number_of e ≡ first (read_checks s) → packet_told (Err e) ≡ read_of s
unfolding read_of
read-told s e h = answer-told (read_checks s) _ _ e h

pub read-accepted : (s : List ℕ) → first (read_checks s) ≡ 0 → read_of s ≡ record { refusal = 0; header = header_of s }
unfolding read_of
read-accepted s h = answer-accepted (read_checks s) _ _ h

pub payload-accepted : (s : List ℕ) → first (read_checks s) ≡ 0 → payload_read s ≡ payload_of s
unfolding payload_read
payload-accepted s h = answer-accepted (read_checks s) _ _ h

pub write-shows : (h : Header) (payload out : List ℕ) → (write_of h payload out).answer.refusal ≡ first (write_checks h payload (length out))
unfolding write_of
write-shows h payload out = written-shows (write_checks h payload (length out)) (packet_bytes h payload) out

pub write-accepted : (h : Header) (payload out : List ℕ) → first (write_checks h payload (length out)) ≡ 0
    → write_of h payload out ≡ record { answer = record { refusal = 0; bytes = length (packet_bytes h payload) }; out = overlay 0 (packet_bytes h payload) out }
unfolding write_of
write-accepted h payload out e = written-accepted (write_checks h payload (length out)) (packet_bytes h payload) out e

-- a refusal gives zeros, and leaves the output as it was
pub read-refused : (s : List ℕ) → (first (read_checks s) ≡ 0 → ⊥) → (read_of s ≡ record { refusal = first (read_checks s); header = no_header }) × (payload_read s ≡ [])
unfolding read_of payload_read
read-refused s h = (answer-refused (read_checks s) _ _ h, answer-refused (read_checks s) _ _ h)

pub write-refused : (h : Header) (payload out : List ℕ) → (first (write_checks h payload (length out)) ≡ 0 → ⊥)
    → write_of h payload out ≡ record { answer = record { refusal = first (write_checks h payload (length out)); bytes = 0 }; out = out }
unfolding write_of
write-refused h payload out e = written-refused (write_checks h payload (length out)) (packet_bytes h payload) out e

-- ---- reading what was written

module _ (h : Header) (payload : List ℕ) where
  abbrev front : List ℕ
  front = bytes 6 (pack header (fields_of h))

  abbrev crc4 : List ℕ
  crc4 = bytes 4 (crc_of (front_bytes h payload))

  -- the header's six bytes, the payload, the four of the CRC
  three : packet_bytes h payload ≡ front ++ (payload ++ crc4)
  unfolding packet_bytes front_bytes
  three = sealed-append front payload

  pub length_front : length (front_bytes h payload) ≡ 6 + length payload
  unfolding front_bytes
  length_front = length-append front payload ∙ ap (λ (k : ℕ). k + length payload) (length-bytes 6 _)

  pub length-packet : length (packet_bytes h payload) ≡ 10 + length payload
  unfolding packet_bytes
  length-packet = length-sealed (front_bytes h payload) ∙ omega (arith, length_front)

  packet-bytes : Bytes payload → Bytes (packet_bytes h payload)
  unfolding packet_bytes front_bytes
  packet-bytes b = bytes-sealed (front ++ payload) (bytes-append front payload (bytes-are 6 _) b)

  crc-holds : crc_holds (packet_bytes h payload) ≡ true
  unfolding packet_bytes
  crc-holds = holds-own (front_bytes h payload)

  payload-back : (n : ℕ) → length payload ≡ n → part 6 n (packet_bytes h payload) ≡ payload
  payload-back n e =
      ap (part 6 n) three ∙ part-behind front (payload ++ crc4) 6 n (length-bytes 6 _) ∙ take_at payload crc4 n e

  fields_back : Fit header (fields_of h) → unpack header (number_at 0 6 (packet_bytes h payload)) ≡ fields_of h
  fields_back fit =
      ap (unpack header)
      (number-at 0 6 (packet_bytes h payload) (rw length-packet (omega arith)) (omega arith)
      ∙ ap number (ap (part 0 6) three ∙ part-front front (payload ++ crc4) 6 (length-bytes 6 _))
      ∙ number-bytes 6 (pack header (fields_of h)) (pack-lt header (fields_of h) fit))
      ∙ unpack-pack header (fields_of h) fit

  module _ (out : List ℕ) (b : Bytes payload) (w : Writable h payload out) where
    abbrev s : List ℕ
    s = packet_bytes h payload

    at : (i : ℕ) → field i s ≡ get_or (fields_of h) i 0
    at i = ap (λ (l : List ℕ). get_or l i 0) (fields_back w.fit)

    payload_same : payload_of s ≡ payload
    unfolding payload_of
    payload_same = rw (at 5) (payload-back (payload_bytes h.bits) w.size)

    size_same : length s ≡ size_of s
    size_same =
        length-packet ∙ ap (λ (k : ℕ). 10 + k) w.size
        ∙ sym (size-field s (packet-bytes b) (rw length-packet (omega arith)) ∙ ap total_of (at 5))

    passes : first (read_checks s) ≡ 0
    unfolding read_checks
    passes =
        first-zero (read_checks s) (
          le-ltb (length s) 10 (rw length-packet (omega arith)),
          (
            ap not (eq-eqb _ _ size_same),
            (
              ap not crc-holds,
              (
                ap not (eq-eqb _ _ (at 3)),
                (
                  ap reserved_type (at 0) ∙ w.kind,
                  (ap₂ pad_set (at 5) payload_same ∙ w.pad, tt),
                ),
              ),
            ),
          ),
        )

    reads : read_of s ≡ record { refusal = 0; header = h }
    unfolding read_of header_of
    reads = answer-accepted (read_checks s) _ _ passes ∙ rw (fields_back w.fit)

    reads-payload : payload_read s ≡ payload
    unfolding payload_read
    reads-payload = answer-accepted (read_checks s) _ _ passes ∙ payload_same

pub record ReadsBack (h : Header) (payload s : List ℕ) : Type 0 where
  pub fields : read_of s ≡ record { refusal = 0; header = h }
  pub bytes : payload_read s ≡ payload

-- THE FIRST ROUND TRIP: where a write is accepted, its bytes are read as the same fields and payload
pub read-written : (h : Header) (payload out : List ℕ) → Bytes payload → (write_of h payload out).answer.refusal ≡ 0
    → ReadsBack h payload (take (write_of h payload out).answer.bytes (write_of h payload out).out)
read-written h payload out b e =
    let z : first (write_checks h payload (length out)) ≡ 0 = sym (write-shows h payload out) ∙ e in
    let w : Writable h payload out = writable h payload out z in
    rw (write-accepted h payload out z, take-front (packet_bytes h payload) out)
    (record { fields = reads h payload out b w; bytes = reads-payload h payload out b w })

-- ---- writing what was read

module _ (s : List ℕ) (b : Bytes s) (r : Readable s) where
  abbrev n : ℕ
  n = payload_bytes (field 5 s)

  size-same' : length s ≡ 10 + n
  size-same' = r.size ∙ size-field s b (omega (arith, r.long))

  -- the fields without the reserved bits are all the fields
  fields-same : fields_of (header_of s) ≡ unpack header (number_at 0 6 s)
  unfolding header_of unpack
  fields-same =
      ap (λ (x : ℕ). field 0 s ∷ field 1 s ∷ field 2 s ∷ x ∷ field 4 s ∷ field 5 s ∷ []) (sym r.reserved)

  fit_same : Fit header (fields_of (header_of s))
  fit_same = subst (Fit header) (sym fields-same) (unpack-fit header (number_at 0 6 s))

  number-six : number_at 0 6 s ≡ number (part 0 6 s)
  number-six = number-at 0 6 s (omega (arith, r.long)) (omega arith)

  length-six : length (part 0 6 s) ≡ 6
  length-six = length_part 0 6 s (omega (arith, r.long))

  six-lt : number_at 0 6 s < 2 ^ 48
  six-lt = rw number-six (rw length-six at (number_lt (part 0 6 s) (part_bytes 0 6 s b)))

  head-same : bytes 6 (pack header (fields_of (header_of s))) ≡ part 0 6 s
  head-same =
      ap (λ (l : List ℕ). bytes 6 (pack header l)) fields-same
      ∙ ap (bytes 6) (pack-unpack header (number_at 0 6 s) six-lt ∙ number-six)
      ∙ ap (λ (k : ℕ). bytes k (number (part 0 6 s))) (sym length-six)
      ∙ bytes-number (part 0 6 s) (part_bytes 0 6 s b)

  front_same : front_bytes (header_of s) (payload_of s) ≡ take (6 + n) s
  unfolding front_bytes payload_of
  front_same = ap (λ (l : List ℕ). l ++ part 6 n s) head-same ∙ sym (part-add 0 6 n s) ∙ unfold part in refl

  packet-same : packet_bytes (header_of s) (payload_of s) ≡ s
  unfolding packet_bytes
  packet-same = ap sealed front_same ∙ holds-only (6 + n) s b (size-same' ∙ omega arith) r.crc

  passes-write : (out : List ℕ) → length s ≤ length out → first (write_checks (header_of s) (payload_of s) (length out)) ≡ 0
  unfolding write_checks header_of payload_of
  passes-write out h =
      first-zero (write_checks (header_of s) (payload_of s) (length out)) (
        r.kind,
        (
          fit-not-wide header (fields_of (header_of s)) fit_same,
          (
            ap not (eq-eqb _ _ (length_part 6 n s (omega (arith, size-same')))),
            (
              r.pad,
              (le-ltb (length out) (10 + n) (omega (arith, size-same')), tt),
            ),
          ),
        ),
      )

-- THE SECOND ROUND TRIP: what is read from a slice is written as the same bytes
pub written_read : (s out : List ℕ) → Bytes s → (read_of s).refusal ≡ 0 → length s ≤ length out
    → write_of (read_of s).header (payload_read s) out ≡ record { answer = record { refusal = 0; bytes = length s }; out = overlay 0 s out }
written_read s out b e h =
    let z : first (read_checks s) ≡ 0 = sym (read-shows s) ∙ e in
    let r : Readable s = readable s z in
    rw (read-accepted s z, payload-accepted s z)
    (write-accepted (header_of s) (payload_of s) out (passes-write s b r out h) ∙ rw (packet-same s b r))
