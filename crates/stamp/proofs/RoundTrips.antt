-- The two round trips of a timestamp payload: reading what was written gives the stamp, and writing what was read gives
-- the bytes. The null stamp is read at every bandwidth code.
-- Assumes nothing.
use mathlib.Core.Path.{◌≡◌, refl, sym, ap, ◌∙◌, subst}
use mathlib.Core.Bool.{false, not}
use mathlib.Core.List.{List, [], ◌∷◌}
use Prim.Native.Nat.{ℕ, ◌^◌, ◌≤◌, ◌<◌}
use lib.ListN.{length, get_or, take}
use borrow.Author.Tests.{le-ltb, eq-eqb}
use Rattle.fields.specs.Formats.{pack, unpack, Fit}
use Rattle.fields.specs.Numbers.{Bytes, number, bytes}
use Rattle.fields.specs.Parts.{overlay}
use Rattle.fields.proofs.FormatLaws.{pack-lt, pack-unpack, unpack-pack, unpack-fit, fit-not-wide}
use Rattle.fields.proofs.NumberLaws.{number-bytes, number_lt, bytes-number, length-bytes}
use Rattle.fields.proofs.PartLaws.{take-front}
use Rattle.refusals.specs.Checks.{first}
use Rattle.refusals.proofs.CheckLaws.{first-zero}
use Rattle.refusals.proofs.AnswerLaws.{answer-accepted, answer-refused, answer-shows, written-accepted, written-refused, written-shows}
use Rattle.stamp.proofs.FieldLaws.{Readable, readable, Writable, writable}
use Rattle.stamp.specs.Layout.{format, bandwidth_over, second_reached}
use Rattle.stamp.specs.Read.{field, stamp_of, read_checks, no_stamp, read_of}
use Rattle.stamp.specs.Write.{fields_of, stamp_bytes, write_checks, write_of}
use Rattle.stamp.specs.declared.Stamp.{Stamp}
use Rattle.stamp.specs.Read.{StampRead}

-- ---- what the two operations show

pub read-shows : (payload : List ℕ) → (read_of payload).refusal ≡ first (read_checks payload)
unfolding read_of
read-shows payload = answer-shows (read_checks payload) _ _ (λ (r : StampRead). r.refusal) (λ n. refl) refl

pub read-accepted : (payload : List ℕ) → first (read_checks payload) ≡ 0 → read_of payload ≡ record { refusal = 0; stamp = stamp_of payload }
unfolding read_of
read-accepted payload h = answer-accepted (read_checks payload) _ _ h

pub write-shows : (s : Stamp) (out : List ℕ) → (write_of s out).answer.refusal ≡ first (write_checks s (length out))
unfolding write_of
write-shows s out = written-shows (write_checks s (length out)) (stamp_bytes s) out

pub length-stamp : (s : Stamp) → length (stamp_bytes s) ≡ 11
unfolding stamp_bytes
length-stamp s = length-bytes 11 _

pub write-accepted : (s : Stamp) (out : List ℕ) → first (write_checks s (length out)) ≡ 0
    → write_of s out ≡ record { answer = record { refusal = 0; bytes = 11 }; out = overlay 0 (stamp_bytes s) out }
unfolding write_of
write-accepted s out h =
    written-accepted (write_checks s (length out)) (stamp_bytes s) out h ∙ rw (length-stamp s)

-- a refusal gives zeros, and leaves the output as it was
pub read-refused : (payload : List ℕ) → (first (read_checks payload) ≡ 0 → ⊥)
    → read_of payload ≡ record { refusal = first (read_checks payload); stamp = no_stamp }
unfolding read_of
read-refused payload h = answer-refused (read_checks payload) _ _ h

pub write-refused : (s : Stamp) (out : List ℕ) → (first (write_checks s (length out)) ≡ 0 → ⊥)
    → write_of s out ≡ record { answer = record { refusal = first (write_checks s (length out)); bytes = 0 }; out = out }
unfolding write_of
write-refused s out h = written-refused (write_checks s (length out)) (stamp_bytes s) out h

-- ---- reading what was written

module _ (s : Stamp) (fit : Fit format (fields_of s)) where
  fields_back : unpack format (number (stamp_bytes s)) ≡ fields_of s
  unfolding stamp_bytes
  fields_back =
      ap (unpack format) (number-bytes 11 (pack format (fields_of s)) (pack-lt format (fields_of s) fit))
      ∙ unpack-pack format (fields_of s) fit

  stamp-back : stamp_of (stamp_bytes s) ≡ s
  unfolding stamp_of
  stamp-back = rw fields_back

  pub reads : bandwidth_over s ≡ false → second_reached s ≡ false → read_of (stamp_bytes s) ≡ record { refusal = 0; stamp = s }
  unfolding read_checks
  reads w v =
      read-accepted (stamp_bytes s)
      (first-zero (read_checks (stamp_bytes s)) (
        ap not (eq-eqb _ _ (length-stamp s)),
        (
          ap not (eq-eqb _ _ (ap (λ (l : List ℕ). get_or l 0 0) fields_back)),
          (ap bandwidth_over stamp-back ∙ w, (ap second_reached stamp-back ∙ v, tt)),
        ),
      ))
      ∙ rw stamp-back

-- THE FIRST ROUND TRIP: where a write is accepted, its bytes are read as the same stamp
pub read-written : (s : Stamp) (out : List ℕ) → (write_of s out).answer.refusal ≡ 0
    → read_of (take (write_of s out).answer.bytes (write_of s out).out) ≡ record { refusal = 0; stamp = s }
read-written s out e =
    let z : first (write_checks s (length out)) ≡ 0 = sym (write-shows s out) ∙ e in
    let w : Writable s out = writable s out z in
    let t : take 11 (overlay 0 (stamp_bytes s) out) ≡ stamp_bytes s = rw (length-stamp s) at (take-front (stamp_bytes s) out) in
    rw (write-accepted s out z, t) (reads s w.fit w.bandwidth w.second)

-- ---- writing what was read

module _ (payload : List ℕ) (b : Bytes payload) (r : Readable payload) where
  -- the fields without the reserved bits are all the fields
  fields-same : fields_of (stamp_of payload) ≡ unpack format (number payload)
  unfolding stamp_of unpack
  fields-same =
      ap (λ (x : ℕ). x ∷ field 1 payload ∷ field 2 payload ∷ field 3 payload ∷ field 4 payload ∷ []) (sym r.reserved)

  fit_same : Fit format (fields_of (stamp_of payload))
  fit_same = subst (Fit format) (sym fields-same) (unpack-fit format (number payload))

  bytes_same : stamp_bytes (stamp_of payload) ≡ payload
  unfolding stamp_bytes
  bytes_same =
      let small : number payload < 2 ^ 88 = rw r.size at (number_lt payload b) in
      ap (λ (l : List ℕ). bytes 11 (pack format l)) fields-same
      ∙ ap (bytes 11) (pack-unpack format (number payload) small)
      ∙ ap (λ (k : ℕ). bytes k (number payload)) (sym r.size)
      ∙ bytes-number payload b

  passes-write : (out : List ℕ) → 11 ≤ length out → first (write_checks (stamp_of payload) (length out)) ≡ 0
  unfolding write_checks
  passes-write out h =
      first-zero (write_checks (stamp_of payload) (length out)) (
        r.bandwidth,
        (fit-not-wide format (fields_of (stamp_of payload)) fit_same, (r.second, (le-ltb (length out) 11 h, tt))),
      )

-- THE SECOND ROUND TRIP: the stamp that is read from a payload is written as the same bytes
pub written_read : (payload out : List ℕ) → Bytes payload → (read_of payload).refusal ≡ 0 → 11 ≤ length out
    → write_of (read_of payload).stamp out ≡ record { answer = record { refusal = 0; bytes = 11 }; out = overlay 0 payload out }
written_read payload out b e h =
    let z : first (read_checks payload) ≡ 0 = sym (read-shows payload) ∙ e in
    let r : Readable payload = readable payload z in
    rw (read-accepted payload z)
    (write-accepted (stamp_of payload) out (passes-write payload b r out h) ∙ rw (bytes_same payload b r))
