-- What reading and writing a MIP show: the first refusal that holds, with zeros and the output as it was, or what they give.
-- Assumes nothing.
use mathlib.Core.Path.{◌≡◌, refl, ap, ◌∙◌}
use mathlib.Core.List.{List, []}
use Prim.Native.Nat.{ℕ, ◌+◌, ◌≤◌}
use native.Mathlib.Omega.{arith}
use lib.ListN.{length, length-append, length-replicate}
use Rattle.crc.specs.Sealed.{sealed}
use Rattle.crc.proofs.OwnLaws.{length-sealed}
use Rattle.fields.specs.Parts.{overlay}
use Rattle.fields.proofs.NumberLaws.{length-bytes}
use Rattle.refusals.specs.Checks.{first}
use Rattle.refusals.proofs.AnswerLaws.{answer-accepted, answer-refused, answer-shows, written-accepted, written-refused, written-shows}
use Rattle.mip.proofs.FieldLaws.{writable}
use Rattle.mip.specs.Layout.{crc_end}
use Rattle.mip.specs.Read.{addressing_length, addressing_of, read_checks, mip_of, no_mip, read_of, addressing_read, MipRead}
use Rattle.mip.specs.Write.{lead_bytes, front_bytes, mip_bytes, write_checks, write_of}
use Rattle.mip.specs.declared.Mip.{Mip}

-- ---- reading

pub read-shows : (p : List ℕ) → (read_of p).refusal ≡ first (read_checks p)
unfolding read_of
read-shows p = answer-shows (read_checks p) _ _ (λ (r : MipRead). r.refusal) (λ n. refl) refl

pub read-accepted : (p : List ℕ) → first (read_checks p) ≡ 0 → read_of p ≡ record { refusal = 0; addressing = addressing_length p; mip = mip_of p }
unfolding read_of
read-accepted p z = answer-accepted (read_checks p) _ _ z

pub data-accepted : (p : List ℕ) → first (read_checks p) ≡ 0 → addressing_read p ≡ addressing_of p
unfolding addressing_read
data-accepted p z = answer-accepted (read_checks p) _ _ z

-- a refusal gives zeros, and no data
pub read-refused : (p : List ℕ) → (first (read_checks p) ≡ 0 → ⊥) → (read_of p ≡ record { refusal = first (read_checks p); addressing = 0; mip = no_mip }) × (addressing_read p ≡ [])
unfolding read_of addressing_read
read-refused p z = (answer-refused (read_checks p) _ _ z, answer-refused (read_checks p) _ _ z)

-- ---- writing

pub write-shows : (m : Mip) (d out : List ℕ) → (write_of m d out).answer.refusal ≡ first (write_checks m d (length out))
unfolding write_of
write-shows m d out = written-shows (write_checks m d (length out)) (mip_bytes m d) out

-- the header and the parameters are 21 bytes, and the whole is 188
pub length-lead : (m : Mip) (n : ℕ) → length (lead_bytes m n) ≡ 21
unfolding lead_bytes
length-lead m n = simp (length-append, length-bytes)

module _ (m : Mip) (d : List ℕ) where
  pub length_front : length (front_bytes m d) ≡ 21 + length d
  unfolding front_bytes
  length_front = length-append (lead_bytes m (length d)) d ∙ ap (λ (k : ℕ). k + length d) (length-lead m (length d))

  -- up to the CRC's end
  pub length-end : length (sealed (front_bytes m d)) ≡ crc_end (length d)
  length-end = length-sealed (front_bytes m d) ∙ omega (arith, length_front)

  pub length-mip : length d ≤ 163 → length (mip_bytes m d) ≡ 188
  unfolding mip_bytes
  length-mip h =
      simp (length-append, length-sealed, length_front, length-lead, length-replicate) (omega arith)

pub write-accepted : (m : Mip) (d out : List ℕ) → first (write_checks m d (length out)) ≡ 0
    → write_of m d out ≡ record { answer = record { refusal = 0; bytes = 188 }; out = overlay 0 (mip_bytes m d) out }
unfolding write_of
write-accepted m d out z =
    written-accepted (write_checks m d (length out)) (mip_bytes m d) out z ∙ rw (length-mip m d (writable m d out z).short)

-- a refusal leaves the output as it was
pub write-refused : (m : Mip) (d out : List ℕ) → (first (write_checks m d (length out)) ≡ 0 → ⊥)
    → write_of m d out ≡ record { answer = record { refusal = first (write_checks m d (length out)); bytes = 0 }; out = out }
unfolding write_of
write-refused m d out z = written-refused (write_checks m d (length out)) (mip_bytes m d) out z
