-- The two round trips of an addressing payload: reading what was written gives the data, and writing what was read gives
-- the bytes.
-- Assumes nothing.
use mathlib.Core.Path.{◌≡◌, refl, sym, ap, ap₂, ◌∙◌}
use mathlib.Core.Bool.{not}
use mathlib.Core.List.{List, [], ◌∷◌}
use Prim.Native.Nat.{ℕ, ◌+◌, ◌≤◌}
use native.Mathlib.Omega.{arith}
use lib.ListN.{length, get_or, take, length-drop}
use borrow.Author.Tests.{le-ltb, eq-eqb}
use Rattle.fields.specs.Numbers.{Bytes}
use Rattle.fields.specs.Parts.{overlay}
use Rattle.fields.proofs.PartLaws.{take-front}
use Rattle.refusals.specs.Checks.{first}
use Rattle.refusals.proofs.CheckLaws.{first-zero}
use Rattle.addressing.proofs.PayloadLaws.{Readable, readable, writable, read-shows, read-accepted, data-accepted, write-shows, write-accepted}
use Rattle.addressing.specs.Data.{fault_of}
use Rattle.addressing.specs.Payload.{data_of, payload_checks, payload_of, data_read, write_checks, payload_bytes, write_of}

-- ---- reading what was written

pub record ReadsBack (own : ℕ) (d p : List ℕ) : Type 0 where
  pub count : payload_of own p ≡ record { refusal = 0; bytes = length d }
  pub bytes : data_read own p ≡ d

back : (own : ℕ) (d : List ℕ) → (fault_of own d).refusal ≡ 0 → ReadsBack own d (payload_bytes d)
unfolding payload_checks
back own d h =
    let p = payload_bytes d in
    let size : length p ≡ 2 + length d = omega arith in
    let z : first (payload_checks own p) ≡ 0 =
    first-zero (payload_checks own p) (rw (le-ltb (length p) 2 (omega arith)) (ap not (eq-eqb _ _ size)), (refl, (ap not (eq-eqb _ _ h), tt))) in
    record { count = read-accepted own p z; bytes = data-accepted own p z }

-- THE FIRST ROUND TRIP: where a write is accepted, its bytes are read as the same data
pub read-written : (own : ℕ) (d out : List ℕ) → (write_of own d out).answer.refusal ≡ 0 → ReadsBack own d (take (write_of own d out).answer.bytes (write_of own d out).out)
read-written own d out e =
    let z : first (write_checks own d (length out)) ≡ 0 = sym (write-shows own d out) ∙ e in
    let n : 2 + length d ≡ length (payload_bytes d) = omega arith in
    rw (write-accepted own d out z, n, take-front (payload_bytes d) out) (back own d (writable own d out z).good)

-- ---- writing what was read

same : (own : ℕ) (p : List ℕ) → Readable own p → payload_bytes (data_of p) ≡ p
same own [] r = absurd (omega (arith, r.size))
same own (a ∷ []) r = absurd (omega (arith, r.size))
same own (a ∷ b ∷ d) r = ap₂ (λ (x y : ℕ). x ∷ y ∷ d) (sym r.reserved) (omega (arith, r.size))

passes : (own : ℕ) (p out : List ℕ) → Bytes p → Readable own p → length p ≤ length out → first (write_checks own (data_of p) (length out)) ≡ 0
unfolding write_checks
passes own p out b r h =
    let n : length (data_of p) ≡ get_or p 1 0 = simp length-drop (omega (arith, r.size)) in
    first-zero (write_checks own (data_of p) (length out)) (
      le-ltb 255 (length (data_of p)) (omega (arith, b 1)),
      (ap not (eq-eqb _ _ r.good), (le-ltb (length out) (2 + length (data_of p)) (omega (arith, r.size)), tt)),
    )

-- THE SECOND ROUND TRIP: the data that is read from a payload is written as the same bytes
pub written_read : (own : ℕ) (p out : List ℕ) → Bytes p → (payload_of own p).refusal ≡ 0 → length p ≤ length out
    → write_of own (data_read own p) out ≡ record { answer = record { refusal = 0; bytes = length p }; out = overlay 0 p out }
written_read own p out b e h =
    let z : first (payload_checks own p) ≡ 0 = sym (read-shows own p) ∙ e in
    let r : Readable own p = readable own p z in
    let n : 2 + length (data_of p) ≡ length p = simp length-drop (omega (arith, r.size)) in
    rw (data-accepted own p z) (write-accepted own (data_of p) out (passes own p out b r h) ∙ rw (n, same own p r))
