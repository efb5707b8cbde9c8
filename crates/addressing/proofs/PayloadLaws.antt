-- What the two refusal lists of a payload say once they are passed, and what reading and writing then give.
-- Assumes nothing.
use mathlib.Core.Path.{◌≡◌, refl, sym, ◌∙◌}
use mathlib.Core.List.{List, []}
use Prim.Native.Nat.{ℕ, suc, ◌+◌, ◌≤◌}
use native.Mathlib.Omega.{arith}
use lib.Dec.{ltb}
use lib.ListN.{length, get_or}
use borrow.Author.Tests.{ltb-false, eqb-true, not-false}
use Rattle.fields.specs.Parts.{overlay}
use Rattle.refusals.specs.Checks.{first}
use Rattle.refusals.proofs.AnswerLaws.{answer-accepted, answer-refused, answer-shows, written-accepted, written-refused, written-shows}
use Rattle.refusals.proofs.CheckLaws.{none-holds, not_found}
use Rattle.addressing.proofs.DataLaws.{neither}
use Rattle.addressing.specs.Data.{fault_of}
use Rattle.addressing.specs.Payload.{data_of, payload_checks, payload_of, data_read, write_checks, payload_bytes, write_of, PayloadRead}

-- ---- what is known of a payload that is read

pub record Readable (own : ℕ) (p : List ℕ) : Type 0 where
  pub size : length p ≡ 2 + get_or p 1 0
  pub reserved : get_or p 0 0 ≡ 0
  pub good : (fault_of own (data_of p)).refusal ≡ 0

pub readable : (own : ℕ) (p : List ℕ) → first (payload_checks own p) ≡ 0 → Readable own p
unfolding payload_checks
readable own p h =
    let n = none-holds (payload_checks own p) tt h in
    record {
      size = eqb-true _ _ (not-false _ (neither (ltb (length p) 2) _ n.0).1);
      reserved = eqb-true _ _ (not-false _ n.1.0);
      good = not_found _ n.1.1.0;
    }

pub read_long : (own : ℕ) (p : List ℕ) → 0 ≡ first (payload_checks own p) → 2 ≤ length p
read_long own p h = omega (arith, (readable own p (sym h)).size)

-- ---- what is known of data that is written

pub record Writable (own : ℕ) (d out : List ℕ) : Type 0 where
  pub short : length d ≤ 255
  pub good : (fault_of own d).refusal ≡ 0
  pub room : 2 + length d ≤ length out

pub writable : (own : ℕ) (d out : List ℕ) → first (write_checks own d (length out)) ≡ 0 → Writable own d out
unfolding write_checks
writable own d out h =
    let n = none-holds (write_checks own d (length out)) tt h in
    record { short = ltb-false _ _ n.0; good = not_found _ n.1.0; room = ltb-false _ _ n.1.1.0 }

-- ---- what the operations show

pub read-shows : (own : ℕ) (p : List ℕ) → (payload_of own p).refusal ≡ first (payload_checks own p)
unfolding payload_of
read-shows own p = answer-shows (payload_checks own p) _ _ (λ (r : PayloadRead). r.refusal) (λ n. refl) refl

pub read-accepted : (own : ℕ) (p : List ℕ) → first (payload_checks own p) ≡ 0 → payload_of own p ≡ record { refusal = 0; bytes = length (data_of p) }
unfolding payload_of
read-accepted own p h = answer-accepted (payload_checks own p) _ _ h

pub data-accepted : (own : ℕ) (p : List ℕ) → first (payload_checks own p) ≡ 0 → data_read own p ≡ data_of p
unfolding data_read
data-accepted own p h = answer-accepted (payload_checks own p) _ _ h

pub write-shows : (own : ℕ) (d out : List ℕ) → (write_of own d out).answer.refusal ≡ first (write_checks own d (length out))
unfolding write_of
write-shows own d out = written-shows (write_checks own d (length out)) (payload_bytes d) out

pub write-accepted : (own : ℕ) (d out : List ℕ) → first (write_checks own d (length out)) ≡ 0
    → write_of own d out ≡ record { answer = record { refusal = 0; bytes = 2 + length d }; out = overlay 0 (payload_bytes d) out }
unfolding write_of
write-accepted own d out h = written-accepted (write_checks own d (length out)) (payload_bytes d) out h ∙ rw (two-more (length d))
  where
    two-more : (n : ℕ) → suc (suc n) ≡ 2 + n
    two-more n = omega arith

-- a refusal gives zeros and no data, and leaves the output as it was
pub read-refused : (own : ℕ) (p : List ℕ) → (first (payload_checks own p) ≡ 0 → ⊥)
    → (payload_of own p ≡ record { refusal = first (payload_checks own p); bytes = 0 }) × (data_read own p ≡ [])
unfolding payload_of data_read
read-refused own p h = (answer-refused (payload_checks own p) _ _ h, answer-refused (payload_checks own p) _ _ h)

pub write-refused : (own : ℕ) (d out : List ℕ) → (first (write_checks own d (length out)) ≡ 0 → ⊥)
    → write_of own d out ≡ record { answer = record { refusal = first (write_checks own d (length out)); bytes = 0 }; out = out }
unfolding write_of
write-refused own d out h = written-refused (write_checks own d (length out)) (payload_bytes d) out h
