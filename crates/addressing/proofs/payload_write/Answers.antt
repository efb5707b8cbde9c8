-- `addressing::payload_write` meets its contract: what is laid back to back is the payload, and nothing else is touched.
use lib.ListN.{length}
use mathlib.Core.Path.{◌≡◌, sym, ap, ap₂, ◌∙◌}
use mathlib.Core.List.{List, [], ◌∷◌}
use Prim.Native.Nat.{ℕ, ◌+◌, ◌/◌, ◌%◌, ◌≤◌}
use native.Mathlib.Omega.{arith}
use Rattle.fields.specs.Formats.{unpack}
use Rattle.fields.specs.Numbers.{bytes}
use Rattle.fields.specs.Parts.{overlay, stored_at, copied_to}
use Rattle.fields.proofs.PartLaws.{part-whole, length-overlay, overlay-next, stored-at, copied-to}
use Rattle.refusals.specs.Checks.{first}
use Rattle.addressing.specs.Data.{house}
use Rattle.addressing.proofs.PayloadLaws.{Writable, writable, write-accepted}
use Rattle.addressing.specs.Payload.{write_checks, payload_bytes}
use Rattle.addressing.proofs.payload_write.Goals as goal
use Rattle.addressing.proofs.payload_write.Goals.{In_ok-check_write}

-- past the test the data is written
passed : (c : In_ok-check_write) → first (write_checks house c.args.«data».now (length c.args.out.now)) ≡ 0
passed c = sym c.in_ok-check_write.ensures

well : (c : In_ok-check_write) → Writable house c.args.«data».now c.args.out.now
well c = writable house _ _ (passed c)

-- the length under a byte of zero
head : (n : ℕ) → n ≤ 255 → bytes 2 n ≡ 0 ∷ n ∷ []
unfolding bytes unpack
head n h = ap₂ (λ (x y : ℕ). x ∷ y ∷ []) (above n h) (lowest n h)
  where
    above : (m : ℕ) → m ≤ 255 → m / 256 % 256 ≡ 0
    above m k = omega arith

    lowest : (m : ℕ) → m ≤ 255 → m / 1 % 256 ≡ m
    lowest m k = omega arith

-- the two calls, one after the other
laid : (d out : List ℕ) → length d ≤ 255 → 2 + length d ≤ length out → (o1 o2 : List ℕ) → o1 ≡ stored_at 0 2 (length d) out → o2 ≡ copied_to 2 (length d) d 0 o1
    → o2 ≡ overlay 0 (payload_bytes d) out
laid d out h room o1 o2 e1 e2 =
    let front : List ℕ = 0 ∷ length d ∷ [] in
    let one : o1 ≡ overlay 0 front out =
    e1 ∙ stored-at 0 2 (length d) out (omega arith) (omega arith) ∙ ap (λ (l : List ℕ). overlay 0 l out) (head (length d) h) in
    let long : length (overlay 0 front out) ≡ length out = length-overlay 0 front out (omega arith) in
    e2
    ∙ ap (copied_to 2 (length d) d 0) one
    ∙ copied-to 2 (length d) d 0 (overlay 0 front out) (omega arith) (omega arith)
    ∙ ap (λ (l : List ℕ). overlay 2 l (overlay 0 front out)) (part-whole d)
    ∙ overlay-next 0 front d out 2 (omega arith) (omega arith)

pub overflow_cast-result : goal.overflow_cast-result
overflow_cast-result c = omega (arith, (well (goal.at.overflow_cast-result c).In_ok-check_write).short)

pub returns : goal.returns
returns c =
    let a = c.args in
    let at = (goal.at.returns c).In_ok-check_write in
    let w = well at in
    sym (write-accepted house a.«data».now a.out.now (passed at)
    ∙ ap (λ (l : List ℕ). record { answer = record { refusal = 0; bytes = 2 + length a.«data».now }; out = l })
    (sym (laid a.«data».now a.out.now w.short w.room _ _ c.store_at.ensures c.copy.ensures)))
