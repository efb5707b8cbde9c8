-- `stamp::write` meets its contract: the two halves, laid back to back, are the payload, and nothing else is touched.
use lib.ListN.{length}
use mathlib.Core.Path.{◌≡◌, refl, sym, ap, ◌∙◌}
use mathlib.Core.List.{List}
use Prim.Native.Nat.{ℕ, ◌≤◌}
use native.Mathlib.Omega.{arith}
use Rattle.fields.specs.Numbers.{bytes}
use Rattle.fields.specs.Parts.{overlay, stored_at}
use Rattle.fields.proofs.NumberLaws.{length-bytes}
use Rattle.fields.proofs.PartLaws.{length-overlay, overlay-next, stored-at}
use Rattle.refusals.specs.Checks.{first}
use Rattle.refusals.proofs.AnswerLaws.{written-exit}
use Rattle.stamp.proofs.FieldLaws.{front_number, back_number, bytes_halves, Writable, writable}
use Rattle.stamp.proofs.RoundTrips.{write-accepted}
use Rattle.stamp.specs.Write.{stamp_bytes, write_checks, write_of}
use Rattle.stamp.specs.declared.Stamp.{Stamp}
use Rattle.stamp.proofs.write.Goals as goal
use Rattle.stamp.proofs.write.Goals.{In_ok-check_write}

-- past the test the stamp is written
passed : (c : In_ok-check_write) → first (write_checks c.args.stamp (length c.args.out.now)) ≡ 0
passed c = sym c.in_ok-check_write.ensures

well : (c : In_ok-check_write) → Writable c.args.stamp c.args.out.now
well c = writable _ c.args.out.now (passed c)

-- the two calls, one after the other
laid : (s : Stamp) (out o1 o2 : List ℕ) → Writable s out → o1 ≡ stored_at 0 6 (front_number s) out → o2 ≡ stored_at 6 5 (back_number s) o1
    → o2 ≡ overlay 0 (stamp_bytes s) out
laid s out o1 o2 w e1 e2 =
    let p : List ℕ = bytes 6 (front_number s) in
    let q : List ℕ = bytes 5 (back_number s) in
    let room : 11 ≤ length out = w.room in
    let six : length p ≡ 6 = length-bytes 6 (front_number s) in
    let long : length (overlay 0 p out) ≡ length out = length-overlay 0 p out (omega arith) in
    e2
    ∙ ap (stored_at 6 5 (back_number s)) (e1 ∙ stored-at 0 6 (front_number s) out (omega arith) (omega arith))
    ∙ stored-at 6 5 (back_number s) (overlay 0 p out) (omega arith) (omega arith)
    ∙ overlay-next 0 p q out 6 (omega arith) (omega arith)
    ∙ ap (λ (l : List ℕ). overlay 0 l out) (sym (bytes_halves s w.fit))

pub returns-in_err-check_write : goal.returns-in_err-check_write
unfolding write_of
returns-in_err-check_write c = written-exit _ _ _ _ _ c.from_residual.ensures.1 c.in_err-check_write.ensures

pub overflow_add-front : goal.overflow_add-front
overflow_add-front c =
    let fit = (well (goal.at.overflow_add-front c).In_ok-check_write).fit in
    omega (arith, fit.1.0, fit.1.1.0)

pub returns : goal.returns
returns c =
    let a = c.args in
    sym (write-accepted a.stamp a.out.now (passed (goal.at.returns c).In_ok-check_write)
    ∙ ap (λ (l : List ℕ). record { answer = record { refusal = 0; bytes = 11 }; out = l })
    (sym (laid a.stamp a.out.now _ _ (well (goal.at.returns c).In_ok-check_write)
    (c.store_at.ensures ∙ rw c.from.ensures refl)
    (c.store_at-2.ensures ∙ rw (c.from-2.ensures, c.from-3.ensures) refl))))
