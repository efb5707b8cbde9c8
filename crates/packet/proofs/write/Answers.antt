-- `packet::write` meets its contract: what is laid back to back is the packet, and nothing else is touched.
use Rattle.std.proofs.Common.{◌≡◌, ℕ, ◌+◌, ◌<◌, ◌≤◌, List, length, sym, ap, ◌∙◌, ap₂, arith}
use Rattle.crc.specs.Sealed.{sealed_at}
use Rattle.crc.proofs.OwnLaws.{sealed-next}
use Rattle.fields.specs.Formats.{pack}
use Rattle.fields.specs.Numbers.{bytes}
use Rattle.fields.specs.Parts.{overlay, stored_at, copied_to}
use Rattle.fields.proofs.NumberLaws.{length-bytes}
use Rattle.fields.proofs.LaidLaws.{copied_next}
use Rattle.fields.proofs.PartLaws.{stored-at}
use Rattle.refusals.proofs.AnswerLaws.{written-exit}
use Rattle.packet.proofs.FieldLaws.{Writable, writable}
use Rattle.packet.proofs.RoundTrips.{length_front, length-packet, write-accepted}
use Rattle.packet.specs.Layout.{header}
use Rattle.packet.specs.Write.{fields_of, front_bytes, packet_bytes, write_of}
use Rattle.packet.specs.declared.Header.{Header}
use Rattle.packet.proofs.write.Goals as goal
use Rattle.packet.proofs.write.Goals.{After-store_at, In_ok-check_write}

-- past the test the fields and the payload are written
well : (c : In_ok-check_write) → Writable c.args.h c.args.payload.now c.args.out.now
well c = writable _ _ _ (sym c.in_ok-check_write.ensures)

bits_fit : {h : Header} {payload out : List ℕ} → Writable h payload out → h.bits < 65536
bits_fit w = w.fit.1.1.1.1.1.0

-- header, payload and CRC, laid one after the other, are the packet
module _ (h : Header) (payload out : List ℕ) (room : 10 + length payload ≤ length out) where
  abbrev head : List ℕ
  head = bytes 6 (pack header (fields_of h))

  abbrev front : ℕ
  front = 6 + length payload

  laid : copied_to 6 (length payload) payload 0 (stored_at 0 6 (pack header (fields_of h)) out) ≡ overlay 0 (front_bytes h payload) out
  unfolding front_bytes
  laid =
      ap (copied_to 6 (length payload) payload 0) (stored-at 0 6 (pack header (fields_of h)) out (omega arith) (omega arith))
      ∙ copied_next head out 6 (length-bytes 6 _) payload (omega arith)

  -- the four calls, one after the other
  steps : (n0 : ℕ) (o1 o2 o3 : List ℕ) → n0 ≡ pack header (fields_of h) → o1 ≡ stored_at 0 6 n0 out → o2 ≡ copied_to 6 (length payload) payload 0 o1
      → o3 ≡ sealed_at front o2 → o3 ≡ overlay 0 (packet_bytes h payload) out
  unfolding packet_bytes
  steps n0 o1 o2 o3 e0 e1 e2 e3 =
      let two : o2 ≡ overlay 0 (front_bytes h payload) out =
      e2 ∙ ap (λ (o : List ℕ). copied_to 6 (length payload) payload 0 o) (e1 ∙ ap (λ (n : ℕ). stored_at 0 6 n out) e0) ∙ laid in
      e3 ∙ ap (sealed_at front) two ∙ sealed-next (front_bytes h payload) out front (length_front h payload) (omega arith)

pub returns-in_err-check_write : goal.returns-in_err-check_write
unfolding write_of
returns-in_err-check_write c = written-exit _ _ _ _ _ c.from_residual.ensures.1 c.in_err-check_write.ensures

pub overflow_cast-result : goal.overflow_cast-result
overflow_cast-result c =
    let w = well (goal.at.overflow_cast-result c).In_ok-check_write in
    omega (arith, w.size, bits_fit w)

pub returns : goal.returns
returns c =
    let a = c.args in
    let w = well (goal.at.returns c).In_ok-check_write in
    let p = a.payload.now in
    let o = a.out.now in
    sym (write-accepted a.h p o (sym c.in_ok-check_write.ensures)
    ∙ ap₂ (λ (n : ℕ) (l : List ℕ). record { answer = record { refusal = 0; bytes = n }; out = l })
    (length-packet a.h p ∙ omega arith)
    (sym (steps a.h p o (omega (arith, w.room, w.size)) _ _ _ _ c.header_number.ensures c.store_at.ensures c.copy.ensures c.seal.ensures)))
