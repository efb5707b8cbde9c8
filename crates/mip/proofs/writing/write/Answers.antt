-- `mip::writing::write` meets its contract: what is laid back to back is the packet, and nothing else is touched.
use lib.ListN.{length, replicate}
use mathlib.Core.Path.{◌≡◌, sym, ap, ◌∙◌}
use mathlib.Core.List.{List, ◌++◌}
use Prim.Native.Nat.{ℕ, ◌+◌, ◌-◌, ◌≤◌}
use native.Mathlib.Omega.{arith}
use Rattle.crc.specs.Sealed.{sealed, sealed_at}
use Rattle.crc.proofs.OwnLaws.{sealed-next}
use Rattle.fields.specs.Parts.{overlay, copied_to, filled_at}
use Rattle.fields.proofs.LaidLaws.{copied_next, filled_next}
use Rattle.refusals.specs.Checks.{first}
use Rattle.mip.proofs.FieldLaws.{fit_wide, Writable, writable}
use Rattle.mip.proofs.Operations.{length-lead, length_front, length-end, write-accepted}
use Rattle.mip.specs.Write.{lead_bytes, front_bytes, mip_bytes, write_checks}
use Rattle.mip.specs.declared.Mip.{Mip}
use Rattle.mip.proofs.writing.write.Goals as goal
use Rattle.mip.proofs.writing.write.Goals.{In_ok-check_write}

-- past the test the fields and the data are written
passed : (c : In_ok-check_write) → first (write_checks c.args.m c.args.addressing.now (length c.args.out.now)) ≡ 0
passed c = sym c.in_ok-check_write.ensures

well : (c : In_ok-check_write) → Writable c.args.m c.args.addressing.now c.args.out.now
well c = writable _ _ c.args.out.now (passed c)

-- the four calls, one after the other
module _ (m : Mip) (d out : List ℕ) (short : length d ≤ 163) (room : 188 ≤ length out) where
  abbrev front : List ℕ
  front = front_bytes m d

  abbrev end : ℕ
  end = 21 + length d

  with-data : copied_to 21 (length d) d 0 (overlay 0 (lead_bytes m (length d)) out) ≡ overlay 0 front out
  unfolding front_bytes
  with-data = copied_next (lead_bytes m (length d)) out 21 (length-lead m (length d)) d (omega arith)

  with-crc : sealed_at end (overlay 0 front out) ≡ overlay 0 (sealed front) out
  with-crc = sealed-next front out end (length_front m d) (omega arith)

  with-stuffing : filled_at (end + 4) (188 - (end + 4)) 0xFF (overlay 0 (sealed front) out) ≡ overlay 0 (mip_bytes m d) out
  unfolding mip_bytes
  with-stuffing =
      let long : length (sealed front) ≡ end + 4 = length-end m d ∙ omega arith in
      let n : 188 - (end + 4) ≡ 188 - (25 + length d) = omega arith in
      filled_next (sealed front) out (end + 4) long (188 - (end + 4)) 0xFF (omega arith)
      ∙ ap (λ (k : ℕ). overlay 0 (sealed front ++ replicate k 0xFF) out) n

  steps : (o1 o2 o3 o4 : List ℕ) → o1 ≡ overlay 0 (lead_bytes m (length d)) out → o2 ≡ copied_to 21 (length d) d 0 o1
      → o3 ≡ sealed_at end o2 → o4 ≡ filled_at (end + 4) (188 - (end + 4)) 0xFF o3 → o4 ≡ overlay 0 (mip_bytes m d) out
  steps o1 o2 o3 o4 e1 e2 e3 e4 =
      let two : o2 ≡ overlay 0 front out = e2 ∙ ap (copied_to 21 (length d) d 0) e1 ∙ with-data in
      let three : o3 ≡ overlay 0 (sealed front) out = e3 ∙ ap (sealed_at end) two ∙ with-crc in
      e4 ∙ ap (filled_at (end + 4) (188 - (end + 4)) 0xFF) three ∙ with-stuffing

pub lay_lead-requires : goal.lay_lead-requires
lay_lead-requires c =
    let w = well (goal.at.lay_lead-requires c).In_ok-check_write in
    (fit_wide _ _ w.header w.fit, w.short, omega (arith, w.room))

pub overflow_sub-after : goal.overflow_sub-after
overflow_sub-after c =
    omega (arith, (well (goal.at.overflow_sub-after c).In_ok-check_write).short)

pub returns : goal.returns
returns c =
    let e = (goal.at.returns c).In_ok-check_write in
    let a = c.args in
    let w = well e in
    sym (write-accepted a.m a.addressing.now a.out.now (passed e)
    ∙ ap (λ (l : List ℕ). record { answer = record { refusal = 0; bytes = 188 }; out = l })
    (sym (steps a.m a.addressing.now a.out.now w.short w.room _ _ _ _ c.lay_lead.ensures c.copy.ensures c.seal.ensures c.fill.ensures)))
