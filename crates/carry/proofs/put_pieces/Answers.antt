-- `carry::put_pieces` meets its contract.
use Rattle.std.proofs.Common.{◌≡◌, ℕ, ◌+◌, ◌-◌, ◌*◌, ◌%◌, ◌≤◌, List, [], ◌∷◌, ◌++◌, length, take, drop, refl, sym, ap, ◌∙◌, arith, length-drop}
use lib.Seq.{length-take-le}
use Rattle.fields.specs.Parts.{overlay}
use Rattle.fields.proofs.PartLaws.{overlay-none, overlay-next, length-overlay, written-part}
use Rattle.packet.specs.Cut.{joined}
use Rattle.transport.specs.Load.{Load, plain, start, transport_of}
use Rattle.transport.proofs.LoadLaws.{Sound, sound-plain, sound-start, transport-length}
use Rattle.carry.proofs.ByteLaws.{first-sound, loads-few}
use Rattle.carry.specs.Building.{Held, Laid}
use Rattle.carry.specs.Carry.{numbered}
use Rattle.carry.specs.OnBytes.{load_in}
use Rattle.carry.proofs.put_pieces.Invariants.{At}
use Rattle.carry.proofs.put_pieces.Goals as goal

one_more : (pid count : ℕ) (l : Load) (ls : List Load) → joined (numbered pid count (l ∷ ls)) ≡ transport_of pid count l ++ joined (numbered pid ((count + 1) % 16) ls)
unfolding numbered joined
one_more pid count l ls = refl

held : (l : Load) → Sound l → Held l
held (plain d) (sound-plain a b) = (a, b)
held (start n d) (sound-start a b) = b

module _ {pid first : ℕ} {all ls : List Load} {out₀ out : List ℕ} {n count : ℕ} (i : At pid first all ls out₀ out n count) where
  -- a packet has room
  room-for : (x : Load) (on : List Load) → ls ≡ x ∷ on → 188 * n + 188 ≤ length out
  room-for x on e = omega (arith, ap length e, i.whole, i.room, i.same)

  -- a packet is laid
  step : (x : Load) (on : List Load) → ls ≡ x ∷ on → Sound x → (after : List ℕ) → after ≡ overlay (188 * n) (transport_of pid count x) out
      → At pid first all on out₀ after (n + 1) ((count + 1) % 16)
  step x on e s after ea =
      let lt : length (transport_of pid count x) ≡ 188 = transport-length pid count x s in
      let m : length ls ≡ 1 + length on = ap length e ∙ omega arith in
      let q : 188 * (n + 1) ≡ 188 * n + 188 = omega arith in
      record {
        small = omega arith;
        same = ap length ea ∙ length-overlay (188 * n) (transport_of pid count x) out (omega (arith, lt, room-for x on e)) ∙ i.same;
        whole = omega (arith, i.whole);
        room = i.room;
        counts = omega (arith, i.counts);
        laid =
            ap (λ (j : ℕ). overlay j (joined (numbered pid ((count + 1) % 16) on)) after) q
            ∙ ap (overlay (188 * n + 188) (joined (numbered pid ((count + 1) % 16) on))) ea
            ∙ overlay-next (188 * n) (transport_of pid count x) (joined (numbered pid ((count + 1) % 16) on)) out (188 * n + 188) (ap (λ (j : ℕ). 188 * n + j) lt) (omega (arith, room-for x on e))
            ∙ ap (λ (l : List ℕ). overlay (188 * n) l out) (sym (one_more pid count x on) ∙ ap (λ (l : List Load). joined (numbered pid count l)) (sym e))
            ∙ i.laid;
      }

  -- nothing is left
  finish : ls ≡ [] → Laid pid first all out₀ (record { packets = n; next_count = count }) out
  unfolding numbered joined
  finish e =
      record {
        packets = omega (arith, i.whole, ap length e);
        next = omega (arith, i.counts, i.small, ap length e);
        bytes =
            sym (overlay-none (188 * n) out)
            ∙ ap (λ (l : List Load). overlay (188 * n) (joined (numbered pid count l)) out) (sym e)
            ∙ i.laid;
      }

-- the part that is lent
lent : (at : ℕ) (l : List ℕ) → at + 188 ≤ length l → length (take (at + 188 - at) (drop at l)) ≡ 188
lent at l h =
    let k : at + 188 - at ≡ 188 = omega arith in
    ap (λ (n : ℕ). length (take n (drop at l))) k ∙ length-take-le 188 (drop at l) (rw (length-drop at l) (omega arith))

pub put_piece-requires : goal.put_piece-requires
put_piece-requires c =
    let l = c.loop-piece in
    let e = c.in-Some.ensures.steps in
    (lent (188 * l.packets) l.out (room-for l.invariant _ _ e), held _ (first-sound _ _ _ _ e))

pub overflow_add-packets : goal.overflow_add-packets
overflow_add-packets c =
    let l = c.loop-piece in
    omega (arith, ap length c.in-Some.ensures.steps, l.invariant.whole, loads-few 0 c.args.batch.now, c.requires.small.1)

pub loop-piece-preserved : goal.loop-piece-preserved
loop-piece-preserved c =
    let l = c.loop-piece in
    let at : ℕ = 188 * l.packets in
    let e = c.in-Some.ensures.steps in
    let s = first-sound _ _ _ _ e in
    let t = c.put_piece.new.part in
    let k : length t ≡ 188 = ap length c.put_piece.ensures ∙ transport-length c.args.pid l.count (load_in c.in-Some.piece) s in
    step l.invariant _ _ e s _ (written-part at 188 t l.out k ∙ ap (λ (t : List ℕ). overlay at t l.out) c.put_piece.ensures)

pub returns : goal.returns
returns c = finish c.loop-piece.invariant c.in-None.ensures.steps.0
