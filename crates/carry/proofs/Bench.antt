-- The bench rows of 01 for the batch writer hold: its answer by the lengths, and its bytes by what each load shows.
-- Assumes nothing.
use mathlib.Core.Path.{◌≡◌, refl, sym, ap, ◌∙◌}
use mathlib.Core.Bool.{false}
use mathlib.Core.List.{List, [], ◌∷◌, ◌++◌, map}
use Prim.Native.Nat.{ℕ, zero, suc, ◌+◌, ◌-◌, ◌*◌, ◌%◌, ◌≤◌, ◌<◌}
use native.Mathlib.Omega.{arith}
use lib.Dec.{eqb, lit<}
use lib.ListN.{length, drop}
use borrow.Author.Tests.{le-ltb}
use Rattle.fields.specs.Parts.{overlay}
use Rattle.refusals.specs.Checks.{first}
use Rattle.refusals.proofs.AnswerLaws.{answer-accepted}
use Rattle.refusals.proofs.CheckLaws.{first-zero}
use Rattle.packet.specs.Cut.{AllWhole, Cut, joined}
use Rattle.packet.proofs.BatchLaws.{fault-none}
use Rattle.packet.proofs.CutLaws.{cut_all}
use Rattle.transport.specs.Load.{Load, plain, start, control_for, head_bytes, transport_of}
use Rattle.transport.specs.Tests.{pid_outside}
use Rattle.transport.proofs.LoadLaws.{Sound, head-field, first-behind, pointer_is, Found, found}
use Rattle.carry.specs.Loads.{loads_of}
use Rattle.carry.specs.Carry.{Outcome, numbered, loads, carry_checks, carry_of, transports_in}
use Rattle.carry.specs.Rows.{shape_of, room_of, sum, shapes, rest_of, shapes_by, Field, Shows, AllShow, Row, rows, Wrote, Holds, AllHold}
use Rattle.carry.proofs.BatchLaws.{carriable}
use Rattle.carry.proofs.LoadLaws.{flows-of}
use Rattle.carry.proofs.ShapeLaws.{length-joined, shapes-of, needs}
use Rattle.carry.proofs.Theorems.{AllSound, flow-sound, pid-small, carried-packets, length-numbered, transports-front}

-- ---- what a transport packet of a load shows

module _ (pid begins count room : ℕ) (rest : List ℕ) (hp : pid < 8192) (hb : begins < 2) (hc : count < 16) where
  field-shown : (r : ℕ) → room ≡ r → Field r (head_bytes pid begins count room ++ rest)
  field-shown zero e = head-field pid begins count room rest hp hb hc 6 ∙ ap control_for e
  field-shown (suc n) e = (head-field pid begins count room rest hp hb hc 6 ∙ ap control_for e, first-behind pid begins count room rest hp hb hc n e)

load_field : (pid count : ℕ) (l : Load) → pid < 8192 → count < 16 → Field (room_of (shape_of l)) (transport_of pid count l)
unfolding transport_of
load_field pid count (plain d) hp hc = field-shown pid 0 count (184 - length d) d hp (lit< tt) hc (184 - length d) refl
load_field pid count (start n d) hp hc = field-shown pid 1 count (183 - length d) (n ∷ d) hp (lit< tt) hc (183 - length d) refl

load-shows : (pid count : ℕ) (l : Load) → pid < 8192 → count < 16 → Sound l → Shows (shape_of l) (transport_of pid count l)
load-shows pid count (plain d) hp hc s =
    let f : Found pid count (plain d) = found pid count (plain d) hp hc s in
    (ap (λ (x : ℕ). eqb x 1) f.begun, ap length f.carries)
load-shows pid count (start n d) hp hc s =
    let f : Found pid count (start n d) = found pid count (start n d) hp hc s in
    (ap (λ (x : ℕ). eqb x 1) f.begun, pointer_is pid count n d hp hc, ap length f.carries)

all-show : (pid count : ℕ) (ls : List Load) → pid < 8192 → count < 16 → AllSound ls → AllShow (map shape_of ls) (numbered pid count ls)
unfolding numbered
all-show pid count [] hp hc s = tt
all-show pid count (l ∷ ls) hp hc s =
    (load-shows pid count l hp hc s.0, load_field pid count l hp hc, all-show pid ((count + 1) % 16) ls hp (omega arith) s.1)

-- ---- one call of the writer, for packets of these lengths

module _ (row : Row) (e : shapes row.lengths ≡ row.shapes) (small : sum row.lengths ≤ 65536)
    (ps : List (List ℕ)) (w : AllWhole ps) (h : map length ps ≡ row.lengths)
    (pid count : ℕ) (good : pid_outside pid ≡ false) (k : count < 16) (out : List ℕ) (room : 188 * length row.shapes ≤ length out) where
  abbrev batch : List ℕ
  batch = joined ps

  abbrev ts : List (List ℕ)
  ts = numbered pid count (loads_of ps)

  shaped : map shape_of (loads_of ps) ≡ row.shapes
  shaped = shapes-of ps ∙ ap shapes h ∙ e

  many : length (loads_of ps) ≡ length row.shapes
  many = needs ps ∙ ap (λ (ns : List ℕ). length (shapes ns)) h ∙ ap length e

  loads-are : loads batch ≡ loads_of ps
  loads-are = ap (λ (x : Cut). loads_of x.packets) (cut_all ps w)

  not-refused : first (carry_checks pid count batch (length out)) ≡ 0
  unfolding carry_checks
  not-refused =
      first-zero (carry_checks pid count batch (length out)) (
        good,
        (
          le-ltb 15 count (omega arith),
          (
            le-ltb 65536 (length batch) (omega (arith, length-joined ps, ap sum h)),
            (
              rw (fault-none ps w) refl,
              (rw loads-are (le-ltb (length out) (188 * length (loads_of ps)) (omega (arith, many))), tt),
            ),
          ),
        ),
      )

  abbrev wrote : ℕ → List Load → Outcome
  wrote n ls = record { answer = record { refusal = 0; packets = n; next_count = (count + n) % 16 }; out = overlay 0 (joined (numbered pid count ls)) out }

  carries : carry_of pid count batch out ≡ wrote (length row.shapes) (loads_of ps)
  unfolding carry_of
  carries =
      answer-accepted (carry_checks pid count batch (length out)) _ _ not-refused
      ∙ ap (λ (ls : List Load). wrote (length ls) ls) loads-are
      ∙ ap (λ (n : ℕ). wrote n (loads_of ps)) many

  front : transports_in (length row.shapes) (overlay 0 (joined ts) out) ≡ ts
  unfolding overlay
  front =
      ap (λ (n : ℕ). transports_in n (overlay 0 (joined ts) out)) (sym (length-numbered pid count (loads_of ps) ∙ many))
      ∙ transports-front pid count ts (drop (0 + length (joined ts)) out)
      (rw loads-are at (carried-packets pid count batch (length out) (carriable pid count batch (length out) not-refused)))

  row_carried : Wrote count row.shapes (carry_of pid count batch out)
  row_carried =
      rw carries
      (record {
        answer = refl;
        bytes = rw (front, ← shaped) (all-show pid count (loads_of ps) (pid-small pid good) k (flow-sound (flows-of ps w)));
      })

-- ---- the rows

holds : (r : Row) → shapes r.lengths ≡ r.shapes → sum r.lengths ≤ 65536 → map room_of r.shapes ≡ r.rooms → Holds r
holds r e s f = record { carried = row_carried r e s; fields = f }

pub bench : AllHold rows
unfolding shapes shapes_by rest_of
bench =
    (holds _ refl (omega arith) refl, (holds _ refl (omega arith) refl, (holds _ refl (omega arith) refl, (holds _ refl (omega arith) refl, (holds _ refl (omega arith) refl, (holds _ refl (omega arith) refl, tt))))))
