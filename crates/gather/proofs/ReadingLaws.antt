-- What a reader makes of a transport packet of the writer's: for demand 3, case by case.
-- Assumes nothing.
use mathlib.Core.Path.{◌≡◌, refl, sym, ap, ◌∙◌}
use mathlib.Core.Bool.{true, false, not}
use mathlib.Core.List.{List, [], ◌∷◌, ◌++◌, append_assoc}
use Prim.Native.Nat.{ℕ, ◌+◌, ◌%◌, ◌≤◌, ◌<◌}
use native.Mathlib.Nat.{min-le_right}
use native.Mathlib.Omega.{arith}
use lib.Dec.{leb}
use lib.ListN.{length, take, drop, length-append, length-drop, length-take}
use lib.Seq.{take-length, drop-length}
use borrow.Author.Tests.{eq-eqb, lt-leb, leb-true, leb-false}
use Rattle.fields.specs.Parts.{overlay}
use Rattle.fields.proofs.Cases.{cases}
use Rattle.refusals.specs.Checks.{first}
use Rattle.refusals.proofs.CheckLaws.{first-zero}
use Rattle.packet.specs.Layout.{size_of}
use Rattle.packet.specs.Cut.{Whole, AllWhole, joined}
use Rattle.packet.proofs.LayoutLaws.{size-least, size-append}
use Rattle.packet.proofs.CutLaws.{cut-behind}
use Rattle.transport.specs.Header.{count_of, starts, payload_at}
use Rattle.transport.specs.Tests.{field_long, transport_checks}
use Rattle.transport.specs.Load.{Load, plain, start, transport_of}
use Rattle.transport.proofs.LoadLaws.{Sound, pointer_is, Found, found}
use Rattle.gather.specs.State.{unfit, repeats, gather_checks}
use Rattle.gather.specs.Rules.{none, Brought, brought_by, Hand, waits, hands_out, rule_one, up_to_start, from_start, rules_on}
use Rattle.gather.specs.Gather.{in_hand, joiners, answer_of, entered_of, result_of, taken_of}
use Rattle.std.specs.Prelude.{None, Some}
use Rattle.gather.specs.declared.Reader.{Reader}
use Rattle.gather.proofs.RefusalLaws.{carriage-taken, payload-in}
use Rattle.gather.proofs.EnterLaws.{rule-kept}
use Rattle.gather.proofs.JoinLaws.{longer, passes, joins-short, joins-good}
use Rattle.gather.proofs.GatherLaws.{brings-plain}
use Rattle.gather.proofs.StateLaws.{rule-cases}

-- ---- the writer's packet is taken

module _ (pid count : ℕ) (l : Load) (hp : pid < 8192) (hc : count < 16) (sound : Sound l) where
  pub writers-passes : first (transport_checks pid (transport_of pid count l)) ≡ 0
  unfolding transport_checks
  writers-passes =
      let f : Found pid count l = found pid count l hp hc sound in
      first-zero (transport_checks pid (transport_of pid count l))
      (f.sync, (f.error, (f.same-pid, (f.plainly, (f.payload, (f.room, (f.aims, tt)))))))

pub accepted : (s : Reader) (t : List ℕ) (room space : ℕ) → unfit s ≡ false → length t ≡ 188 → 8202 ≤ room → 8385 ≤ space
    → first (transport_checks s.pid t) ≡ 0 → repeats s.last (count_of t) ≡ false → first (gather_checks s t room space) ≡ 0
accepted s t room space u w r o c n = sym (carriage-taken s t room space u w r o false (sym c) n)

-- ---- what it brings

abbrev pub plainly : ℕ → List ℕ → Brought
plainly count d = record { count = count; begins = false; before = d; onward = [] }

abbrev pub starting : ℕ → List ℕ → List ℕ → Brought
starting count d l = record { count = count; begins = true; before = d; onward = l }

pub brought-plain : (pid count : ℕ) (d : List ℕ) → pid < 8192 → count < 16 → Sound (plain d) → brought_by (transport_of pid count (plain d)) ≡ plainly count d
unfolding brought_by
brought-plain pid count d hp hc sound =
    let f : Found pid count (plain d) = found pid count (plain d) hp hc sound in
    rw (f.begun, f.counted, f.carries)

pub brought-start : (pid count n : ℕ) (d : List ℕ) → pid < 8192 → count < 16 → Sound (start n d)
    → brought_by (transport_of pid count (start n d)) ≡ starting count (take n d) (drop n d)
unfolding brought_by
brought-start pid count n d hp hc sound =
    let f : Found pid count (start n d) = found pid count (start n d) hp hc sound in
    rw (f.begun, f.counted, f.carries, pointer_is pid count n d hp hc)

-- A theorem: without a start every accepted packet brings a byte, so that rule 2 finds a misfit where nothing waits
pub plain-carries : (t : List ℕ) → length t ≡ 188 → field_long t ≡ false → starts t ≡ false → 0 < length (brought_by t).before
plain-carries t w f b =
    rw (brings-plain t b, length-drop (payload_at t) t) (omega (arith, payload-in t f))

-- ---- rule 1, where nothing was lost

module _ (h : Hand) (short : length h.waiting < size_of h.waiting) where
  pub rule-first : (count : ℕ) → rule_one None count h ≡ h
  rule-first count = rule-kept None count h refl (lt-leb _ _ short)

  pub rule-next : (n count : ℕ) → count ≡ (n + 1) % 16 → rule_one (Some n) count h ≡ h
  rule-next n count e = rule-kept (Some n) count h (ap not (eq-eqb count ((n + 1) % 16) e)) (lt-leb _ _ short)

-- ---- packets

-- the front of a whole packet is unfinished
pub whole-short : (a r : List ℕ) → Whole (a ++ r) → 0 < length r → length a < size_of a
whole-short a r w h =
    cases (leb 6 (length a))
    (λ t. omega (arith, size-append a r (leb-true 6 (length a) t), w.size, length-append a r))
    (λ t. omega (arith, size-least a, leb-false 6 (length a) t))

pub from-start-joined : (qs : List (List ℕ)) (v : List ℕ) (h : Hand) → AllWhole qs → length v < size_of v → from_start (joined qs ++ v) h ≡ waits v (hands_out qs h)
unfolding from_start
from-start-joined qs v h w s = rw (cut-behind qs v w s)

-- ---- the rules, with no start

module _ (count : ℕ) (h : Hand) where
  pub plain_out : (d : List ℕ) → h.step ≡ false → rules_on (plainly count d) h ≡ h
  unfolding rules_on
  plain_out d s = passes d h s

  module _ (s : h.step ≡ true) (z : none h.waiting ≡ false) where
    pub plain-on : (d r : List ℕ) → Whole (h.waiting ++ (d ++ r)) → 0 < length r → rules_on (plainly count d) h ≡ waits (h.waiting ++ d) h
    unfolding rules_on
    plain-on d r w i = joins-short d h s z (whole-short (h.waiting ++ d) r (rw (append_assoc h.waiting d r) w) i)

    -- the last bytes of a packet, before a start or without one
    pub stage-end : (d : List ℕ) → Whole (h.waiting ++ d) → up_to_start d h ≡ hands_out ((h.waiting ++ d) ∷ []) h
    stage-end d w =
        let e : size_of (h.waiting ++ d) ≡ length (h.waiting ++ d) = sym w.size in
        let t : take (size_of (h.waiting ++ d)) (h.waiting ++ d) ≡ h.waiting ++ d = rw e (take-length (h.waiting ++ d)) in
        let o : drop (size_of (h.waiting ++ d)) (h.waiting ++ d) ≡ [] = rw e (drop-length (h.waiting ++ d)) in
        joins-good d h s z (omega arith) (rw t w.crc) ∙ rw (t, o)

    pub plain_end : (d : List ℕ) → Whole (h.waiting ++ d) → rules_on (plainly count d) h ≡ hands_out ((h.waiting ++ d) ∷ []) h
    unfolding rules_on
    plain_end d w = stage-end d w

-- ---- the gathering buffer stays as long

pub taken-room : (s : Reader) (t g o : List ℕ) → length g ≤ length (taken_of s t g o).gathering
unfolding taken_of
taken-room s t g o =
    let i : length (entered_of s t g).waiting ≤ length g =
    rule-cases (λ h. length h.waiting ≤ length g) s.last (brought_by t).count (in_hand s g) (omega arith) (omega arith) (λ r. rw (length-take s.waiting g) (min-le_right s.waiting (length g))) in
    omega (
      arith,
      longer (length (entered_of s t g).waiting) (joiners (brought_by t).before (entered_of s t g)) g i,
      longer 0 (result_of s t g).waiting (overlay (length (entered_of s t g).waiting) (joiners (brought_by t).before (entered_of s t g)) g) (omega arith),
    )

pub taken-answer : (s : Reader) (t g o : List ℕ) → (taken_of s t g o).answer ≡ answer_of s.pid (brought_by t).count (result_of s t g)
unfolding taken_of
taken-answer s t g o = refl
