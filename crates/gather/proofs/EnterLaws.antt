-- The laws of rule 1: how it goes, and that what waits after it is unfinished and lies in the gathering buffer.
-- Assumes nothing.
use mathlib.Core.Path.{◌≡◌, refl}
use mathlib.Core.Bool.{true, false}
use mathlib.Core.List.{List, []}
use Prim.Native.Nat.{ℕ, ◌≤◌, ◌<◌}
use native.Mathlib.Omega.{arith}
use lib.ListN.{length, take}
use lib.Seq.{length-take-le}
use borrow.Author.Tests.{lt-leb, leb-false}
use Rattle.fields.proofs.Cases.{cases}
use Rattle.packet.specs.Layout.{size_of}
use Rattle.packet.specs.Cut.{joined}
use Rattle.packet.proofs.LayoutLaws.{size-least}
use Rattle.gather.specs.Marks.{no_marks, mark_loss, mark_misfit}
use Rattle.gather.specs.Rules.{Hand, dropped, lost, misfits, out_of_turn, reaches, rule_one}
use Rattle.gather.specs.Gather.{in_hand}
use Rattle.gather.specs.Phases.{Numbers, numbers, hand_of, Entered}
use Rattle.gather.specs.declared.Marks.{Marks}
use Rattle.std.specs.Prelude.{Option}
use Rattle.gather.specs.declared.Reader.{Reader}

-- ---- as a call begins

pub unmarked : (m : Marks) → (m.loss ≡ false) × ((m.misfit ≡ false) × (m.crc ≡ false)) → m ≡ no_marks
unmarked m h = λ i. record { loss = h.0 i; misfit = h.1.0 i; crc = h.1.1 i }

-- ---- bytes that reach their own length

pub nothing-reaches : reaches [] ≡ false
nothing-reaches = lt-leb (size_of []) 0 (omega (arith, size-least []))

-- ---- the rule, case by case

module _ (last : Option ℕ) (count : ℕ) (h : Hand) where
  pub rule-lost : out_of_turn last count ≡ true → rule_one last count h ≡ lost h
  unfolding rule_one
  rule-lost b = rw (b, nothing-reaches)

  pub rule-altered : out_of_turn last count ≡ false → reaches h.waiting ≡ true → rule_one last count h ≡ misfits h
  unfolding rule_one
  rule-altered b r = rw (b, r)

  pub rule-kept : out_of_turn last count ≡ false → reaches h.waiting ≡ false → rule_one last count h ≡ h
  unfolding rule_one
  rule-kept b r = rw (b, r)

-- ---- what it leaves

-- the numbers e and the buffer g stand for h, of which nothing is handed out yet
pub record Stands (e : Numbers) (g : List ℕ) (h : Hand) : Type 0 where
  pub entered : Entered e g
  pub is : hand_of e g ≡ h
  pub long : length h.waiting ≡ e.waiting

module _ (s : Reader) (count : ℕ) (g : List ℕ) (few : s.waiting ≤ 8201) (room : 8202 ≤ length g) where
  abbrev h : Hand
  h = in_hand s g

  abbrev empty : Marks → Hand
  empty marks = dropped marks h

  left-empty : (marks : Marks) → Stands (numbers (empty marks)) g (empty marks)
  unfolding joined
  left-empty marks =
      record {
        entered = record { bytes = refl; packets = refl; short = omega (arith, size-least (take 0 g)); few = omega arith };
        is = refl;
        long = refl;
      }

  kept : reaches h.waiting ≡ false → Stands (numbers h) g h
  unfolding joined
  kept r =
      let l : length (take s.waiting g) ≡ s.waiting = length-take-le s.waiting g (omega arith) in
      let b : length (take s.waiting g) < size_of (take s.waiting g) = leb-false _ _ r in
      rw l
      (record {
        entered = record { bytes = refl; packets = refl; short = rw l at b; few = few };
        is = refl;
        long = l;
      })

  pub rule-stands : Stands (numbers (rule_one s.last count h)) g (rule_one s.last count h)
  rule-stands =
      cases (out_of_turn s.last count)
      (λ b. rw (rule-lost s.last count h b) (left-empty (mark_loss no_marks)))
      (λ b. cases (reaches h.waiting)
      (λ r. rw (rule-altered s.last count h b r) (left-empty (mark_misfit no_marks)))
      (λ r. rw (rule-kept s.last count h b r) (kept r)))
