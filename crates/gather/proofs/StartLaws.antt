-- The laws of a transport packet with a start: the stages, one behind the other, on numbers and buffers.
-- Assumes nothing.
use mathlib.Core.Path.{◌≡◌, refl, sym, ap, ◌∙◌}
use mathlib.Core.Bool.{cond}
use mathlib.Core.List.{List, ◌++◌}
use Prim.Native.Nat.{ℕ, ◌+◌, ◌-◌, ◌≤◌}
use native.Mathlib.Nat.{zero-add, sub-zero}
use native.Mathlib.Omega.{arith}
use lib.Dec.{eqb}
use lib.ListN.{length, take, drop, length-append, length-drop}
use lib.Seq.{drop_at, drop-length, take_all}
use Rattle.fields.specs.Numbers.{Bytes}
use Rattle.fields.specs.Parts.{overlay}
use Rattle.fields.proofs.Cases.{cases}
use Rattle.fields.proofs.NumberLaws.{bytes_take, bytes-append}
use Rattle.fields.proofs.PartLaws.{overlay-next}
use Rattle.packet.specs.Cut.{Cut, cut, joined}
use Rattle.packet.proofs.CutLaws.{cut-cuts, joined-append}
use Rattle.gather.specs.Rules.{none, Hand, misfits, up_to_start, unfinished, from_start}
use Rattle.gather.specs.Gather.{joiners}
use Rattle.gather.specs.Phases.{unfinished_in, numbers, hand_of, InHand, Ready, led_of, with_start_of, followed_of}
use Rattle.gather.proofs.JoinLaws.{longer, Small, front, front-small}

-- ---- the stages from the start on, on numbers

pub unfinished-numbers : (f : Hand) → cond (eqb (length f.waiting) 0) (numbers f) (numbers (misfits f)) ≡ numbers (unfinished f)
unfinished-numbers f = cases (none f.waiting) (λ b. rw b) (λ b. rw b)

pub unfinished-packets : (f : Hand) → (unfinished f).packets ≡ f.packets
unfinished-packets f = cases (none f.waiting) (λ b. rw b) (λ b. rw b)

pub from-start-packets : (l : List ℕ) (f : Hand) → (from_start l f).packets ≡ f.packets ++ (cut l).packets
unfolding from_start
from-start-packets l f = cases (cut l).bad (λ b. rw b) (λ b. rw b)

module _ (l : List ℕ) (f : Hand) (g o : List ℕ) where
  abbrev ps : List (List ℕ)
  ps = (cut l).packets

  bytes_on : length (joined f.packets) + length (joined ps) ≡ length (joined (f.packets ++ ps))
  bytes_on = sym (ap length (joined-append f.packets ps) ∙ length-append (joined f.packets) (joined ps))

  laid_on : overlay (length (joined f.packets)) (joined ps) (overlay 0 (joined f.packets) o) ≡ overlay 0 (joined (f.packets ++ ps)) o
  laid_on =
      overlay-next 0 (joined f.packets) (joined ps) o (length (joined f.packets)) (zero-add (length (joined f.packets))) (omega arith)
      ∙ ap (λ (x : List ℕ). overlay 0 x o) (sym (joined-append f.packets ps))

  pub from-start-numbers : followed_of l (record { held = numbers f; gathering = g; output = overlay 0 (joined f.packets) o })
      ≡ record { held = numbers (from_start l f); gathering = g; output = overlay 0 (joined (from_start l f).packets) o }
  unfolding followed_of from_start
  from-start-numbers =
      cases (cut l).bad
      (λ b. rw (b, laid_on, bytes_on, length-append f.packets ps))
      (λ b. rw (b, laid_on, bytes_on, length-append f.packets ps))

-- ---- what waits then is the end of what came

-- a list from k on
pub from_on : (k : ℕ) (l : List ℕ) → take (length l - k) (drop k l) ≡ drop k l
from_on k l = take_all (length l - k) (drop k l) (simp length-drop (omega arith))

module _ (l : List ℕ) (f : Hand) where
  abbrev c : Cut
  c = cut l

  split : length (joined c.packets) + length c.rest ≡ length l
  split = sym (length-append (joined c.packets) c.rest) ∙ ap length (cut-cuts l).bytes

  rest-there : drop (length l - length c.rest) l ≡ c.rest
  rest-there =
      let k : length l - length c.rest ≡ length (joined c.packets) = omega (arith, split) in
      rw k (ap (drop (length (joined c.packets))) (sym (cut-cuts l).bytes) ∙ drop_at (joined c.packets) c.rest (length (joined c.packets)) refl)

  pub waits_there : drop (length l - length (from_start l f).waiting) l ≡ (from_start l f).waiting
  unfolding from_start
  waits_there = cases c.bad (λ b. rw (b, sub-zero (length l)) (drop-length l)) (λ b. rw b rest-there)

  pub waits-few : length (from_start l f).waiting ≤ length l
  unfolding from_start
  waits-few = cases c.bad (λ b. rw b (omega arith)) (λ b. rw b (omega (arith, split)))

-- ---- the whole, as the code goes

-- b is in hand as they begin, c behind the first of them, and s once an unfinished packet is dropped
module _ (b : InHand) (d l : List ℕ) (c : InHand) (led : c ≡ led_of d b) (s : InHand)
    (dropped : s ≡ record { held = unfinished_in c.held; gathering = c.gathering; output = c.output }) where
  abbrev f : Hand
  f = up_to_start d (hand_of b.held b.gathering)

  abbrev u : Hand
  u = unfinished f

  stored : List ℕ
  stored = overlay b.held.waiting (joiners d (hand_of b.held b.gathering)) b.gathering

  c-is : c ≡ record { held = numbers f; gathering = stored; output = overlay 0 (joined f.packets) b.output }
  unfolding led_of stored
  c-is = led

  s-is : s ≡ record { held = numbers u; gathering = stored; output = overlay 0 (joined u.packets) b.output }
  s-is =
      dropped
      ∙ ap (λ (x : InHand). record { held = unfinished_in x.held; gathering = x.gathering; output = x.output }) c-is
      ∙ (λ i. record { held = unfinished-numbers f i; gathering = stored; output = overlay 0 (joined (sym (unfinished-packets f) i)) b.output })

  pub begun-small : Ready b → Bytes d → (s.held.packets ≤ 1) × (s.held.bytes ≤ 8202)
  begun-small ready bd =
      let k : Small f.packets = front-small (bytes-append (take b.held.waiting b.gathering) d (bytes_take b.held.waiting b.gathering ready.bytes) bd) (front d (hand_of b.held b.gathering) refl) in
      rw (s-is, unfinished-packets f) (k.number, k.bytes)

  pub still-spacious : length b.output ≤ length s.output
  still-spacious = rw s-is (longer 0 (joined u.packets) b.output (omega arith))

  module _ (k : InHand) (went : k ≡ followed_of l s) where
    abbrev h : Hand
    h = from_start l u

    k-is : k ≡ record { held = numbers h; gathering = stored; output = overlay 0 (joined h.packets) b.output }
    k-is = went ∙ ap (followed_of l) s-is ∙ from-start-numbers l u stored b.output

    pub left-few : k.held.waiting ≤ length l
    left-few = rw k-is (waits-few l u)

    pub still-roomy : Ready b → length b.gathering ≤ length k.gathering
    unfolding stored
    still-roomy ready =
        rw k-is (longer b.held.waiting (joiners d (hand_of b.held b.gathering)) b.gathering (omega (arith, ready.entered.few, ready.roomy)))

    -- what is left of l waits
    pub with-start : (after : List ℕ) → after ≡ overlay 0 (drop (length l - k.held.waiting) l) k.gathering
        → record { held = k.held; gathering = after; output = k.output } ≡ with_start_of d l b
    unfolding with_start_of stored
    with-start after q =
        let there = rw (k-is, waits_there l u) at q in
        rw (there, k-is)
