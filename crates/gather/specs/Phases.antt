-- What the private functions do: the stages of Rules.antt on the numbers that the code has in hand. The statements of
-- `start` and `gather` do not rest on this file.
use Rattle.std.specs.Prelude.{◌≡◌, ℕ, ◌+◌, ◌≤◌, ◌<◌, Bool, true, false, cond, eqb, not, List, [], length, take, Some}
use Rattle.fields.specs.Numbers.{Bytes}
use Rattle.fields.specs.Parts.{overlay, copied_to}
use Rattle.packet.specs.Layout.{size_of}
use Rattle.packet.specs.Cut.{cut, joined}
use Rattle.gather.specs.Marks.{mark_loss, mark_misfit, mark_crc}
use Rattle.gather.specs.Rules.{Hand, up_to_start, unfinished, from_start}
use Rattle.gather.specs.Gather.{joiners, Gathered}
use Rattle.gather.specs.declared.Marks.{Marks}
use Rattle.gather.specs.declared.Hand as code

-- the numbers of what a call has in hand, in the code's struct
pub record Numbers : Type 0 where
  pub in_step : Bool
  pub waiting : ℕ
  pub bytes : ℕ
  pub packets : ℕ
  pub marks : Marks

abbrev pub held_of : code.Hand → Numbers
held_of h = record { in_step = h.in_step; waiting = h.waiting; bytes = h.bytes; packets = h.packets; marks = h.marks }

-- and of what is in hand by the rules
abbrev pub numbers : Hand → Numbers
numbers h =
    record {
      in_step = h.step;
      waiting = length h.waiting;
      bytes = length (joined h.packets);
      packets = length h.packets;
      marks = h.marks;
    }

-- the steps of Rules.antt, on numbers
abbrev pub dropped_in : Marks → Numbers → Numbers
dropped_in marks h = record { in_step = false; waiting = 0; bytes = h.bytes; packets = h.packets; marks = marks }

abbrev pub drops_in : Numbers → Numbers
drops_in h = dropped_in h.marks h

abbrev pub lost_in : Numbers → Numbers
lost_in h = dropped_in (mark_loss h.marks) h

abbrev pub misfits_in : Numbers → Numbers
misfits_in h = dropped_in (mark_misfit h.marks) h

abbrev pub crc_fails_in : Numbers → Numbers
crc_fails_in h = dropped_in (mark_crc h.marks) h

abbrev pub waits_in : ℕ → Numbers → Numbers
waits_in n h = record { in_step = true; waiting = n; bytes = h.bytes; packets = h.packets; marks = h.marks }

-- a packet of n bytes
abbrev pub hands_out_in : ℕ → Numbers → Numbers
hands_out_in n h = record { in_step = h.in_step; waiting = 0; bytes = h.bytes + n; packets = h.packets + 1; marks = h.marks }

abbrev pub unfinished_in : Numbers → Numbers
unfinished_in h = cond (eqb h.waiting 0) h (misfits_in h)

-- the answer of an accepted call
abbrev pub answer_by : ℕ → ℕ → Numbers → Gathered
answer_by pid count h =
    record {
      refusal = 0;
      reader = record { pid = pid; last = Some count; in_step = h.in_step; waiting = h.waiting };
      bytes = h.bytes;
      packets = h.packets;
      marks = h.marks;
    }

-- what is in hand by its numbers and the gathering buffer, before anything is handed out
abbrev pub hand_of : Numbers → List ℕ → Hand
hand_of e gathering =
    record { step = e.in_step; waiting = take e.waiting gathering; packets = []; marks = e.marks }

-- what rule 1 leaves: nothing handed out, and what waits is unfinished
pub record Entered (e : Numbers) (gathering : List ℕ) : Type 0 where
  pub bytes : e.bytes ≡ 0
  pub packets : e.packets ≡ 0
  pub short : e.waiting < size_of (take e.waiting gathering)
  pub few : e.waiting ≤ 8201

-- ---- the stages

-- what is in hand between two stages: the numbers, and what the two lent buffers hold
pub record InHand : Type 0 where
  pub held : Numbers
  pub gathering : List ℕ
  pub output : List ℕ

abbrev pub in_hand_of : code.Hand → InHand
in_hand_of h = record { held = held_of h; gathering = h.gathering.now; output = h.output.now }

-- a stage of the code, where both buffers stay those that were lent
abbrev pub Stage : (InHand → InHand) → code.Hand → code.Hand → Type 0
Stage f h k =
    (k.gathering.ghost_name ≡ h.gathering.ghost_name)
    × (k.output.ghost_name ≡ h.output.ghost_name)
    × (in_hand_of k ≡ f (in_hand_of h))

-- a step changes the numbers alone
abbrev pub Step : (Numbers → Numbers) → code.Hand → code.Hand → Type 0
Step f = Stage (λ b. record { held = f b.held; gathering = b.gathering; output = b.output })

-- as rule 1 leaves it, with room for all that may come
pub record Ready (h : InHand) : Type 0 where
  pub entered : Entered h.held h.gathering
  pub roomy : 8202 ≤ length h.gathering
  pub spacious : 8385 ≤ length h.output
  pub bytes : Bytes h.gathering

-- the first n bytes of the gathering buffer are copied to the front of the output
abbrev pub lays_out_of : ℕ → InHand → InHand
lays_out_of n b = record { held = b.held; gathering = b.gathering; output = copied_to 0 n b.gathering 0 b.output }

unfoldable pub led_of : List ℕ → InHand → InHand
led_of d b =
    let h = up_to_start d (hand_of b.held b.gathering) in
    record {
      held = numbers h;
      gathering = overlay b.held.waiting (joiners d (hand_of b.held b.gathering)) b.gathering;
      output = overlay 0 (joined h.packets) b.output;
    }

unfoldable pub with_start_of : List ℕ → List ℕ → InHand → InHand
with_start_of d l b =
    let h = from_start l (unfinished (up_to_start d (hand_of b.held b.gathering))) in
    record {
      held = numbers h;
      gathering = overlay 0 h.waiting (overlay b.held.waiting (joiners d (hand_of b.held b.gathering)) b.gathering);
      output = overlay 0 (joined h.packets) b.output;
    }

-- what is handed out from the start on is counted and laid behind what was before it; what is left is not stored yet
unfoldable pub followed_of : List ℕ → InHand → InHand
followed_of l b =
    let c = cut l in
    let h = b.held in
    record {
      held = record {
        in_step = not c.bad;
        waiting = cond c.bad 0 (length c.rest);
        bytes = h.bytes + length (joined c.packets);
        packets = h.packets + length c.packets;
        marks = cond c.bad (mark_crc h.marks) h.marks;
      };
      gathering = b.gathering;
      output = overlay h.bytes (joined c.packets) b.output;
    }
