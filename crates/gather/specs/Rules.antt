-- The reader's rules 1 to 4 on lists: which packets a transport packet finishes, and what waits after it. Each stage takes
-- what the reader has in hand and gives what it then has.
use Rattle.std.specs.Prelude.{ℕ, ◌+◌, ◌%◌, Bool, true, false, cond, not, List, [], ◌∷◌, ◌++◌, leb, eqb, length, take, drop, Option, None, Some, Result, Ok, Err}
use Rattle.packet.specs.Layout.{size_of}
use Rattle.packet.specs.Cut.{judge_of, cut}
use Rattle.packet.specs.declared.Flaw.{Flaw}
use Rattle.packet.specs.declared.Flaw.TheVariants.{Short, Bad}
use Rattle.transport.specs.Header.{count_of, starts, pointer_of, carried_by}
use Rattle.gather.specs.Marks.{mark_loss, mark_misfit, mark_crc}
use Rattle.gather.specs.declared.Marks.{Marks}

abbrev pub none : List ℕ → Bool
none l = eqb (length l) 0

-- ---- what a transport packet brings

-- its count, whether a T2-MI packet starts in it, the bytes before that start (all where there is none), and those from it on
pub record Brought : Type 0 where
  pub count : ℕ
  pub begins : Bool
  pub before : List ℕ
  pub onward : List ℕ

unfoldable pub brought_by : List ℕ → Brought
brought_by t =
    record {
      count = count_of t;
      begins = starts t;
      before = cond (starts t) (take (pointer_of t) (carried_by t)) (carried_by t);
      onward = cond (starts t) (drop (pointer_of t) (carried_by t)) [];
    }

-- ---- what the reader has in hand

-- in step or not, the bytes that wait, the packets handed out so far, and the marks
pub record Hand : Type 0 where
  pub step : Bool
  pub waiting : List ℕ
  pub packets : List (List ℕ)
  pub marks : Marks

-- each mark drops what waits, and the reader is out of step
abbrev pub dropped : Marks → Hand → Hand
dropped marks h = record { step = false; waiting = []; packets = h.packets; marks = marks }

abbrev pub lost : Hand → Hand
lost h = dropped (mark_loss h.marks) h

abbrev pub misfits : Hand → Hand
misfits h = dropped (mark_misfit h.marks) h

abbrev pub crc_fails : Hand → Hand
crc_fails h = dropped (mark_crc h.marks) h

-- in step, with these bytes of an unfinished packet
abbrev pub waits : List ℕ → Hand → Hand
waits l h = record { step = true; waiting = l; packets = h.packets; marks = h.marks }

-- finished packets whose CRC holds; nothing of them waits any more
abbrev pub hands_out : List (List ℕ) → Hand → Hand
hands_out ps h = record { step = h.step; waiting = []; packets = h.packets ++ ps; marks = h.marks }

-- ---- rule 1

-- a count other than last plus 1 modulo 16, if there is a last
abbrev pub out_of_turn : Option ℕ → ℕ → Bool
out_of_turn None count = false
out_of_turn (Some n) count = not (eqb count ((n + 1) % 16))

abbrev pub continuity : Option ℕ → ℕ → Hand → Hand
continuity last count h = cond (out_of_turn last count) (lost h) h

-- bytes that reach their own length are no start of an unfinished packet
abbrev pub reaches : List ℕ → Bool
reaches w = leb (size_of w) (length w)

-- the caller altered the buffer
abbrev pub altered : Hand → Hand
altered h = cond (reaches h.waiting) (misfits h) h

unfoldable pub rule_one : Option ℕ → ℕ → Hand → Hand
rule_one last count h = altered (continuity last count h)

-- ---- rules 2 to 4, up to the start

-- bytes that belong to no packet while in step
abbrev pub strays : List ℕ → Hand → Hand
strays d h = cond (none d) h (misfits h)

-- a packet by its own length: unfinished, finished with a wrong CRC, or finished and good, with what is over after it
abbrev pub finishes : Result ℕ Flaw → List ℕ → Hand → Hand
finishes (Err Short) l h = waits l h
finishes (Err Bad) l h = crc_fails h
finishes (Ok n) l h = strays (drop n l) (hands_out (take n l ∷ []) h)

-- d joins the waiting bytes
unfoldable pub joining : List ℕ → Hand → Hand
joining d h = finishes (judge_of (h.waiting ++ d)) (h.waiting ++ d) h

-- out of step d is passed over. A transport packet with no start brings at least one byte, so that with nothing waiting it
-- is always a misfit
unfoldable pub up_to_start : List ℕ → Hand → Hand
up_to_start d h = cond h.step (cond (none h.waiting) (strays d h) (joining d h)) h

-- ---- rules 3 and 4, from the start on

-- a packet unfinished at the start
abbrev pub unfinished : Hand → Hand
unfinished h = cond (none h.waiting) h (misfits h)

-- packet after packet by their own lengths, up to the first whose CRC is wrong; what is left waits
unfoldable pub from_start : List ℕ → Hand → Hand
from_start l h =
    let c = cut l in
    cond c.bad (crc_fails (hands_out c.packets h)) (waits c.rest (hands_out c.packets h))

-- ---- all four

unfoldable pub rules_on : Brought → Hand → Hand
rules_on b h =
    let front = up_to_start b.before h in
    cond b.begins (from_start b.onward (unfinished front)) front
