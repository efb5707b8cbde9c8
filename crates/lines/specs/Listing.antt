-- One step of a listing: a transport packet goes to the reader, and what it hands out is counted and gets its lines.
use Rattle.std.specs.Prelude.{ℕ, ◌+◌, ◌-◌, ◌*◌, ◌^◌, min, Bool, true, false, not, cond, List, [], ◌∷◌, leb, length}
use Rattle.fields.specs.Parts.{overlay}
use Rattle.gather.specs.State.{fresh}
use Rattle.gather.specs.Gather.{Gathered, Outcome, gather_of}
use Rattle.gather.specs.Calls.{handed_by}
use Rattle.lines.specs.Lines.{lines_of}
use Rattle.lines.specs.declared.Listing.{Listing}

-- the PID that is listed
abbrev pub listed_pid : ℕ
listed_pid = 0x1000

-- a listing that has seen nothing
abbrev pub start_listing : Listing
start_listing = record { reader = fresh listed_pid; packets = 0; gaps = 0 }

-- ---- the totals

-- totals stop at the largest number of 64 bits
unfoldable pub capped : ℕ → ℕ
capped n = min n (2 ^ 64 - 1)

abbrev pub bit : Bool → ℕ
bit b = cond b 1 0

-- the totals after a call: its packets, and one more gap where the loss mark is set
abbrev pub after_of : Listing → Gathered → Listing
after_of l a =
    record {
      reader = a.reader;
      packets = capped (l.packets + a.packets);
      gaps = capped (l.gaps + bit a.marks.loss);
    }

-- ---- a step

-- there is room for the lines of any call: a line is never longer than twice its packet (19 bytes for 10)
unfoldable pub roomy : ℕ → ℕ → ℕ → Bool
roomy filled space room = leb (filled + 2 * space) room

-- what a step answers: the next state, and how much of the lines is filled; or it is full
pub record Step : Type 0 where
  pub full : Bool
  pub listing : Listing
  pub filled : ℕ

-- the answer that `step` gave, where l is the listing after it, and so much is then filled
abbrev pub step_told : Listing → ℕ → Bool → Step
step_told l filled done = record { full = not done; listing = l; filled = filled }

-- the answer, and what the lent buffers hold after it
pub record Stepped : Type 0 where
  pub answer : Step
  pub gathering : List ℕ
  pub output : List ℕ
  pub lines : List ℕ

-- the lines of a call behind what is filled; the reader's two buffers as the reader leaves them
abbrev pub listed_of : Listing → Outcome → List ℕ → ℕ → Stepped
listed_of l o lines filled =
    record {
      answer = record { full = false; listing = after_of l o.answer; filled = filled + length (lines_of (handed_by o)) };
      gathering = o.gathering;
      output = o.output;
      lines = overlay filled (lines_of (handed_by o)) lines;
    }

-- where there may be too little room nothing is done, and the answer says so
unfoldable pub step_of : Listing → List ℕ → List ℕ → List ℕ → List ℕ → ℕ → Stepped
step_of l t gathering output lines filled =
    cond (roomy filled (length output) (length lines))
    (listed_of l (gather_of l.reader t gathering output) lines filled)
    (record { answer = record { full = true; listing = l; filled = filled }; gathering = gathering; output = output; lines = lines })

-- ---- pieces, one after another

-- what feeding answers: the next state, how many bytes are taken, and how much of the lines is filled; it is full where it
-- stopped before a piece whose lines may have too little room
pub record Fed : Type 0 where
  pub full : Bool
  pub listing : Listing
  pub taken : ℕ
  pub filled : ℕ

-- the answer where so many bytes of a block are taken, l is the listing after it, and so much is then filled: it is full where a
-- whole piece is left
abbrev pub fed_told : Listing → ℕ → ℕ → ℕ → Fed
fed_told l have taken filled = record { full = leb 188 (have - taken); listing = l; taken = taken; filled = filled }

pub record Feeding : Type 0 where
  pub answer : Fed
  pub gathering : List ℕ
  pub output : List ℕ
  pub lines : List ℕ

-- a step for each piece, up to the first that finds too little room; `taken` counts the bytes of those before it
unfoldable pub fed_of : List (List ℕ) → Listing → List ℕ → List ℕ → List ℕ → ℕ → ℕ → Feeding
fed_of [] l gathering output lines taken filled =
    record {
      answer = record { full = false; listing = l; taken = taken; filled = filled };
      gathering = gathering;
      output = output;
      lines = lines;
    }
fed_of (p ∷ ps) l gathering output lines taken filled =
    let s = step_of l p gathering output lines filled in
    cond s.answer.full
    (record {
      answer = record { full = true; listing = l; taken = taken; filled = filled };
      gathering = gathering;
      output = output;
      lines = lines;
    })
    (fed_of ps s.answer.listing s.gathering s.output s.lines (taken + 188) s.answer.filled)
