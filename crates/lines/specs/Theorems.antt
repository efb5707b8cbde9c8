-- What the theorems of the listing say: proofs/RunLaws proves them of specs/Listing.
use Rattle.std.specs.Prelude.{ℕ, zero, suc, ◌+◌, ◌*◌, ◌≤◌, ◌<◌, ◌≡◌, Bool, true, cond, List, [], ◌∷◌, ◌++◌, length, take, drop, replicate}
use Rattle.gather.specs.State.{fresh}
use Rattle.gather.specs.Gather.{Outcome}
use Rattle.gather.specs.Calls.{calls_of, lent, handed_all, marks_all}
use Rattle.gather.specs.declared.Marks.{Marks}
use Rattle.text.specs.Laid.{Filled, appended}
use Rattle.lines.specs.Lines.{head_line, lines_of, last_line}
use Rattle.lines.specs.Pieces.{pieces}
use Rattle.lines.specs.Listing.{listed_pid, start_listing, capped, bit, Feeding, fed_of}
use Rattle.lines.specs.declared.Listing.{Listing}

-- ---- what is to be printed for transport packets

-- how many calls had the loss mark
unfoldable pub losses : List Marks → ℕ
losses [] = 0
losses (m ∷ ms) = bit m.loss + losses ms

-- the header, a line for each packet, and the totals
unfoldable pub text_of : List Outcome → List ℕ
text_of answers =
    head_line ++ (lines_of (handed_all answers) ++ last_line (capped (length (handed_all answers))) (capped (losses (marks_all answers))))

-- the listing: a fresh reader of the PID, and buffers of zeros
unfoldable pub listing_of : List (List ℕ) → List ℕ
listing_of ts = text_of (calls_of (fresh listed_pid) (replicate 8202 0) (lent (λ n. replicate 8385 0) ts))

-- of all bytes of an input: their whole pieces
unfoldable pub listing_of_bytes : List ℕ → List ℕ
listing_of_bytes d = listing_of (pieces d)

-- ---- what a program does

-- between two reads: the state and the three lent buffers, the bytes that wait for the rest of their piece, and what was
-- written out already
pub record Run : Type 0 where
  pub listing : Listing
  pub gathering : List ℕ
  pub output : List ℕ
  pub lines : List ℕ
  pub rest : List ℕ
  pub written : List ℕ

-- feeds what waits
abbrev pub feed_on : Run → Feeding
feed_on r = fed_of (pieces r.rest) r.listing r.gathering r.output r.lines 0 0

-- the lines are written out, and what was taken waits no more
abbrev pub wrote_on : Run → Feeding → Run
wrote_on r f =
    record {
      listing = f.answer.listing;
      gathering = f.gathering;
      output = f.output;
      lines = f.lines;
      rest = drop f.answer.taken r.rest;
      written = r.written ++ take f.answer.filled f.lines;
    }

-- again while the lines are full, k times at most
unfoldable pub fed_up : ℕ → Run → Run
fed_up zero r = r
fed_up (suc k) r = cond (feed_on r).answer.full (fed_up k (wrote_on r (feed_on r))) (wrote_on r (feed_on r))

-- a read brought these bytes: they wait behind the rest, and are fed. No more turns than pieces, and one, are needed
abbrev pub brought : List ℕ → Run → Run
brought chunk r =
    record {
      listing = r.listing;
      gathering = r.gathering;
      output = r.output;
      lines = r.lines;
      rest = r.rest ++ chunk;
      written = r.written;
    }

abbrev pub took : List ℕ → Run → Run
took chunk r = fed_up (suc (length (pieces (r.rest ++ chunk)))) (brought chunk r)

-- whatever the reads bring, one after another
abbrev pub took_all : List (List ℕ) → Run → Run
took_all [] r = r
took_all (chunk ∷ chunks) r = took_all chunks (took chunk r)

abbrev pub all_bytes : List (List ℕ) → List ℕ
all_bytes [] = []
all_bytes (chunk ∷ chunks) = chunk ++ all_bytes chunks

-- a text laid at the front of the lines, and written out
abbrev pub printed : Filled → Run → Run
printed f r =
    record {
      listing = r.listing;
      gathering = r.gathering;
      output = r.output;
      lines = f.lines;
      rest = r.rest;
      written = r.written ++ take f.at f.lines;
    }

-- the header at first, and the totals at the end
abbrev pub begun : List ℕ → List ℕ → List ℕ → Run
begun gathering output lines =
    printed (appended head_line 0 lines)
    (record { listing = start_listing; gathering = gathering; output = output; lines = lines; rest = []; written = [] })

abbrev pub ended : Run → Run
ended r = printed (appended (last_line r.listing.packets r.listing.gaps) 0 r.lines) r

-- buffers of 01's sizes, and lines with room for the lines of any call
pub record Ample (gathering output lines : List ℕ) : Type 0 where
  pub gathers : 8202 ≤ length gathering
  pub hands : 8385 ≤ length output
  pub lays : 2 * length output ≤ length lines

-- ---- what a program that reads and writes can be said to have done

-- a run from r on: bytes are read, and what waits is fed and written out, in any order. The bytes are those that it read
pub data Ran (r : Run) : List ℕ → Run → Type 0 where
  begins : Ran r [] r
  reads : (d : List ℕ) (e : Run) (chunk : List ℕ) → Ran r d e → Ran r (d ++ chunk) (brought chunk e)
  feeds : (d : List ℕ) (e : Run) → Ran r d e → Ran r d (wrote_on e (feed_on e))

-- after the header
abbrev pub opened : List ℕ → List ℕ → List ℕ → Run
opened gathering output lines =
    record {
      listing = start_listing;
      gathering = gathering;
      output = output;
      lines = lines;
      rest = [];
      written = head_line;
    }

-- some run came to this state, with these bytes waiting
pub record Reached (from : Run) (l : Listing) (gathering output lines rest : List ℕ) : Type 0 where
  pub bytes : List ℕ
  pub written : List ℕ
  pub ran : Ran from bytes (record {
    listing = l;
    gathering = gathering;
    output = output;
    lines = lines;
    rest = rest;
    written = written;
  })

-- how a program ends: after some run, and where the listing is whole no piece is left
pub record Ends (from : Run) (l : Listing) (gathering output lines : List ℕ) (whole : Bool) : Type 0 where
  pub rest : List ℕ
  pub reached : Reached from l gathering output lines rest
  pub short : whole ≡ true → length rest < 188
