-- The gathering reader, laid out flat, and a state of C's as a reader's state.
use Rattle.std.specs.Prelude.{ℕ, ◌^◌, ◌<◌, cond, List, ◌∷◌, eqb, ltb, length, Option, None, Some}
use Rattle.refusals.specs.Checks.{Check, ◌when◌}
use Rattle.refusals.specs.Answers.{answer}
use Rattle.gather.specs.State.{Started, gather_checks}
use Rattle.gather.specs.Gather.{Gathered, Outcome, taken_of}
use Rattle.gather.specs.declared.Reader.{Reader}
use Rattle.sfn.specs.Answers.{bit_of}
use Rattle.sfn.specs.declared.reader.SfnReader.{SfnReader}
use Rattle.sfn.specs.declared.reader.SfnStarted.{SfnStarted}
use Rattle.sfn.specs.declared.reader.SfnGathered.{SfnGathered}

-- 255 stands for no last count
unfoldable pub last_from : ℕ → Option ℕ
last_from n = cond (eqb n 255) None (Some n)

abbrev pub last_of : Option ℕ → ℕ
last_of None = 255
last_of (Some n) = n

abbrev pub reader_of : Reader → SfnReader
reader_of r =
    record { pid = r.pid; last = last_of r.last; in_step = bit_of r.in_step; waiting = r.waiting }

abbrev pub reader_from : SfnReader → Reader
reader_from r =
    record { pid = r.pid; last = last_from r.last; in_step = eqb r.in_step 1; waiting = r.waiting }

abbrev pub started_of : Started → SfnStarted
started_of s = record { refusal = s.refusal; reader = reader_of s.reader }

abbrev pub gathered_of : Gathered → SfnGathered
gathered_of g =
    record {
      refusal = g.refusal;
      reader = reader_of g.reader;
      bytes = g.bytes;
      packets = g.packets;
      loss = bit_of g.marks.loss;
      misfit = bit_of g.marks.misfit;
      crc = bit_of g.marks.crc;
    }

-- an answer's numbers fit C's 32 bits: only proofs cite this
pub record GatherFits (g : Gathered) : Type 0 where
  pub waiting : g.reader.waiting < 2 ^ 32
  pub bytes : g.bytes < 2 ^ 32
  pub packets : g.packets < 2 ^ 32

-- the answer, and what the two lent buffers hold after it
pub record SfnOutcome : Type 0 where
  pub answer : SfnGathered
  pub gathering : List ℕ
  pub out : List ℕ

abbrev pub outcome_of : Outcome → SfnOutcome
outcome_of o = record { answer = gathered_of o.answer; gathering = o.gathering; out = o.output }

-- a refusal: its number, zeros, the reader as it was handed in, both buffers as they were
abbrev pub refused_with : SfnReader → ℕ → SfnGathered
refused_with r n = record { refusal = n; reader = r; bytes = 0; packets = 0; loss = 0; misfit = 0; crc = 0 }

abbrev pub refused_by : SfnReader → List ℕ → List ℕ → ℕ → SfnOutcome
refused_by r gathering out n =
    record {
      answer = refused_with r n;
      gathering = gathering;
      out = out;
    }

-- an in_step over 1 is no state of a reader: 38, which comes before the refusals of gathering
abbrev pub gathering_checks : SfnReader → List ℕ → ℕ → ℕ → List Check
gathering_checks r t room space = 38 when ltb 1 r.in_step ∷ gather_checks (reader_from r) t room space

unfoldable pub gathered_by : SfnReader → List ℕ → List ℕ → List ℕ → SfnOutcome
gathered_by r t gathering out =
    answer (gathering_checks r t (length gathering) (length out))
    (refused_by r gathering out)
    (outcome_of (taken_of (reader_from r) t gathering out))
