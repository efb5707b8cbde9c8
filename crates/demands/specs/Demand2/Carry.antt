-- Carriage: the batch writer and the gathering reader (01, "Carriage: the writer" and "Carriage: the reader").
use Rattle.std.specs.Prelude.{ℕ, ◌+◌, ◌%◌, ◌≡◌, false, cond, List, map, length}
use Rattle.fields.specs.Parts.{overlay}
use Rattle.refusals.specs.Checks.{first}
use Rattle.packet.specs.Cut.{joined}
use Rattle.transport.specs.Header.{starts, pointer_of, carried_by}
use Rattle.transport.specs.Load.{Load, plain, start}
use Rattle.transport.specs.Tests.{pid_outside}
use Rattle.carry.specs.Carry.{Outcome, packets_of, loads, numbered, carry_checks, transports_in}
use Rattle.carry.specs.Theorems.{Packets, stream_of, beginnings, AllRight}
use Rattle.gather.specs.State.{fresh, gather_checks}
use Rattle.gather.specs.Gather.{taken_of}
use Rattle.gather.specs.declared.Reader.{Reader}
use Rattle.demands.specs.Library.{Library}

-- the transport packets that the writer counts
abbrev pub transports : Outcome → List (List ℕ)
transports o = transports_in o.answer.packets o.out

-- what a transport packet carries, by its start indicator and its pointer
abbrev pub load_of : List ℕ → Load
load_of t = cond (starts t) (start (pointer_of t) (carried_by t)) (plain (carried_by t))

-- what was written, in words
pub record Written (pid first_count : ℕ) (batch : List ℕ) (o : Outcome) : Type 0 where
  -- 188 bytes each from 0x47, the PID, and the counts rising by 1 modulo 16 from the first; no pointer aims past the end
  pub packets : Packets pid first_count (transports o)
  -- what they carry, one after another, is the batch
  pub carried : joined (stream_of (transports o)) ≡ batch
  -- a start stands exactly where a T2-MI packet begins, and its pointer aims at the first that does
  pub starting : AllRight 0 (beginnings 0 (packets_of batch)) (map load_of (transports o))
  -- the count to go on with
  pub next : o.answer.next_count ≡ (first_count + o.answer.packets) % 16

pub record Carriage (lib : Library) : Type 0 where
  -- where no check of 01's list holds: the transport packets of 01's four cases, numbered, at the front of the output
  pub writes : (pid first_count : ℕ) (batch out : List ℕ) → first (carry_checks pid first_count batch (length out)) ≡ 0
      → lib.carry pid first_count batch out ≡ record {
        answer = record { refusal = 0; packets = length (loads batch); next_count = (first_count + length (loads batch)) % 16 };
        out = overlay 0 (joined (numbered pid first_count (loads batch))) out;
      }
  pub words : (pid first_count : ℕ) (batch out : List ℕ) → first (carry_checks pid first_count batch (length out)) ≡ 0
      → Written pid first_count batch (lib.carry pid first_count batch out)
  -- a fresh reader is out of step with no count
  pub begins : (pid : ℕ) → pid_outside pid ≡ false → lib.start pid ≡ record { refusal = 0; reader = fresh pid }
  -- what rules 1 to 4 give
  pub gathers : (s : Reader) (t gathering output : List ℕ) → first (gather_checks s t (length gathering) (length output)) ≡ 0
      → lib.gather s t gathering output ≡ taken_of s t gathering output
