-- DEMAND 3 of a door: over a lossy link, sfn_start and sfn_gather hand out exactly the T2-MI packets whose every carrier, written
-- by sfn_carry, arrived, and mark exactly the losses. The words, the premises and the routes are those of demand 3 of a library;
-- the calls, the state that goes from one to the next, and the marks are as C has them.
use Rattle.std.specs.Prelude.{◌≡◌, Bool, false, List, [], ◌∷◌, ◌++◌, map, ℕ, ◌≤◌, ◌<◌, length, take}
use Rattle.packet.specs.Cut.{Whole, cut, joined}
use Rattle.transport.specs.Tests.{pid_outside}
use Rattle.carry.specs.Theorems.{stream_of}
use Rattle.gather.specs.Calls.{Call, lent}
use Rattle.demands.specs.Demand2.Carry.{transports}
use Rattle.demands.specs.Demand3.{Batch, AllCarriable, packets_of}
use Rattle.demands.specs.Route.{Item, nothing, Route, inputs, arrives, due, loss_marks}
use Rattle.sfn.specs.Answers.{bit_of}
use Rattle.sfn.specs.Reader.{SfnOutcome}
use Rattle.sfn.specs.declared.reader.SfnReader.{SfnReader}
use Rattle.door.specs.Door.{Door}

-- ---- the writer's side

-- batch after batch on one PID, the count running on
abbrev pub carry_all : Door → ℕ → ℕ → List Batch → List (List ℕ)
carry_all door pid count [] = []
carry_all door pid count (b ∷ bs) =
    let o = door.carry pid count (joined b.packets) b.out in
    transports o ++ carry_all door pid o.answer.next_count bs

-- ---- the reader's side

-- a row of calls: the state, as C holds it, and the gathering buffer go on from each to the next
abbrev pub calls_by : Door → SfnReader → List ℕ → List Call → List SfnOutcome
calls_by door r gathering [] = []
calls_by door r gathering (c ∷ cs) =
    let o = door.gather r c.transport gathering c.output in
    o ∷ calls_by door o.answer.reader o.gathering cs

-- the bytes that a call wrote, and these bytes cut into packets by their own lengths
abbrev pub wrote_by : SfnOutcome → List ℕ
wrote_by o = take o.answer.bytes o.out

abbrev pub handed_by : SfnOutcome → List (List ℕ)
handed_by o = (cut (wrote_by o)).packets

-- of all calls, in their order
abbrev pub handed_all : List SfnOutcome → List (List ℕ)
handed_all [] = []
handed_all (o ∷ os) = handed_by o ++ handed_all os

-- the three marks of a call, each 1 or 0
pub record Told : Type 0 where
  pub loss : ℕ
  pub misfit : ℕ
  pub crc : ℕ

abbrev pub told_by : SfnOutcome → Told
told_by o = record { loss = o.answer.loss; misfit = o.answer.misfit; crc = o.answer.crc }

-- a loss or none, and neither a misfit nor a wrong CRC
abbrev pub loss_alone : Bool → Told
loss_alone loss = record { loss = bit_of loss; misfit = 0; crc = 0 }

-- a call hands out whole packets whose CRCs hold, and nothing else; and as many as it says
pub record Clean (o : SfnOutcome) : Type 0 where
  pub bytes : joined (handed_by o) ≡ wrote_by o
  pub number : o.answer.packets ≡ length (handed_by o)

-- what calls give, where these packets and these loss marks are due
pub record Exactly (packets : List (List ℕ)) (losses : List Bool) (os : List SfnOutcome) : Type 0 where
  pub handed : handed_all os ≡ packets
  pub marked : map told_by os ≡ map loss_alone losses

-- ---- the demand

-- whatever arrives, in any state, only whole packets whose CRCs hold are handed out
abbrev pub AlwaysClean : Door → Type 0
AlwaysClean door = (r : SfnReader) (t gathering out : List ℕ) → Clean (door.gather r t gathering out)

-- the transport packets carry the batches' bytes, all of them and in order
abbrev pub CarriesAll : Door → Type 0
CarriesAll door =
    (pid count : ℕ) → pid_outside pid ≡ false → count < 16 → (batches : List Batch) → AllCarriable batches
    → joined (stream_of (carry_all door pid count batches)) ≡ joined (packets_of batches)

-- a fresh reader of that PID, with buffers of 01's sizes, over any route; what the outputs hold does not matter
abbrev pub GathersExactly : Door → Type 0
GathersExactly door =
    (pid count : ℕ) → pid_outside pid ≡ false → count < 16 → (batches : List Batch) → AllCarriable batches
    → (is : List Item) → Route pid (length (carry_all door pid count batches)) nothing is
    → (gathering : List ℕ) → 8202 ≤ length gathering
    → (outs : ℕ → List ℕ) → ((n : ℕ) → 8385 ≤ length (outs n))
    → Exactly (due (arrives is) (carry_all door pid count batches) 0 (packets_of batches)) (loss_marks nothing is)
    (calls_by door (door.start pid).reader gathering (lent outs (inputs (carry_all door pid count batches) is)))

-- of packets back to back sfn_packet_length tells the first one's length, and of no bytes 0: so C cuts what a call wrote as
-- `handed_by` does
pub record TellsLengths (door : Door) : Type 0 where
  pub first : (p l : List ℕ) → Whole p → door.packet_length (p ++ l) ≡ length p
  pub none : door.packet_length [] ≡ 0

pub record Demand3 (door : Door) : Type 0 where
  pub clean : AlwaysClean door
  pub carried : CarriesAll door
  pub exactly : GathersExactly door
  pub lengths : TellsLengths door
