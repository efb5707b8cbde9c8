-- Demand 3: over a lossy link the reader hands out exactly the T2-MI packets whose every carrier arrived, and marks exactly
-- the losses.
use Rattle.std.specs.Prelude.{◌≡◌, Bool, false, List, [], ◌∷◌, ◌++◌, ℕ, ◌*◌, ◌≤◌, ◌<◌, length}
use Rattle.fields.specs.Numbers.{Bytes}
use Rattle.packet.specs.Cut.{AllWhole, joined}
use Rattle.transport.specs.Tests.{pid_outside}
use Rattle.carry.specs.Loads.{loads_of}
use Rattle.carry.specs.Theorems.{stream_of}
use Rattle.gather.specs.Marks.{loss_alone}
use Rattle.gather.specs.Gather as gathering
use Rattle.gather.specs.Calls.{calls_by, lent, wrote_by, handed_by, handed_all, marks_all}
use Rattle.gather.specs.declared.Marks.{Marks}
use Rattle.gather.specs.declared.Reader.{Reader}
use Rattle.demands.specs.Library.{Library}
use Rattle.demands.specs.Demand2.Carry.{transports}
use Rattle.demands.specs.Route.{Item, nothing, Route, inputs, arrives, due, loss_marks}

-- ---- the writer's side

-- T2-MI packets for one call of the writer, and the output that is lent to it, which holds anything
pub record Batch : Type 0 where
  pub packets : List (List ℕ)
  pub out : List ℕ

-- a batch that 01 lets the writer take: whole packets whose CRCs hold, not over 65,536 bytes, and room for the exact result
pub record Carriable (b : Batch) : Type 0 where
  pub whole : AllWhole b.packets
  pub bytes : Bytes (joined b.packets)
  pub short : length (joined b.packets) ≤ 65536
  pub room : 188 * length (loads_of b.packets) ≤ length b.out

abbrev pub AllCarriable : List Batch → Type 0
AllCarriable [] = Unit
AllCarriable (b ∷ bs) = Carriable b × AllCarriable bs

-- the T2-MI packets of all batches
abbrev pub packets_of : List Batch → List (List ℕ)
packets_of [] = []
packets_of (b ∷ bs) = b.packets ++ packets_of bs

-- batch after batch on one PID, the count running on
abbrev pub carry_all : Library → ℕ → ℕ → List Batch → List (List ℕ)
carry_all lib pid count [] = []
carry_all lib pid count (b ∷ bs) =
    let o = lib.carry pid count (joined b.packets) b.out in
    transports o ++ carry_all lib pid o.answer.next_count bs

-- ---- the reader's side

-- a call hands out whole packets whose CRCs hold, and nothing else; and as many as it says
pub record Clean (o : gathering.Outcome) : Type 0 where
  pub bytes : joined (handed_by o) ≡ wrote_by o
  pub number : o.answer.packets ≡ length (handed_by o)

-- these losses, and neither a misfit nor a wrong CRC
abbrev pub losses_alone : List Bool → List Marks
losses_alone [] = []
losses_alone (b ∷ bs) = loss_alone b ∷ losses_alone bs

-- what calls give, where these packets and these loss marks are due
pub record Exactly (packets : List (List ℕ)) (losses : List Bool) (os : List gathering.Outcome) : Type 0 where
  pub handed : handed_all os ≡ packets
  pub marked : marks_all os ≡ losses_alone losses

-- ---- the demand

-- whatever arrives, in any state, only whole packets whose CRCs hold are handed out
abbrev pub AlwaysClean : Library → Type 0
AlwaysClean lib = (s : Reader) (t gathering output : List ℕ) → Clean (lib.gather s t gathering output)

-- the transport packets carry the batches' bytes, all of them and in order
abbrev pub CarriesAll : Library → Type 0
CarriesAll lib =
    (pid count : ℕ) → pid_outside pid ≡ false → count < 16 → (batches : List Batch) → AllCarriable batches
    → joined (stream_of (carry_all lib pid count batches)) ≡ joined (packets_of batches)

-- a fresh reader of that PID, with buffers of 01's sizes, over any route; what the outputs hold does not matter
abbrev pub GathersExactly : Library → Type 0
GathersExactly lib =
    (pid count : ℕ) → pid_outside pid ≡ false → count < 16 → (batches : List Batch) → AllCarriable batches
    → (is : List Item) → Route pid (length (carry_all lib pid count batches)) nothing is
    → (gathering : List ℕ) → 8202 ≤ length gathering
    → (outs : ℕ → List ℕ) → ((n : ℕ) → 8385 ≤ length (outs n))
    → Exactly (due (arrives is) (carry_all lib pid count batches) 0 (packets_of batches)) (loss_marks nothing is)
    (calls_by lib.gather (lib.start pid).reader gathering (lent outs (inputs (carry_all lib pid count batches) is)))

pub record Demand3 (lib : Library) : Type 0 where
  pub clean : AlwaysClean lib
  pub carried : CarriesAll lib
  pub exactly : GathersExactly lib
