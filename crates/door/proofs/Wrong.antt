-- Wrong doors: each is ours but for one function, with a slip that only what C gets can have, and is refuted by one small input.
-- Assumes nothing.
use mathlib.Core.Path.{◌≡◌, refl, ap}
use mathlib.Core.Bool.{cond}
use mathlib.Core.List.{List, [], ◌∷◌}
use Prim.Native.Nat.{ℕ}
use native.Mathlib.Omega.{arith}
use lib.Dec.{eqb}
use lib.ListN.{length, length-replicate}
use Rattle.fields.specs.Formats.{pack, unpack}
use Rattle.fields.specs.Numbers.{number, bytes}
use Rattle.fields.specs.Parts.{overlay}
use Rattle.refusals.specs.Answers.{answer}
use Rattle.crc.specs.Crc as crc
use Rattle.packet.specs.Layout.{size_of}
use Rattle.packet.specs.Cut.{cut_by, cut, batch_fault, joined}
use Rattle.stamp.specs.Layout.{is_null, kind_of, kind_number}
use Rattle.stamp.specs.Read as stamp
use Rattle.transport.specs.Header as transport
use Rattle.transport.specs.Load.{head_bytes, transport_of}
use Rattle.transport.specs.Tests.{pid_outside, field_long, pointer_beyond, transport_checks}
use Rattle.carry.specs.Loads.{gone_of, loads_by, loads_of}
use Rattle.carry.specs.Carry.{numbered, carry_checks, carry_of, transports_in}
use Rattle.gather.specs.State.{start_of, unfit, gather_checks}
use Rattle.demands.specs.Route.{writers}
use Rattle.demands.proofs.Wrong.Changed.{buffer, space}
use Rattle.demands.proofs.Wrong.Three.{one, good}
use Rattle.sfn.specs.Reader.{last_from, SfnOutcome, gathered_by}
use Rattle.sfn.specs.declared.SfnStamp.{SfnStamp}
use Rattle.sfn.specs.declared.reader.SfnReader.{SfnReader}
use Rattle.sfn.specs.declared.reader.SfnStarted.{SfnStarted}
use Rattle.door.specs.Door.{Door, ours}
use Rattle.door.specs.Demand1.{gathered_nothing, Demand1}
use Rattle.door.specs.Demand3.{Demand3}

-- ours with one function changed
abbrev changed : (ℕ → SfnStarted) → (SfnReader → List ℕ → List ℕ → List ℕ → SfnOutcome) → (List ℕ → SfnStamp) → Door
changed start gather stamp_read =
    record {
      crc = ours.crc;
      packet_length = ours.packet_length;
      packet_read = ours.packet_read;
      packet_write = ours.packet_write;
      carry = ours.carry;
      start = start;
      gather = gather;
      stamp_read = stamp_read;
      stamp_write = ours.stamp_write;
      addressing_read = ours.addressing_read;
      addressing_write = ours.addressing_write;
      walk = ours.walk;
      function_read = ours.function_read;
      function_write = ours.function_write;
      mip_read = ours.mip_read;
      mip_write = ours.mip_write;
      emission = ours.emission;
      extra_delay = ours.extra_delay;
    }

-- ---- a refused sfn_gather that gives a reader of zeros, as every other refusal gives zeros

abbrev pub zeros_back : SfnReader → List ℕ → List ℕ → List ℕ → SfnOutcome
zeros_back r t g o =
    let right = gathered_by r t g o in
    let zeros : SfnReader = record { pid = 0; last = 0; in_step = 0; waiting = 0 } in
    cond (eqb right.answer.refusal 0) right (gathered_nothing zeros g o right.answer.refusal)

-- in step with one byte waiting; an empty slice is refused as 1
abbrev waits : SfnReader
waits = record { pid = 32; last = 255; in_step = 1; waiting = 1 }

pub reader-of-zeros : Demand1 (changed ours.start zeros_back ours.stamp_read) → ⊥
unfolding gathered_by last_from gather_checks unfit pid_outside answer
reader-of-zeros d =
    let e : ◌≡◌ {A = ℕ} 0 1 = ap (λ (x : SfnOutcome). x.answer.reader.waiting) ((d.gather waits [] [] []).answers.refusal (λ (z : ◌≡◌ {A = ℕ} 1 0). omega arith)) in
    omega arith

-- ---- a refused sfn_stamp_read that tells the kind of its zeros: seconds of 0 are a relative stamp, whose kind is 1

abbrev pub tells_kind : List ℕ → SfnStamp
tells_kind payload =
    let p = stamp.read_of payload in
    record {
      seconds = p.stamp.seconds;
      refusal = p.refusal;
      subseconds = p.stamp.subseconds.0;
      utco = p.stamp.utco;
      bw = p.stamp.bw;
      kind = kind_number (kind_of p.stamp);
    }

-- no bytes are refused as 23
pub kind-with-refusal : Demand1 (changed ours.start ours.gather tells_kind) → ⊥
unfolding stamp.read_of stamp.read_checks is_null kind_of answer
kind-with-refusal d =
    let e : ◌≡◌ {A = ℕ} 1 0 = ap (λ (s : SfnStamp). s.kind) ((d.stamp_read []).refusal (λ (z : ◌≡◌ {A = ℕ} 23 0). omega arith)) in
    omega arith

-- ---- an sfn_start with a last of 0 for none: the writer's first packet has that count, and is taken for a repeat

abbrev pub last_zero : ℕ → SfnStarted
last_zero pid =
    let right = ours.start pid in
    record {
      refusal = right.refusal;
      reader = record { pid = right.reader.pid; last = 0; in_step = right.reader.in_step; waiting = right.reader.waiting };
    }

pub first-refused : Demand3 (changed last_zero ours.gather ours.stamp_read) → ⊥
unfolding gathered_by last_from gather_checks transport_checks unfit pid_outside field_long pointer_beyond transport.header_field transport.payload_at transport.carried_at transport.carried_by cut_by cut joined size_of crc.crc_holds crc.crc_of crc.run crc.feed crc.bit_at crc.shift overlay answer pack unpack number bytes batch_fault numbered carry_checks carry_of loads_of loads_by gone_of head_bytes transport_of start_of transports_in
first-refused d =
    let m = d.exactly 256 0 refl (omega arith) (one ∷ []) (good, tt) (writers 0 ∷ []) (omega arith, tt) buffer (omega (arith, length-replicate {A = ℕ} 8202 0)) (λ n. space) (λ n. omega (arith, length-replicate {A = ℕ} 8385 9)) in
    let z : ◌≡◌ {A = ℕ} 0 1 = ap length m.handed in omega arith
