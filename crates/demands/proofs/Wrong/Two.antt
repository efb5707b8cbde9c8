-- Wrong libraries do not meet demand 2 (01: "See each of these rejected"), each by one small input.
-- Assumes nothing.
use mathlib.Core.Path.{◌≡◌, refl, sym, ap, ◌∙◌}
use mathlib.Core.Bool.{Bool, cond, ◌&&◌}
use mathlib.Core.List.{List, [], ◌∷◌, ◌++◌, map}
use Prim.Native.Nat.{ℕ}
use native.Mathlib.Omega.{arith}
use lib.Dec.{eqb}
use lib.IntN.{ℤ, pos}
use lib.ListN.{length, get_or, replicate}
use Rattle.crc.specs.Crc.{shift, bit_at, feed, run, crc_of, crc_holds}
use Rattle.crc.specs.Sealed.{sealed}
use Rattle.fields.specs.Formats.{pack, unpack, too_wide}
use Rattle.fields.specs.Numbers.{number, bytes}
use Rattle.fields.specs.Parts.{part, overlay, number_at}
use Rattle.fields.specs.Signed.{signed}
use Rattle.fields.proofs.Cases.{true≢false}
use Rattle.refusals.specs.Answers.{Wrote, answer}
use Rattle.packet.specs.Layout.{reserved_type, pad_set, size_of}
use Rattle.packet.specs.Cut.{cut, cut_by, batch_fault, joined}
use Rattle.packet.specs.Read as packet
use Rattle.packet.specs.Write as packet_writing
use Rattle.packet.specs.declared.Header.{Header}
use Rattle.packet.specs.Read.{Packet}
use Rattle.stamp.specs.Layout as stamp
use Rattle.stamp.specs.Read as stamp_reading
use Rattle.stamp.specs.Read.{StampRead}
use Rattle.functions.specs.Tags.{body_long, body_wrong, bandwidth_reserved}
use Rattle.functions.specs.Function.{function_of}
use Rattle.functions.specs.Read as function
use Rattle.functions.specs.Write as function_writing
use Rattle.functions.specs.declared.Function.{Function}
use Rattle.functions.specs.declared.Function.TheVariants.{TimeOffset, FrequencyOffset}
use Rattle.functions.specs.Read.{FunctionRead}
use Rattle.addressing.specs.Data.{entries_by, entries_in, functions_of, fault_in, fault_of}
use Rattle.addressing.specs.Payload as addressing
use Rattle.addressing.specs.Walk as walking
use Rattle.addressing.specs.Payload.{PayloadRead}
use Rattle.addressing.specs.Walk.{Walked}
use Rattle.mip.specs.Read as mip
use Rattle.mip.specs.Timing as timing
use Rattle.mip.specs.Read.{MipRead}
use Rattle.mip.specs.Timing.{Time}
use Rattle.transport.specs.Header.{header_field, payload_at, carried_at, carried_by as carried_bytes}
use Rattle.transport.specs.Load.{Load, plain, start, head_bytes, transport_of}
use Rattle.transport.specs.Tests.{pid_outside}
use Rattle.carry.specs.Loads.{gone_of, loads_by, loads_of}
use Rattle.carry.specs.Carry as carrying
use Rattle.gather.specs.State.{fresh, no_reader}
use Rattle.gather.specs.Marks.{no_marks}
use Rattle.gather.specs.Rules.{brought_by, rule_one, up_to_start, from_start, rules_on}
use Rattle.gather.specs.Gather as gathering
use Rattle.gather.specs.declared.Reader.{Reader}
use Rattle.gather.specs.State.{Started}
use Rattle.demands.specs.Library.{Library, ours}
use Rattle.demands.specs.Demand2.{Demand2}
use Rattle.demands.specs.Demand2.Packet.{Packets}
use Rattle.demands.specs.Demand2.Stamp.{Stamps}
use Rattle.demands.specs.Demand2.Function.{Functions}
use Rattle.demands.specs.Demand2.Address.{Addressing, Walks}
use Rattle.demands.specs.Demand2.Mip.{Mips, Timing}
use Rattle.demands.specs.Demand2.Carry.{Carriage}
use Rattle.demands.proofs.Wrong.Changed.{five, six, good-five, good-six, zeros-mip, good-mip, good-time, buffer, space, carrier, good-carrier, startless, good-startless, reading, writing, telling, timed_by, carried_by, gathered_by}

-- ---- REFUSES EVERYTHING: each format by itself rejects it

abbrev refused : List ℕ → Wrote
refused out = record { answer = record { refusal = 38; bytes = 0 }; out = out }

abbrev refusing : Library
refusing =
    record {
      crc = ours.crc;
      packet_read = λ s. record { refusal = 38; header = packet.no_header };
      packet_payload = λ s. [];
      packet_write = λ h payload out. refused out;
      next_count = ours.next_count;
      stamp_read = λ s. record { refusal = 38; stamp = stamp_reading.no_stamp };
      stamp_write = λ s out. refused out;
      stamp_kind = ours.stamp_kind;
      units = ours.units;
      function_read = λ tag body. record { refusal = 38; function = function.no_function };
      function_write = λ f carried out. refused out;
      addressing_read = λ p. record { refusal = 38; bytes = 0 };
      addressing_data = λ p. [];
      addressing_write = λ d out. refused out;
      walk = λ d tx place. walking.refused 38;
      mip_read = λ p. record { refusal = 38; addressing = 0; mip = mip.no_mip };
      mip_addressing = λ p. [];
      mip_write = λ m d out. refused out;
      emission = λ stamp delay offset. timing.time 38 (timing.steps 0);
      extra_delay = λ stamp delay offset reception. timing.time 38 (timing.steps 0);
      carry = λ pid count batch out. record { answer = record { refusal = 38; packets = 0; next_count = 0 }; out = out };
      start = λ pid. record { refusal = 38; reader = no_reader };
      gather = λ s t buffer out. gathering.refused_of s buffer out 38;
    }

some : ◌≡◌ {A = ℕ} 38 0 → ⊥
some z = omega arith

pub record Rejected : Type 0 where
  pub packets : Packets refusing → ⊥
  pub stamps : Stamps refusing → ⊥
  pub functions : Functions refusing → ⊥
  pub addressing : Addressing refusing → ⊥
  pub walks : Walks refusing → ⊥
  pub mips : Mips refusing → ⊥
  pub timing : Timing refusing → ⊥
  pub carriage : Carriage refusing → ⊥

pub each-rejects : Rejected
unfolding stamp_reading.read_checks stamp_reading.stamp_of stamp.second_reached stamp.is_null addressing.payload_checks fault_of fault_in entries_in entries_by functions_of walking.walk_checks walking.reached walking.step_in walking.functions_for walking.heard_of timing.emission_checks number pack unpack pid_outside
each-rejects =
    record {
      packets = λ d. some (ap (λ (r : Packet). r.refusal) (d.reads five good-five));
      stamps = λ d. some (ap (λ (r : StampRead). r.refusal) (d.reads (replicate 11 0) refl));
      functions = λ d. some (ap (λ (r : FunctionRead). r.refusal) (d.reads 0 (0xFF ∷ 0xFF ∷ []) good-time));
      addressing = λ d. some (ap (λ (r : PayloadRead). r.refusal) (d.reads (0 ∷ 0 ∷ []) refl));
      walks = λ d. some (ap (λ (r : Walked). r.refusal) (d.step [] 1 0 refl));
      mips = λ d. some (ap (λ (r : MipRead). r.refusal) (d.reads zeros-mip good-mip));
      timing = λ d. some (ap (λ (r : Time). r.refusal) (d.emission (timing.steps 0) (timing.steps 0) (pos 0) refl));
      carriage = λ d. some (ap (λ (r : Started). r.refusal) (d.begins 0x1000 refl));
    }

pub refuses-everything : Demand2 refusing → ⊥
refuses-everything d = each-rejects.packets d.packets

-- the reader of transport packets alone
pub gathers-nothing : (n : ℕ) → (n ≡ 0 → ⊥) → Demand2 (gathered_by (λ s t buffer out. gathering.refused_of s buffer out n)) → ⊥
unfolding gathering.taken_of
gathers-nothing n h d = h (ap (λ (o : gathering.Outcome). o.answer.refusal) (d.carriage.gathers (fresh 0x1000) carrier buffer space good-carrier))

-- ---- RETURNS ONE PACKET ALWAYS, whichever it is

pub returns_one : (c : Packet) → Demand2 (reading (λ s. c)) → ⊥
unfolding packet.header_of number_at number part pack unpack
returns_one c d =
    let z : ◌≡◌ {A = ℕ} 5 6 = ap (λ (p : Packet). p.header.count) (sym (d.packets.reads five good-five) ∙ d.packets.reads six good-six) in
    omega arith

-- a reader of transport packets that goes on as ours does, but hands out the same packet at every call
abbrev hands-five : Reader → List ℕ → List ℕ → List ℕ → gathering.Outcome
hands-five s t buffer out =
    let o = ours.gather s t buffer out in
    record {
      answer = record { refusal = 0; reader = o.answer.reader; bytes = 10; packets = 1; marks = no_marks };
      gathering = o.gathering;
      output = overlay 0 five out;
    }

pub hands-out-one : Demand2 (gathered_by hands-five) → ⊥
unfolding gathering.taken_of brought_by rule_one up_to_start rules_on header_field payload_at carried_at carried_bytes size_of transport_of head_bytes number bytes pack unpack
hands-out-one d =
    let z : ◌≡◌ {A = ℕ} 1 0 = ap (λ (o : gathering.Outcome). o.answer.packets) (d.carriage.gathers (fresh 0x1000) startless buffer space good-startless) in
    omega arith

-- ---- WRITES NOTHING, though it answers as ours does

abbrev unwritten : Header → List ℕ → List ℕ → Wrote
unwritten h payload out = record { answer = (ours.packet_write h payload out).answer; out = out }

abbrev header-five : Header
header-five = record { kind = 0; count = 5; frame = 0; stream = 0; bits = 0 }

pub writes_nothing : Demand2 (writing unwritten) → ⊥
unfolding packet_writing.write_checks packet_writing.packet_bytes packet_writing.front_bytes sealed reserved_type too_wide pad_set crc_of run feed bit_at shift bytes pack unpack overlay
writes_nothing d =
    let z : ◌≡◌ {A = ℕ} 9 5 = ap (λ (w : Wrote). get_or w.out 1 0) (d.packets.writes header-five [] (replicate 10 9) refl) in
    omega arith

-- the reader of transport packets
abbrev unlaid : Reader → List ℕ → List ℕ → List ℕ → gathering.Outcome
unlaid s t buffer out = let o = ours.gather s t buffer out in record { answer = o.answer; gathering = buffer; output = out }

pub hands-out-nothing : Demand2 (gathered_by unlaid) → ⊥
unfolding gathering.taken_of brought_by rule_one up_to_start from_start rules_on header_field payload_at carried_at carried_bytes cut cut_by joined crc_holds crc_of run feed bit_at shift size_of transport_of head_bytes number bytes pack unpack overlay
hands-out-nothing d =
    let z : ◌≡◌ {A = ℕ} 9 5 = ap (λ (o : gathering.Outcome). get_or o.output 1 0) (d.carriage.gathers (fresh 0x1000) carrier buffer space good-carrier) in
    omega arith

-- ---- INVENTS COUNTS: packets read with a count of its own, and transport packets numbered from 7 whatever the first
-- count

abbrev counted : Packet → Packet
counted p = record { refusal = p.refusal; header = record { kind = p.header.kind; count = 7; frame = p.header.frame; stream = p.header.stream; bits = p.header.bits } }

pub invents-packet-counts : Demand2 (reading (λ s. counted (ours.packet_read s))) → ⊥
unfolding packet.header_of number_at number part pack unpack
invents-packet-counts d =
    let z : ◌≡◌ {A = ℕ} 7 5 = ap (λ (p : Packet). p.header.count) (d.packets.reads five good-five) in
    omega arith

abbrev from-seven : ℕ → ℕ → List ℕ → List ℕ → carrying.Outcome
from-seven pid first_count batch out = record { answer = (ours.carry pid first_count batch out).answer; out = (ours.carry pid 7 batch out).out }

pub invents-transport-counts : Demand2 (carried_by from-seven) → ⊥
unfolding carrying.carry_of carrying.carry_checks batch_fault carrying.numbered answer pid_outside cut cut_by joined size_of crc_holds crc_of run feed bit_at shift loads_of loads_by gone_of transport_of head_bytes bytes pack unpack overlay
invents-transport-counts d =
    let z : ◌≡◌ {A = ℕ} 0x37 0x30 = ap (λ (o : carrying.Outcome). get_or o.out 3 0) (d.carriage.writes 0x1000 0 five (replicate 188 0) refl) in
    omega arith

-- ---- THE SLIPS OF OTHER BOXES: an offset taken as unsigned (Mill Road: FF FF is −1, and not 65,535)

abbrev unsignedly : ℕ → (ℤ → Function) → ℕ → List ℕ → FunctionRead
unsignedly tag kind t body =
    let r = ours.function_read t body in
    cond (eqb t tag && eqb r.refusal 0) (record { refusal = 0; function = kind (pos (number body)) }) r

-- the unsigned value is too wide for the offset's bits, and the signed one is not
abbrev unfit_in : FunctionRead → Bool
unfit_in r = function_writing.unfit r.function

pub unsigned-time : Demand2 (telling (unsignedly 0 TimeOffset)) → ⊥
unfolding function.function_read function.read_checks answer body_long body_wrong bandwidth_reserved function_of function_writing.unfit number pack signed
unsigned-time d = true≢false (ap unfit_in (d.functions.reads 0 (0xFF ∷ 0xFF ∷ []) good-time))

pub unsigned-frequency : Demand2 (telling (unsignedly 1 FrequencyOffset)) → ⊥
unfolding function.function_read function.read_checks answer body_long body_wrong bandwidth_reserved function_of function_writing.unfit number pack signed
unsigned-frequency d = true≢false (ap unfit_in (d.functions.reads 1 (0xFF ∷ 0xFF ∷ 0xFF ∷ []) refl))

-- the CRC run over the stuffing too
abbrev over-stuffing : List ℕ → MipRead
over-stuffing p = cond (crc_holds p) (ours.mip_read p) (record { refusal = 14; addressing = 0; mip = mip.no_mip })

pub crc-over-stuffing : Demand2 (timed_by over-stuffing) → ⊥
unfolding crc_holds crc_of run feed bit_at shift
crc-over-stuffing d =
    let z : ◌≡◌ {A = ℕ} 14 0 = ap (λ (r : MipRead). r.refusal) (d.mips.reads zeros-mip good-mip) in
    omega arith

-- a start set where 183 bytes are left, so that the pointer aims past the end
abbrev slip : Load → Load
slip (plain d) = cond (eqb (length d) 183) (start 183 d) (plain d)
slip (start n d) = start n d

abbrev start-on-183 : ℕ → ℕ → List ℕ → List ℕ → carrying.Outcome
start-on-183 pid first_count batch out =
    let o = ours.carry pid first_count batch out in
    let slipped = overlay 0 (joined (carrying.numbered pid first_count (map slip (carrying.loads batch)))) out in
    record { answer = o.answer; out = cond (eqb o.answer.refusal 0) slipped out }

-- packets of 366 and of 10 bytes
abbrev long-and-five : List ℕ
long-and-five = 0 ∷ 0 ∷ 0 ∷ 0 ∷ 0x0B ∷ 0x20 ∷ (replicate 356 0 ++ (0x27 ∷ 0x12 ∷ 0xE8 ∷ 0x76 ∷ five))

pub starts-on-183 : Demand2 (carried_by start-on-183) → ⊥
unfolding carrying.carry_of carrying.carry_checks batch_fault carrying.numbered answer pid_outside cut cut_by joined size_of crc_holds crc_of run feed bit_at shift loads_of loads_by gone_of transport_of head_bytes bytes pack unpack overlay
starts-on-183 d =
    let z : ◌≡◌ {A = ℕ} 0x50 0x10 = ap (λ (o : carrying.Outcome). get_or o.out 189 0) (d.carriage.writes 0x1000 0 long-and-five (replicate 564 0) refl) in
    omega arith
