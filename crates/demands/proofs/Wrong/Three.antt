-- Wrong libraries that demand 3 refuses: each is ours but for one operation, and is refuted by one short journey.
-- Assumes nothing.
use mathlib.Core.Path.{◌≡◌, refl, sym, ap}
use Prim.Native.Nat.{ℕ, zero, suc}
use mathlib.Core.Bool.{Bool, true, false, cond}
use mathlib.Core.List.{List, [], ◌∷◌, ◌++◌}
use native.Mathlib.Omega.{arith}
use lib.Dec.{leb}
use lib.ListN.{length, get_or, take, drop, replicate, length-replicate}
use Rattle.fields.specs.Formats.{pack, unpack}
use Rattle.fields.specs.Numbers.{number, bytes}
use Rattle.fields.specs.Parts.{overlay}
use Rattle.fields.proofs.Cases.{true≢false}
use Rattle.refusals.specs.Answers.{answer}
use Rattle.crc.specs.Crc as crc
use Rattle.packet.specs.Layout.{size_of}
use Rattle.packet.specs.Cut.{judge_of, Cut, stop, more, cut_by, cut, batch_fault, joined}
use Rattle.std.specs.Prelude.{Result, Ok, Err}
use Rattle.packet.specs.declared.Flaw.{Flaw}
use Rattle.packet.specs.declared.Flaw.TheVariants.{Short}
use Rattle.transport.specs.Header as transport
use Rattle.transport.specs.Tests.{pid_outside, field_long, pointer_beyond, transport_checks}
use Rattle.transport.specs.Load.{head_bytes, transport_of}
use Rattle.carry.specs.Loads.{gone_of, loads_by, loads_of}
use Rattle.carry.specs.Carry.{numbered, carry_checks, carry_of, transports_in, Outcome}
use Rattle.gather.specs.State.{fresh, start_of, unfit, gather_checks}
use Rattle.gather.specs.Marks.{no_marks}
use Rattle.gather.specs.Rules.{none, Brought, brought_by, Hand, waits, hands_out, rule_one, strays, finishes, joining, up_to_start, unfinished, from_start, rules_on}
use Rattle.gather.specs.Gather as gathering
use Rattle.gather.specs.Gather.{joiners, taken_of, gather_of, refused_of}
use Rattle.gather.specs.declared.Marks.{Marks}
use Rattle.gather.specs.Calls.{calls_by, lent}
use Rattle.std.specs.Prelude.{Option, None, Some}
use Rattle.gather.specs.declared.Reader.{Reader}
use Rattle.demands.specs.Library.{Library}
use Rattle.demands.specs.Route.{Item, writers, again, Route, nothing, due, arrives, loss_marks, inputs}
use Rattle.demands.specs.Demand3.{Batch, Carriable, AllCarriable, packets_of, carry_all, Exactly, Demand3}
use Rattle.demands.proofs.Wrong.Changed.{five, buffer, space, bytes-by, carried_by, gathered_by}

-- ---- a journey: one small packet in each batch

abbrev pub one : Batch
one = record { packets = five ∷ []; out = replicate 188 0 }

pub good : Carriable one
unfolding joined size_of crc.crc_holds crc.crc_of crc.run crc.feed crc.bit_at crc.shift loads_of loads_by gone_of
good = record { whole = (record { size = refl; crc = refl }, tt); bytes = bytes-by five refl; short = omega arith; room = omega arith }

-- PID 256, counts from 0 on, over this route
abbrev Journeyed : Library → List Batch → List Item → Type 0
Journeyed lib bs is =
    Exactly (due (arrives is) (carry_all lib 256 0 bs) 0 (packets_of bs)) (loss_marks nothing is)
    (calls_by lib.gather (lib.start 256).reader buffer (lent (λ n. space) (inputs (carry_all lib 256 0 bs) is)))

journey : (lib : Library) → Demand3 lib → (bs : List Batch) → AllCarriable bs → (is : List Item) → Route 256 (length (carry_all lib 256 0 bs)) nothing is → Journeyed lib bs is
unfolding pid_outside
journey lib d bs f is r =
    d.exactly 256 0 refl (omega arith) bs f is r buffer (omega (arith, length-replicate {A = ℕ} 8202 0)) (λ n. space) (λ n. omega (arith, length-replicate {A = ℕ} 8385 9))

-- ---- one that refuses everything

abbrev pub refuses_all : Reader → List ℕ → List ℕ → List ℕ → gathering.Outcome
refuses_all s t g o = refused_of s g o 38

pub refuses-everything : Demand3 (gathered_by refuses_all) → ⊥
unfolding gather_of taken_of gather_checks transport_checks unfit pid_outside field_long pointer_beyond transport.header_field transport.payload_at transport.carried_at transport.carried_by brought_by rule_one joining up_to_start from_start rules_on joiners judge_of cut_by cut joined size_of crc.crc_holds crc.crc_of crc.run crc.feed crc.bit_at crc.shift overlay answer pack unpack number bytes batch_fault numbered carry_checks carry_of loads_of loads_by gone_of head_bytes transport_of start_of transports_in
refuses-everything d =
    let m = journey (gathered_by refuses_all) d (one ∷ []) (good, tt) (writers 0 ∷ []) (omega arith, tt) in
    let z : ◌≡◌ {A = ℕ} 0 1 = ap length m.handed in omega arith

-- ---- one that returns one packet always

abbrev pub one_packet : Reader → List ℕ → List ℕ → List ℕ → gathering.Outcome
one_packet s t g o =
    record {
      answer = record { refusal = 0; reader = s; bytes = 10; packets = 1; marks = no_marks };
      gathering = g;
      output = overlay 0 five o;
    }

pub returns_one : Demand3 (gathered_by one_packet) → ⊥
unfolding gather_of taken_of gather_checks transport_checks unfit pid_outside field_long pointer_beyond transport.header_field transport.payload_at transport.carried_at transport.carried_by brought_by rule_one joining up_to_start from_start rules_on joiners judge_of cut_by cut joined size_of crc.crc_holds crc.crc_of crc.run crc.feed crc.bit_at crc.shift overlay answer pack unpack number bytes batch_fault numbered carry_checks carry_of loads_of loads_by gone_of head_bytes transport_of start_of transports_in
returns_one d =
    let m = journey (gathered_by one_packet) d (one ∷ []) (good, tt) (writers 0 ∷ again 0 ∷ []) (omega arith, (refl, tt)) in
    let z : ◌≡◌ {A = ℕ} 2 1 = ap length m.handed in omega arith

-- ---- one that writes nothing: the right answer, and the output as it was

abbrev pub silent : Reader → List ℕ → List ℕ → List ℕ → gathering.Outcome
silent s t g o = let x = gather_of s t g o in record { answer = x.answer; gathering = x.gathering; output = o }

pub writes_nothing : Demand3 (gathered_by silent) → ⊥
unfolding gather_of taken_of gather_checks transport_checks unfit pid_outside field_long pointer_beyond transport.header_field transport.payload_at transport.carried_at transport.carried_by brought_by rule_one joining up_to_start from_start rules_on joiners judge_of cut_by cut joined size_of crc.crc_holds crc.crc_of crc.run crc.feed crc.bit_at crc.shift overlay answer pack unpack number bytes batch_fault numbered carry_checks carry_of loads_of loads_by gone_of head_bytes transport_of start_of transports_in
writes_nothing d =
    let m = journey (gathered_by silent) d (one ∷ []) (good, tt) (writers 0 ∷ []) (omega arith, tt) in
    let z : ◌≡◌ {A = ℕ} 0 1 = ap length m.handed in omega arith

-- ---- one that gathers in its first call and then only advances the count

abbrev first_only : Option ℕ → Reader → List ℕ → List ℕ → List ℕ → gathering.Outcome
first_only None s t g o = gather_of s t g o
first_only (Some n) s t g o =
    record {
      answer = record {
        refusal = 0;
        reader = record { pid = s.pid; last = Some (transport.count_of t); in_step = s.in_step; waiting = s.waiting };
        bytes = 0;
        packets = 0;
        marks = no_marks;
      };
      gathering = g;
      output = o;
    }

abbrev pub gathers_once : Reader → List ℕ → List ℕ → List ℕ → gathering.Outcome
gathers_once s t g o = first_only s.last s t g o

abbrev two : List Batch
two = one ∷ one ∷ []

pub gathers-once : Demand3 (gathered_by gathers_once) → ⊥
unfolding gather_of taken_of gather_checks transport_checks unfit pid_outside field_long pointer_beyond transport.header_field transport.payload_at transport.carried_at transport.carried_by brought_by rule_one joining up_to_start from_start rules_on joiners judge_of cut_by cut joined size_of crc.crc_holds crc.crc_of crc.run crc.feed crc.bit_at crc.shift overlay answer pack unpack number bytes batch_fault numbered carry_checks carry_of loads_of loads_by gone_of head_bytes transport_of start_of transports_in
gathers-once d =
    let m = journey (gathered_by gathers_once) d two (good, (good, tt)) (writers 0 ∷ writers 1 ∷ []) (omega arith, (omega arith, omega arith, omega arith, tt)) in
    let z : ◌≡◌ {A = ℕ} 1 2 = ap length m.handed in omega arith

-- ---- a writer that invents counts: from 7 on, whatever the first count

abbrev pub from_seven : ℕ → ℕ → List ℕ → List ℕ → Outcome
from_seven pid count batch out = carry_of pid 7 batch out

pub invents-counts : Demand3 (carried_by from_seven) → ⊥
unfolding gather_of taken_of gather_checks transport_checks unfit pid_outside field_long pointer_beyond transport.header_field transport.payload_at transport.carried_at transport.carried_by brought_by rule_one joining up_to_start from_start rules_on joiners judge_of cut_by cut joined size_of crc.crc_holds crc.crc_of crc.run crc.feed crc.bit_at crc.shift overlay answer pack unpack number bytes batch_fault numbered carry_checks carry_of loads_of loads_by gone_of head_bytes transport_of start_of transports_in
invents-counts d =
    let m = journey (carried_by from_seven) d two (good, (good, tt)) (writers 0 ∷ writers 1 ∷ []) (omega arith, (omega arith, omega arith, omega arith, tt)) in
    let z : ◌≡◌ {A = ℕ} 1 2 = ap length m.handed in omega arith

-- ---- one that does not look at the count: what comes again is handed out again

abbrev pub deaf : Reader → List ℕ → List ℕ → List ℕ → gathering.Outcome
deaf s t g o = gather_of (record { pid = s.pid; last = None; in_step = s.in_step; waiting = s.waiting }) t g o

pub hands-out-again : Demand3 (gathered_by deaf) → ⊥
unfolding gather_of taken_of gather_checks transport_checks unfit pid_outside field_long pointer_beyond transport.header_field transport.payload_at transport.carried_at transport.carried_by brought_by rule_one joining up_to_start from_start rules_on joiners judge_of cut_by cut joined size_of crc.crc_holds crc.crc_of crc.run crc.feed crc.bit_at crc.shift overlay answer pack unpack number bytes batch_fault numbered carry_checks carry_of loads_of loads_by gone_of head_bytes transport_of start_of transports_in
hands-out-again d =
    let m = journey (gathered_by deaf) d (one ∷ []) (good, tt) (writers 0 ∷ again 0 ∷ []) (omega arith, (refl, tt)) in
    let z : ◌≡◌ {A = ℕ} 2 1 = ap length m.handed in omega arith

-- ---- one that never marks a loss, and one that marks each arrival

abbrev marking : Bool → Reader → List ℕ → List ℕ → List ℕ → gathering.Outcome
marking loss s t g o =
    let x = gather_of s t g o in
    record {
      answer = record {
        refusal = x.answer.refusal;
        reader = x.answer.reader;
        bytes = x.answer.bytes;
        packets = x.answer.packets;
        marks = record { loss = loss; misfit = x.answer.marks.misfit; crc = x.answer.marks.crc };
      };
      gathering = x.gathering;
      output = x.output;
    }

pub marks-none : Demand3 (gathered_by (marking false)) → ⊥
unfolding gather_of taken_of gather_checks transport_checks unfit pid_outside field_long pointer_beyond transport.header_field transport.payload_at transport.carried_at transport.carried_by brought_by rule_one joining up_to_start from_start rules_on joiners judge_of cut_by cut joined size_of crc.crc_holds crc.crc_of crc.run crc.feed crc.bit_at crc.shift overlay answer pack unpack number bytes batch_fault numbered carry_checks carry_of loads_of loads_by gone_of head_bytes transport_of start_of transports_in
marks-none d =
    let m = journey (gathered_by (marking false)) d (one ∷ two) (good, (good, (good, tt))) (writers 0 ∷ writers 2 ∷ []) (omega arith, (omega arith, omega arith, omega arith, tt)) in
    true≢false (sym (ap (λ (l : List Marks). (get_or l 1 no_marks).loss) m.marked))

pub marks-all : Demand3 (gathered_by (marking true)) → ⊥
unfolding gather_of taken_of gather_checks transport_checks unfit pid_outside field_long pointer_beyond transport.header_field transport.payload_at transport.carried_at transport.carried_by brought_by rule_one joining up_to_start from_start rules_on joiners judge_of cut_by cut joined size_of crc.crc_holds crc.crc_of crc.run crc.feed crc.bit_at crc.shift overlay answer pack unpack number bytes batch_fault numbered carry_checks carry_of loads_of loads_by gone_of head_bytes transport_of start_of transports_in
marks-all d =
    let m = journey (gathered_by (marking true)) d (one ∷ []) (good, tt) (writers 0 ∷ []) (omega arith, tt) in
    true≢false (ap (λ (l : List Marks). (get_or l 0 no_marks).loss) m.marked)

-- ---- Harbour: two halves joined across sixteen lost transport packets, and the CRC not looked at

-- by its own length alone a packet is finished, and good
abbrev trusted : List ℕ → Result ℕ Flaw
trusted l = cond (leb (size_of l) (length l)) (Ok (size_of l)) (Err Short)

abbrev trusted_cut : ℕ → List ℕ → Cut
trusted_cut zero l = stop l false
trusted_cut (suc k) l =
    let n = size_of l in
    let on = more (take n l) (trusted_cut k (drop n l)) in
    cond (leb n (length l)) on (stop l false)

-- our rules 2 to 4, but for the CRC
abbrev trusting_front : List ℕ → Hand → Hand
trusting_front d h =
    let l = h.waiting ++ d in
    cond h.step (cond (none h.waiting) (strays d h) (finishes (trusted l) l h)) h

abbrev trusting_start : List ℕ → Hand → Hand
trusting_start l h = let c = trusted_cut (length l) l in waits c.rest (hands_out c.packets h)

abbrev trusting_rules : Brought → Hand → Hand
trusting_rules b h = let front = trusting_front b.before h in cond b.begins (trusting_start b.onward (unfinished front)) front

-- gathering as ours, with all its checks and rule 1
abbrev pub trusting : Reader → List ℕ → List ℕ → List ℕ → gathering.Outcome
trusting s t g o =
    answer (gather_checks s t (length g) (length o))
    (refused_of s g o)
    (gathering.laid_of s.pid (brought_by t) (gathering.entered_of s t g) (trusting_rules (brought_by t) (gathering.entered_of s t g)) g o)

-- Nine batches of one packet of 193 bytes each: two transport packets for each, 0 to 17. Number 0 has 183 bytes of the first packet, and
-- number 17 the last 10 of the ninth; of 16 lost between them the counts say nothing
abbrev first_of9 : List ℕ
first_of9 = 0x00 ∷ 0x05 ∷ 0x00 ∷ 0x00 ∷ 0x05 ∷ 0xB8 ∷ (replicate 183 0x11 ++ (0xF5 ∷ 0x1F ∷ 0x8A ∷ 0xCF ∷ []))

abbrev last_of9 : List ℕ
last_of9 = 0x00 ∷ 0x0D ∷ 0x00 ∷ 0x00 ∷ 0x05 ∷ 0xB8 ∷ (replicate 183 0x22 ++ (0xCA ∷ 0x61 ∷ 0x91 ∷ 0x77 ∷ []))

-- number 16 has count 0 again
abbrev half : List ℕ → ℕ → List ℕ
half p k = get_or (transports_in 2 (carry_of 256 0 p (replicate 376 0)).out) k []

-- the first half waits in a buffer of 01's size, the second comes, and what they make is handed out; its CRC does not hold
pub joins-halves : Demand3 (gathered_by trusting) → ⊥
unfolding gather_of taken_of gather_checks transport_checks unfit pid_outside field_long pointer_beyond transport.header_field transport.payload_at transport.carried_at transport.carried_by brought_by rule_one joining up_to_start from_start rules_on joiners judge_of cut_by cut joined size_of crc.crc_holds crc.crc_of crc.run crc.feed crc.bit_at crc.shift overlay answer pack unpack number bytes batch_fault numbered carry_checks carry_of loads_of loads_by gone_of head_bytes transport_of start_of transports_in
joins-halves d =
    let begun = trusting (fresh 256) (half first_of9 0) buffer space in
    let m = d.clean begun.answer.reader (half last_of9 1) begun.gathering space in
    let z : ◌≡◌ {A = ℕ} 1 0 = m.number in omega arith
