-- DEMAND 1 of a library: hand any bytes to any operation, in any state, and it comes back with a result or with a numbered
-- refusal of 01; no caller has to check first. That every input is answered is the type itself: an operation is a total
-- function. What is asked beside it is 01, "Refusal numbers": a refusal is given exactly when its line holds and no earlier
-- check of the operation's list did; it returns its number and zeros, writes nothing and hands back the old state; and
-- outputs beyond a result stay as they were. The lists of checks are 01's "Orders", as each crate defines its own. What is
-- not named here (the CRC, the count after a count, the kind of a stamp, the units) has no refusal in 01.
use Rattle.std.specs.Prelude.{◌≡◌, false, List, [], ◌∷◌, ℕ, ◌*◌, ℤ, pos, length, drop}
use Rattle.fields.specs.Numbers.{Bytes}
use Rattle.refusals.specs.Checks.{Check, ◌when◌, first}
use Rattle.refusals.specs.Answers.{Wrote}
use Rattle.packet.specs.Read as packet
use Rattle.packet.specs.Write as packet_writing
use Rattle.packet.specs.declared.Header.{Header}
use Rattle.packet.specs.Read.{Packet}
use Rattle.stamp.specs.Read as stamp
use Rattle.stamp.specs.Write as stamp_writing
use Rattle.stamp.specs.declared.Stamp.{Stamp}
use Rattle.stamp.specs.Read.{StampRead}
use Rattle.functions.specs.Read as function
use Rattle.functions.specs.Write as function_writing
use Rattle.functions.specs.declared.Function.{Function}
use Rattle.functions.specs.declared.Function.TheVariants.{TimeOffset}
use Rattle.functions.specs.Read.{FunctionRead}
use Rattle.addressing.specs.Data.{house}
use Rattle.addressing.specs.Payload as addressing
use Rattle.addressing.specs.Walk.{walk_checks, End, Walked}
use Rattle.addressing.specs.Payload.{PayloadRead}
use Rattle.mip.specs.Read as mip
use Rattle.mip.specs.Write as mip_writing
use Rattle.mip.specs.Timing.{emission_checks, extra_checks, Time}
use Rattle.mip.specs.declared.Mip.{Mip}
use Rattle.mip.specs.Read.{MipRead}
use Rattle.mip.specs.declared.Steps.{Steps}
use Rattle.transport.specs.Tests.{pid_outside}
use Rattle.carry.specs.Carry as carrying
use Rattle.gather.specs.State.{unfit, gather_checks}
use Rattle.gather.specs.Marks.{no_marks}
use Rattle.gather.specs.Gather as gathering
use Rattle.std.specs.Prelude.{Some}
use Rattle.gather.specs.declared.Reader.{Reader}
use Rattle.gather.specs.State.{Started}
use Rattle.demands.specs.Library.{Library}

-- ---- what is asked of every operation

-- some check of the list holds
abbrev pub Refuses : List Check → Type 0
Refuses checks = first checks ≡ 0 → ⊥

-- an answer shows the number of the first check that holds, or 0; with a number it is what a refusal returns
pub record Answers {A : Type 0} (checks : List Check) (number : A → ℕ) (refused : ℕ → A) (a : A) : Type 0 where
  pub numbered : number a ≡ first checks
  pub refusal : Refuses checks → a ≡ refused (first checks)

-- lent memory after a call: as long as before, and beyond its first n bytes as it was
pub record Kept (n : ℕ) (before after : List ℕ) : Type 0 where
  pub long : length after ≡ length before
  pub beyond : drop n after ≡ drop n before

-- an operation that writes: with a refusal no bytes and the output as it was; outputs beyond the result stay as they were
abbrev pub wrote_nothing : List ℕ → ℕ → Wrote
wrote_nothing out n = record { answer = record { refusal = n; bytes = 0 }; out = out }

pub record Writes (checks : List Check) (out : List ℕ) (w : Wrote) : Type 0 where
  pub answers : Answers checks (λ (x : Wrote). x.answer.refusal) (wrote_nothing out) w
  pub kept : Kept w.answer.bytes out w.out

-- ---- zeros: what each reading returns with a refusal, beside the number

abbrev pub no_packet : ℕ → Packet
no_packet n = record { refusal = n; header = record { kind = 0; count = 0; frame = 0; stream = 0; bits = 0 } }

abbrev pub no_stamp : ℕ → StampRead
no_stamp n = record { refusal = n; stamp = record { bw = 0; seconds = 0; subseconds = record { 0 = 0 }; utco = 0 } }

-- the function of number 0, with an offset of 0
abbrev pub no_function : ℕ → FunctionRead
no_function n = record { refusal = n; function = TimeOffset (pos 0) }

abbrev pub no_data : ℕ → PayloadRead
no_data n = record { refusal = n; bytes = 0 }

abbrev pub no_step : ℕ → Walked
no_step n = record { refusal = n; next = 0; step = End }

abbrev pub no_mip : ℕ → MipRead
no_mip n =
    record {
      refusal = n;
      addressing = 0;
      mip = record {
        count = 0;
        pointer = 0;
        periodic = false;
        future = 0;
        stamp = record { 0 = 0 };
        delay = record { 0 = 0 };
        tps = 0;
      };
    }

abbrev pub no_time : ℕ → Time
no_time n = record { refusal = n; steps = record { 0 = 0 } }

abbrev pub no_reader : ℕ → Started
no_reader n = record { refusal = n; reader = record { pid = 0; last = Some 0; in_step = false; waiting = 0 } }

-- ---- carriage

-- no packets, the output as it was; else beyond the transport packets it is as it was
abbrev pub carried_nothing : List ℕ → ℕ → carrying.Outcome
carried_nothing out n = record { answer = record { refusal = n; packets = 0; next_count = 0 }; out = out }

pub record Carries (checks : List Check) (out : List ℕ) (x : carrying.Outcome) : Type 0 where
  pub answers : Answers checks (λ (y : carrying.Outcome). y.answer.refusal) (carried_nothing out) x
  pub kept : Kept (188 * x.answer.packets) out x.out

-- a PID that is not refused gives a state that gathering does not refuse as 38
pub record Starts (pid : ℕ) (x : Started) : Type 0 where
  pub answers : Answers (4 when pid_outside pid ∷ []) (λ (y : Started). y.refusal) no_reader x
  pub fit : pid_outside pid ≡ false → unfit x.reader ≡ false

-- no bytes, no packets, no marks, the old state, both buffers as they were
abbrev pub gathered_nothing : Reader → List ℕ → List ℕ → ℕ → gathering.Outcome
gathered_nothing old gathering output n =
    record {
      answer = record {
        refusal = n;
        reader = old;
        bytes = 0;
        packets = 0;
        marks = no_marks;
      };
      gathering = gathering;
      output = output;
    }

-- s is the old state, t the transport packet, g the gathering buffer and o the output. A packet has at most 8,202 bytes, so
-- no call writes further into the gathering buffer; and a fit state stays fit: the next call does not refuse it as 38. The
-- premises say what every slice is: its elements are bytes, on which the length of a packet stands
pub record Gathers (s : Reader) (t g o : List ℕ) (x : gathering.Outcome) : Type 0 where
  pub answers : Answers (gather_checks s t (length g) (length o)) (λ (y : gathering.Outcome). y.answer.refusal) (gathered_nothing s g o) x
  pub output : Bytes t → Bytes g → Kept x.answer.bytes o x.output
  pub gathering : Bytes t → Bytes g → Kept 8202 g x.gathering
  pub fit : Bytes t → Bytes g → unfit s ≡ false → unfit x.answer.reader ≡ false

-- ---- the demand

-- in the order of Library, and for every input; a slice that comes with a reading is empty with a refusal
pub record Demand1 (l : Library) : Type 0 where
  pub packet_read : (s : List ℕ) → Answers (packet.read_checks s) (λ (p : Packet). p.refusal) no_packet (l.packet_read s)
  pub packet_payload : (s : List ℕ) → Refuses (packet.read_checks s) → l.packet_payload s ≡ []
  pub packet_write : (h : Header) (payload out : List ℕ) → Writes (packet_writing.write_checks h payload (length out)) out (l.packet_write h payload out)
  pub stamp_read : (payload : List ℕ) → Answers (stamp.read_checks payload) (λ (r : StampRead). r.refusal) no_stamp (l.stamp_read payload)
  pub stamp_write : (s : Stamp) (out : List ℕ) → Writes (stamp_writing.write_checks s (length out)) out (l.stamp_write s out)
  pub function_read : (tag : ℕ) (body : List ℕ) → Answers (function.read_checks tag body) (λ (r : FunctionRead). r.refusal) no_function (l.function_read tag body)
  pub function_write : (f : Function) (carried out : List ℕ) → Writes (function_writing.write_checks f carried (length out)) out (l.function_write f carried out)
  pub addressing_read : (p : List ℕ) → Answers (addressing.payload_checks house p) (λ (r : PayloadRead). r.refusal) no_data (l.addressing_read p)
  pub addressing_data : (p : List ℕ) → Refuses (addressing.payload_checks house p) → l.addressing_data p ≡ []
  pub addressing_write : (d out : List ℕ) → Writes (addressing.write_checks house d (length out)) out (l.addressing_write d out)
  pub walk : (d : List ℕ) (tx place : ℕ) → Answers (walk_checks house d tx place) (λ (w : Walked). w.refusal) no_step (l.walk d tx place)
  pub mip_read : (p : List ℕ) → Answers (mip.read_checks p) (λ (r : MipRead). r.refusal) no_mip (l.mip_read p)
  pub mip_addressing : (p : List ℕ) → Refuses (mip.read_checks p) → l.mip_addressing p ≡ []
  pub mip_write : (m : Mip) (d out : List ℕ) → Writes (mip_writing.write_checks m d (length out)) out (l.mip_write m d out)
  pub emission : (stamp delay : Steps) (offset : ℤ) → Answers (emission_checks stamp delay offset) (λ (t : Time). t.refusal) no_time (l.emission stamp delay offset)
  pub extra_delay : (stamp delay : Steps) (offset : ℤ) (reception : Steps)
      → Answers (extra_checks stamp delay offset reception) (λ (t : Time). t.refusal) no_time (l.extra_delay stamp delay offset reception)
  pub carry : (pid count : ℕ) (batch out : List ℕ) → Carries (carrying.carry_checks pid count batch (length out)) out (l.carry pid count batch out)
  pub start : (pid : ℕ) → Starts pid (l.start pid)
  pub gather : (s : Reader) (t g o : List ℕ) → Gathers s t g o (l.gather s t g o)
