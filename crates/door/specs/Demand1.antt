-- DEMAND 1 of a door: hand any bytes, any numbers and any state to any of the C functions, and it comes back with a result or
-- with a numbered refusal of 01. That every input is answered is the type itself: a C function is a total function. What a
-- refusal shows is said here over C's own values: the number is that of the first check that holds of the list, which stands in
-- 01's order, with what only C can hand in at its place; all other fields are 0, but for sfn_gather, which hands back the reader
-- as it was handed in; and no lent byte is changed. Without a refusal, beyond the result no lent byte is changed. sfn_crc and
-- sfn_packet_length have no refusal.
use Rattle.std.specs.Prelude.{◌≡◌, Bool, true, false, not, cond, ◌&&◌, ◌||◌, List, [], ◌∷◌, ℕ, eqb, leb, ltb, ℤ, pos, negsuc, length, get_or}
use Rattle.fields.specs.Formats.{too_wide}
use Rattle.fields.specs.Numbers.{Bytes}
use Rattle.fields.specs.Signed.{beyond_signed}
use Rattle.refusals.specs.Checks.{Check, ◌when◌}
use Rattle.packet.specs.Read as packet
use Rattle.packet.specs.Write as packet_writing
use Rattle.stamp.specs.Read as stamp
use Rattle.stamp.specs.Write as stamp_writing
use Rattle.functions.specs.Read as function
use Rattle.functions.specs.Tags.{Size, exactly, any, bodies, size_of, body_long, value_reserved}
use Rattle.addressing.specs.Data.{house, fault}
use Rattle.addressing.specs.Payload as addressing
use Rattle.addressing.specs.Walk.{walk_checks}
use Rattle.mip.specs.Layout.{second}
use Rattle.mip.specs.Read as mip
use Rattle.mip.specs.Write.{field_wide}
use Rattle.mip.specs.Timing.{steps, emission_checks, extra_checks}
use Rattle.transport.specs.Tests.{pid_outside}
use Rattle.carry.specs.Carry as carrying
use Rattle.gather.specs.State.{unfit, gather_checks}
use Rattle.demands.specs.Demand1.{Answers, Kept, Writes, Carries}
use Rattle.sfn.specs.Answers.{stamp_from}
use Rattle.sfn.specs.Site.{mip_made}
use Rattle.sfn.specs.Reader.{reader_from, SfnOutcome}
use Rattle.sfn.specs.declared.SfnPacket.{SfnPacket}
use Rattle.sfn.specs.declared.SfnStamp.{SfnStamp}
use Rattle.sfn.specs.declared.SfnFunction.{SfnFunction}
use Rattle.sfn.specs.declared.site.SfnAddressing.{SfnAddressing}
use Rattle.sfn.specs.declared.site.SfnWalked.{SfnWalked}
use Rattle.sfn.specs.declared.site.SfnMip.{SfnMip}
use Rattle.sfn.specs.declared.site.SfnTime.{SfnTime}
use Rattle.sfn.specs.declared.reader.SfnReader.{SfnReader}
use Rattle.sfn.specs.declared.reader.SfnStarted.{SfnStarted}
use Rattle.door.specs.Door.{Door}

-- ---- zeros: what each reading returns with a refusal, beside the number

abbrev pub no_packet : ℕ → SfnPacket
no_packet n = record { refusal = n; bits = 0; kind = 0; count = 0; frame = 0; stream = 0 }

abbrev pub no_stamp : ℕ → SfnStamp
no_stamp n = record { seconds = 0; refusal = n; subseconds = 0; utco = 0; bw = 0; kind = 0 }

abbrev pub no_function : ℕ → SfnFunction
no_function n = record { refusal = n; value = pos 0; kind = 0; tag = 0; wait = 0; reserved = 0 }

abbrev pub no_data : ℕ → SfnAddressing
no_data n = record { refusal = n; bytes = 0 }

abbrev pub no_step : ℕ → SfnWalked
no_step n = record { refusal = n; start = 0; body = 0; next = 0; given = 0; tag = 0 }

abbrev pub no_mip : ℕ → SfnMip
no_mip n =
    record { refusal = n; stamp = 0; delay = 0; tps = 0; addressing = 0; pointer = 0; future = 0; count = 0; periodic = 0 }

abbrev pub no_time : ℕ → SfnTime
no_time n = record { refusal = n; steps = 0 }

abbrev pub no_reader : ℕ → SfnStarted
no_reader n = record { refusal = n; reader = record { pid = 0; last = 0; in_step = 0; waiting = 0 } }

-- ---- the function that C hands in by its fields

-- what a kind's value is: a number of so many bits with or without a sign; or the kind has none, and it is not looked at
pub data Value : Type 0 where
  signed : ℕ → Value
  unsigned : ℕ → Value
  none : Value

-- one for each kind from 0 on
abbrev pub values : List Value
values =
    -- 0: time offset
    signed 16
    -- 1: frequency offset
    ∷ signed 24
    -- 2: power
    ∷ unsigned 16
    -- 3: private
    ∷ none
    -- 4: cell id
    ∷ unsigned 16
    -- 5: tags enabled
    ∷ none
    -- 6: bandwidth
    ∷ unsigned 7
    -- 7: passed through
    ∷ none
    ∷ []

abbrev pub value_wide : Value → ℤ → Bool
value_wide (signed w) z = beyond_signed w z
value_wide (unsigned w) (pos n) = too_wide (w ∷ []) (n ∷ [])
value_wide (unsigned w) (negsuc k) = true
value_wide none z = false

-- the tag is the kind from 0 to 6; what is passed through has none of these tags
abbrev pub tag_unlike : ℕ → ℕ → Bool
tag_unlike kind tag = cond (eqb kind 7) (ltb tag (length bodies)) (not (eqb tag kind))

-- a kind whose body has a length of its own takes no bytes, and no body is over 253
abbrev pub bytes_unfit : Size → ℕ → Bool
bytes_unfit (exactly k) n = ltb 0 n
bytes_unfit any n = body_long n

-- cell and bandwidth have a wait flag, and a cell has reserved bits
abbrev pub wait_wide : ℕ → ℕ → Bool
wait_wide kind wait = (eqb kind 4 || eqb kind 6) && ltb 1 wait

abbrev pub reserved_wide : ℕ → ℕ → Bool
reserved_wide kind reserved = eqb kind 4 && too_wide (7 ∷ []) (reserved ∷ [])

-- a bandwidth of 1 to 127
abbrev pub reserved_bandwidth : ℤ → Bool
reserved_bandwidth (pos n) = value_reserved n
reserved_bandwidth (negsuc k) = false

-- the bytes that the body takes
abbrev pub body_length : Size → ℕ → ℕ
body_length (exactly k) n = k
body_length any n = n

-- 01: 38, 29, 16. n bytes come with the fields, and `room` is how many bytes the output has
unfoldable pub function_checks : ℕ → ℕ → ℤ → ℕ → ℕ → ℕ → ℕ → List Check
function_checks kind tag value wait reserved n room =
    38 when ltb 7 kind
    ∷ 38 when tag_unlike kind tag
    ∷ 38 when bytes_unfit (size_of kind) n
    ∷ 38 when value_wide (get_or values kind none) value
    ∷ 38 when wait_wide kind wait
    ∷ 38 when reserved_wide kind reserved
    ∷ 29 when (eqb kind 6 && reserved_bandwidth value)
    ∷ 16 when ltb room (body_length (size_of kind) n)
    ∷ []

-- ---- the MIP that C hands in by its fields

-- 01: 36, 38, 33, 34, the check of the addressing data, 16; a periodic over 1 is too wide for its bit
unfoldable pub mip_checks : ℕ → ℕ → ℕ → ℕ → ℕ → ℕ → ℕ → List ℕ → ℕ → List Check
mip_checks count pointer periodic future stamp delay tps d room =
    36 when ltb 163 (length d)
    ∷ 38 when ltb 1 periodic
    ∷ 38 when field_wide (mip_made count pointer periodic future stamp delay tps) (length d)
    ∷ 33 when leb second stamp
    ∷ 34 when leb second delay
    ∷ fault house d
    ∷ 16 when ltb room 188
    ∷ []

-- ---- carriage

-- 38 of a state as C holds it: an in_step over 1 is no reader's, and else as 01 says of the state that it stands for
abbrev pub state_unfit : SfnReader → Bool
state_unfit r = ltb 1 r.in_step || unfit (reader_from r)

-- a PID that is not refused gives a state that gathering does not refuse as 38
pub record Starts (pid : ℕ) (x : SfnStarted) : Type 0 where
  pub answers : Answers (4 when pid_outside pid ∷ []) (λ (y : SfnStarted). y.refusal) no_reader x
  pub fit : pid_outside pid ≡ false → state_unfit x.reader ≡ false

-- 01: 38, 1, 2, 3, 5 to 12
abbrev pub gathering_checks : SfnReader → List ℕ → ℕ → ℕ → List Check
gathering_checks r t room space = 38 when ltb 1 r.in_step ∷ gather_checks (reader_from r) t room space

-- no bytes, no packets, no marks, the reader as it was handed in, both buffers as they were
abbrev pub gathered_nothing : SfnReader → List ℕ → List ℕ → ℕ → SfnOutcome
gathered_nothing r g o n =
    record {
      answer = record {
        refusal = n;
        reader = r;
        bytes = 0;
        packets = 0;
        loss = 0;
        misfit = 0;
        crc = 0;
      };
      gathering = g;
      out = o;
    }

-- r is the old state, t the transport packet, g the gathering buffer and o the output, as demand 1 has it of a library
pub record Gathers (r : SfnReader) (t g o : List ℕ) (x : SfnOutcome) : Type 0 where
  pub answers : Answers (gathering_checks r t (length g) (length o)) (λ (y : SfnOutcome). y.answer.refusal) (gathered_nothing r g o) x
  pub output : Bytes t → Bytes g → Kept x.answer.bytes o x.out
  pub gathering : Bytes t → Bytes g → Kept 8202 g x.gathering
  pub fit : Bytes t → Bytes g → state_unfit r ≡ false → state_unfit x.answer.reader ≡ false

-- ---- the demand

-- in the order of Door, and for every input
pub record Demand1 (door : Door) : Type 0 where
  pub packet_read : (s : List ℕ) → Answers (packet.read_checks s) (λ (p : SfnPacket). p.refusal) no_packet (door.packet_read s)
  pub packet_write : (kind count frame stream bits : ℕ) (payload out : List ℕ)
      → Writes (packet_writing.write_checks (record { kind = kind; count = count; frame = frame; stream = stream; bits = bits }) payload (length out)) out
      (door.packet_write kind count frame stream bits payload out)
  pub carry : (pid count : ℕ) (batch out : List ℕ) → Carries (carrying.carry_checks pid count batch (length out)) out (door.carry pid count batch out)
  pub start : (pid : ℕ) → Starts pid (door.start pid)
  pub gather : (r : SfnReader) (t g o : List ℕ) → Gathers r t g o (door.gather r t g o)
  pub stamp_read : (payload : List ℕ) → Answers (stamp.read_checks payload) (λ (s : SfnStamp). s.refusal) no_stamp (door.stamp_read payload)
  pub stamp_write : (bw seconds subseconds utco : ℕ) (out : List ℕ)
      → Writes (stamp_writing.write_checks (stamp_from bw seconds subseconds utco) (length out)) out (door.stamp_write bw seconds subseconds utco out)
  pub addressing_read : (p : List ℕ) → Answers (addressing.payload_checks house p) (λ (r : SfnAddressing). r.refusal) no_data (door.addressing_read p)
  pub addressing_write : (d out : List ℕ) → Writes (addressing.write_checks house d (length out)) out (door.addressing_write d out)
  pub walk : (d : List ℕ) (tx place : ℕ) → Answers (walk_checks house d tx place) (λ (w : SfnWalked). w.refusal) no_step (door.walk d tx place)
  pub function_read : (tag : ℕ) (body : List ℕ) → Answers (function.read_checks tag body) (λ (f : SfnFunction). f.refusal) no_function (door.function_read tag body)
  pub function_write : (kind tag : ℕ) (value : ℤ) (wait reserved : ℕ) (bytes out : List ℕ)
      → Writes (function_checks kind tag value wait reserved (length bytes) (length out)) out (door.function_write kind tag value wait reserved bytes out)
  pub mip_read : (p : List ℕ) → Answers (mip.read_checks p) (λ (m : SfnMip). m.refusal) no_mip (door.mip_read p)
  pub mip_write : (count pointer periodic future stamp delay tps : ℕ) (d out : List ℕ)
      → Writes (mip_checks count pointer periodic future stamp delay tps d (length out)) out (door.mip_write count pointer periodic future stamp delay tps d out)
  pub emission : (stamp delay : ℕ) (offset : ℤ) → Answers (emission_checks (steps stamp) (steps delay) offset) (λ (t : SfnTime). t.refusal) no_time (door.emission stamp delay offset)
  pub extra_delay : (stamp delay : ℕ) (offset : ℤ) (reception : ℕ)
      → Answers (extra_checks (steps stamp) (steps delay) offset (steps reception)) (λ (t : SfnTime). t.refusal) no_time (door.extra_delay stamp delay offset reception)
