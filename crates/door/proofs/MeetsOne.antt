-- Our door meets demand 1: a C function's answer is that of the crate below it, laid out flat, so that demand 1 of our library
-- gives most of it; what only C can hand in is looked at here.
-- Assumes nothing.
use mathlib.Core.Path.{◌≡◌, refl, sym, ap, ◌∙◌}
use mathlib.Core.Bool.{Bool, true, false}
use mathlib.Core.List.{List, [], ◌∷◌}
use Prim.Native.Nat.{ℕ, ◌≤◌}
use native.Mathlib.Omega.{arith}
use lib.Dec.{ltb}
use lib.ListN.{length}
use borrow.Author.Tests.{ltb-false, ne_eqb}
use Rattle.fields.specs.Numbers.{Bytes}
use Rattle.fields.proofs.Cases.{cases, true≢false}
use Rattle.refusals.specs.Checks.{Check, ◌when◌, first}
use Rattle.refusals.specs.Answers.{answer, written}
use Rattle.refusals.proofs.AnswerLaws.{written-refused}
use Rattle.packet.specs.Read.{Packet}
use Rattle.stamp.specs.Read.{StampRead}
use Rattle.functions.specs.declared.Function.{Function}
use Rattle.functions.specs.declared.Function.TheVariants.{TimeOffset, FrequencyOffset, Power, Private, Cell, Enable, Bandwidth, Passed}
use Rattle.functions.specs.Read.{FunctionRead}
use Rattle.addressing.specs.Payload.{PayloadRead}
use Rattle.addressing.specs.Walk.{Step, Given, End, Walked}
use Rattle.mip.specs.Write as mip_writing
use Rattle.mip.specs.Timing.{steps, Time}
use Rattle.mip.specs.declared.Mip.{Mip}
use Rattle.mip.specs.Read.{MipRead}
use Rattle.transport.specs.Tests.{pid_outside}
use Rattle.gather.specs.State.{start_of}
use Rattle.gather.specs.Gather as gathering
use Rattle.gather.specs.State.{Started}
use Rattle.gather.proofs.StateLaws.{start-taken, fresh-fit}
use Rattle.demands.specs.Demand1 as below
use Rattle.demands.specs.Demand1.{Kept, Writes}
use Rattle.demands.proofs.MeetsOne as library
use Rattle.sfn.specs.Answers.{packet_of, kind_read, stamp_of, bit_of, function_of}
use Rattle.sfn.specs.Site.{addressing_of, step_of, walked_of, mip_flat, mip_made, mip_written, time_of}
use Rattle.sfn.specs.Site as site
use Rattle.sfn.specs.Reader.{last_from, reader_from, started_of, SfnOutcome, outcome_of, refused_by, gathered_by}
use Rattle.sfn.specs.declared.SfnPacket.{SfnPacket}
use Rattle.sfn.specs.declared.SfnStamp.{SfnStamp}
use Rattle.sfn.specs.declared.SfnFunction.{SfnFunction}
use Rattle.sfn.specs.declared.site.SfnAddressing.{SfnAddressing}
use Rattle.sfn.specs.declared.site.SfnWalked.{SfnWalked}
use Rattle.sfn.specs.declared.site.SfnMip.{SfnMip}
use Rattle.sfn.specs.declared.site.SfnTime.{SfnTime}
use Rattle.sfn.specs.declared.reader.SfnReader.{SfnReader}
use Rattle.sfn.specs.declared.reader.SfnStarted.{SfnStarted}
use Rattle.sfn.proofs.ReaderLaws.{gathered-shows, refused-state, gathered-flat, next-state}
use Rattle.door.specs.Door.{ours}
use Rattle.door.specs.Demand1.{no_packet, no_stamp, no_function, no_data, no_step, no_mip, no_time, no_reader, mip_checks, state_unfit, gathered_nothing, Starts, Gathers, Demand1}
use Rattle.door.proofs.Flat.{flat, same_writes, refuses}
use Rattle.door.proofs.FunctionLaws.{function-writes}

-- ---- a MIP by its fields

module _ (count pointer periodic future stamp delay tps : ℕ) (d out : List ℕ) where
  abbrev m : Mip
  m = mip_made count pointer periodic future stamp delay tps

  -- as the crate of the C functions has them, and as the demand does
  abbrev listed : List Check
  listed = site.mip_checks periodic m d (length out)

  abbrev asked : List Check
  asked = mip_checks count pointer periodic future stamp delay tps d (length out)

  asked-first : first listed ≡ first asked
  unfolding site.mip_checks mip_writing.write_checks mip_checks
  asked-first = cases (ltb 163 (length d)) (λ t. rw t refl) (λ t. rw t refl)

  taken-first : ltb 1 periodic ≡ false → first (mip_writing.write_checks m d (length out)) ≡ first listed
  unfolding site.mip_checks mip_writing.write_checks
  taken-first k = cases (ltb 163 (length d)) (λ t. rw t) (λ t. rw (t, k))

  refused-first : ltb 1 periodic ≡ true → first listed ≡ 0 → ⊥
  unfolding site.mip_checks
  refused-first k = cases (ltb 163 (length d)) (λ t. rw t (λ e. absurd (omega arith))) (λ t. rw (t, k) (λ e. absurd (omega arith)))

  same-written : (a b : List Check) (l : List ℕ) → first a ≡ first b → written a l out ≡ written b l out
  unfolding written answer
  same-written a b l e = rw e

  mip-writes : Writes asked out (mip_written count pointer periodic future stamp delay tps d out)
  unfolding mip_writing.write_of
  mip-writes =
      cases (ltb 1 periodic)
      (λ t. rw (written-refused listed (mip_writing.mip_bytes m d) out (refused-first t))
      (same_writes (first listed when true ∷ []) asked out _ asked-first (refuses (first listed) out)))
      (λ t. rw (← same-written (mip_writing.write_checks m d (length out)) listed (mip_writing.mip_bytes m d) (taken-first t))
      (same_writes (mip_writing.write_checks m d (length out)) asked out _ (taken-first t ∙ asked-first) ((library.meets-one).mip_write m d out)))

-- ---- the reader

starts : (pid : ℕ) → Starts pid (started_of (start_of pid))
unfolding last_from
starts pid =
    record {
      answers = flat (4 when pid_outside pid ∷ []) (λ (x : Started). x.refusal) below.no_reader (λ (x : SfnStarted). x.refusal) no_reader
          started_of (λ a. refl) (λ n z. refl) (start_of pid) ((library.meets-one).start pid).answers;
      fit = λ h. rw (start-taken pid h) (fresh-fit pid h);
    }

pub bit-one : (b : Bool) → ltb 1 (bit_of b) ≡ false
bit-one true = refl
bit-one false = refl

module _ (r : SfnReader) (t g o : List ℕ) where
  -- a state that stands for none is refused, and handed back
  no-state : ltb 1 r.in_step ≡ true → gathered_by r t g o ≡ refused_by r g o 38
  unfolding gathered_by answer
  no-state h = rw h

  -- what holds of that refusal, and of what `gather` gives, laid out flat, holds of the call
  pub either : (P : SfnOutcome → Type 0) → P (gathered_nothing r g o 38)
      → (r.in_step ≤ 1 → P (outcome_of (gathering.gather_of (reader_from r) t g o)))
      → P (gathered_by r t g o)
  either P bad good =
      cases (ltb 1 r.in_step)
      (λ h. rw (no-state h) bad)
      (λ h. rw (← gathered-flat r t g o (ltb-false _ _ h)) (good (ltb-false _ _ h)))

  abbrev below-gathers : below.Gathers (reader_from r) t g o (gathering.gather_of (reader_from r) t g o)
  below-gathers = (library.meets-one).gather (reader_from r) t g o

  pub step-on : r.in_step ≤ 1 → ltb 1 (gathered_by r t g o).answer.reader.in_step ≡ false
  step-on h = rw (← gathered-flat r t g o h) (bit-one (gathering.gather_of (reader_from r) t g o).answer.reader.in_step)

  fit_on : Bytes t → Bytes g → state_unfit r ≡ false → state_unfit (gathered_by r t g o).answer.reader ≡ false
  fit_on bt bg u =
      cases (ltb 1 r.in_step)
      (λ h. absurd (true≢false (rw h at u)))
      (λ h. rw (step-on (ltb-false _ _ h), next-state r t g o (ltb-false _ _ h)) (below-gathers.fit bt bg (rw h at u)))

  gathers : Gathers r t g o (gathered_by r t g o)
  gathers =
      record {
        answers = record {
          numbered = gathered-shows r t g o;
          refusal = λ h. refused-state r t g o (λ z. h (sym (gathered-shows r t g o) ∙ z)) ∙ ap (gathered_nothing r g o) (gathered-shows r t g o);
        };
        output = λ bt bg. either (λ (x : SfnOutcome). Kept x.answer.bytes o x.out) (record { long = refl; beyond = refl }) (λ h. below-gathers.output bt bg);
        gathering = λ bt bg. either (λ (x : SfnOutcome). Kept 8202 g x.gathering) (record { long = refl; beyond = refl }) (λ h. below-gathers.gathering bt bg);
        fit = fit_on;
      }

-- ---- the number of an answer that is laid out by its kind

step-number : (n next : ℕ) (s : Step) → (step_of n next s).refusal ≡ n
step-number n next (Given tag start body) = refl
step-number n next End = refl

function-number : (n : ℕ) (f : Function) → (function_of n f).refusal ≡ n
function-number n (TimeOffset t) = refl
function-number n (FrequencyOffset f) = refl
function-number n (Power p) = refl
function-number n Private = refl
function-number n (Cell id wait rest) = refl
function-number n Enable = refl
function-number n (Bandwidth v wait) = refl
function-number n (Passed tag) = refl

-- ---- DEMAND 1

pub meets-one : Demand1 ours
unfolding kind_read
meets-one =
    record {
      packet_read = λ s. flat _ (λ (p : Packet). p.refusal) below.no_packet (λ (p : SfnPacket). p.refusal) no_packet packet_of (λ a. refl) (λ n z. refl) _ ((library.meets-one).packet_read s);
      packet_write = λ kind count frame stream bits payload out. (library.meets-one).packet_write _ payload out;
      carry = (library.meets-one).carry;
      start = starts;
      gather = gathers;
      stamp_read = λ s. flat _ (λ (p : StampRead). p.refusal) below.no_stamp (λ (p : SfnStamp). p.refusal) no_stamp stamp_of (λ a. refl) (λ n z. rw (ne_eqb n 0 z)) _ ((library.meets-one).stamp_read s);
      stamp_write = λ bw seconds subseconds utco out. (library.meets-one).stamp_write _ out;
      addressing_read = λ p. flat _ (λ (r : PayloadRead). r.refusal) below.no_data (λ (r : SfnAddressing). r.refusal) no_data addressing_of (λ a. refl) (λ n z. refl) _ ((library.meets-one).addressing_read p);
      addressing_write = (library.meets-one).addressing_write;
      walk = λ d tx place. flat _ (λ (w : Walked). w.refusal) below.no_step (λ (w : SfnWalked). w.refusal) no_step walked_of (λ a. step-number a.refusal a.next a.step) (λ n z. refl) _ ((library.meets-one).walk d tx place);
      function_read = λ tag body. flat _ (λ (r : FunctionRead). r.refusal) below.no_function (λ (f : SfnFunction). f.refusal) no_function (λ (r : FunctionRead). function_of r.refusal r.function) (λ a. function-number a.refusal a.function) (λ n z. refl) _ ((library.meets-one).function_read tag body);
      function_write = λ kind tag value wait reserved bytes out. function-writes tag wait reserved bytes out kind value;
      mip_read = λ p. flat _ (λ (r : MipRead). r.refusal) below.no_mip (λ (r : SfnMip). r.refusal) no_mip mip_flat (λ a. refl) (λ n z. refl) _ ((library.meets-one).mip_read p);
      mip_write = mip-writes;
      emission = λ stamp delay offset. flat _ (λ (x : Time). x.refusal) below.no_time (λ (x : SfnTime). x.refusal) no_time time_of (λ a. refl) (λ n z. refl) _ ((library.meets-one).emission (steps stamp) (steps delay) offset);
      extra_delay = λ stamp delay offset reception. flat _ (λ (x : Time). x.refusal) below.no_time (λ (x : SfnTime). x.refusal) no_time time_of (λ a. refl) (λ n z. refl) _ ((library.meets-one).extra_delay (steps stamp) (steps delay) offset (steps reception));
    }
