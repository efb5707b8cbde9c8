-- Addressing, the MIP and site timing, laid out flat, and a MIP's arguments put together.
use Rattle.std.specs.Prelude.{ℕ, ◌^◌, ◌<◌, List, ◌∷◌, eqb, ltb, length, ◌≡◌, Result}
use Rattle.refusals.specs.Checks.{Check, ◌when◌}
use Rattle.refusals.specs.Answers.{Wrote, written}
use Rattle.refusals.specs.declared.Refusal.{Refusal}
use Rattle.addressing.specs.Payload.{PayloadRead}
use Rattle.addressing.specs.Walk.{Step, Given, End, Walked}
use Rattle.mip.specs.Read.{MipRead}
use Rattle.mip.specs.Timing.{Time, time_told}
use Rattle.mip.specs.Write.{mip_bytes, write_checks}
use Rattle.mip.specs.declared.Mip.{Mip}
use Rattle.mip.specs.declared.Steps.{Steps}
use Rattle.sfn.specs.Answers.{bit_of}
use Rattle.sfn.specs.declared.site.SfnAddressing.{SfnAddressing}
use Rattle.sfn.specs.declared.site.SfnWalked.{SfnWalked}
use Rattle.sfn.specs.declared.site.SfnMip.{SfnMip}
use Rattle.sfn.specs.declared.site.SfnTime.{SfnTime}

abbrev pub addressing_of : PayloadRead → SfnAddressing
addressing_of p = record { refusal = p.refusal; bytes = p.bytes }

abbrev pub step_of : ℕ → ℕ → Step → SfnWalked
step_of n next (Given tag start body) = record { refusal = n; start = start; body = body; next = next; given = 1; tag = tag }
step_of n next End = record { refusal = n; start = 0; body = 0; next = next; given = 0; tag = 0 }

abbrev pub walked_of : Walked → SfnWalked
walked_of w = step_of w.refusal w.next w.step

-- a step's numbers fit C's 32 bits: only a private function cites this
abbrev pub StepFits : Step → Type 0
StepFits (Given tag start body) = (start < 2 ^ 32) × (body < 2 ^ 32)
StepFits End = Unit

abbrev pub mip_flat : MipRead → SfnMip
mip_flat p =
    record {
      refusal = p.refusal;
      stamp = p.mip.stamp.0;
      delay = p.mip.delay.0;
      tps = p.mip.tps;
      addressing = p.addressing;
      pointer = p.mip.pointer;
      future = p.mip.future;
      count = p.mip.count;
      periodic = bit_of p.mip.periodic;
    }

abbrev pub mip_made : ℕ → ℕ → ℕ → ℕ → ℕ → ℕ → ℕ → Mip
mip_made count pointer periodic future stamp delay tps =
    record {
      count = count;
      pointer = pointer;
      periodic = eqb periodic 1;
      future = future;
      stamp = record { 0 = stamp };
      delay = record { 0 = delay };
      tps = tps;
    }

-- a periodic over 1 is too wide for its bit: 38, in its turn after 36
unfoldable pub mip_checks : ℕ → Mip → List ℕ → ℕ → List Check
mip_checks periodic m d room = 36 when ltb 163 (length d) ∷ 38 when ltb 1 periodic ∷ write_checks m d room

abbrev pub mip_written : ℕ → ℕ → ℕ → ℕ → ℕ → ℕ → ℕ → List ℕ → List ℕ → Wrote
mip_written count pointer periodic future stamp delay tps d out =
    let m = mip_made count pointer periodic future stamp delay tps in
    written (mip_checks periodic m d (length out)) (mip_bytes m d) out

abbrev pub time_of : Time → SfnTime
time_of t = record { refusal = t.refusal; steps = t.steps.0 }

abbrev pub ShowsTime : Result Steps Refusal → SfnTime → Type 0
ShowsTime r t = t ≡ time_of (time_told r)
