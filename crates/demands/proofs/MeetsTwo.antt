-- OUR LIBRARY MEETS DEMAND 2: each format by the laws of its crate.
-- Assumes nothing.
use mathlib.Core.Path.{◌≡◌, refl, sym, ◌∙◌}
use mathlib.Core.List.{List}
use Prim.Native.Nat.{ℕ}
use native.Mathlib.Omega.{arith}
use lib.ListN.{length}
use Rattle.refusals.proofs.AnswerLaws.{written-accepted}
use Rattle.crc.proofs.OwnLaws.{crc-own}
use Rattle.packet.proofs.RoundTrips as packet
use Rattle.stamp.specs.Read as stamp_reading
use Rattle.stamp.specs.Write as stamp_writing
use Rattle.stamp.proofs.FieldLaws as stamp_fields
use Rattle.stamp.proofs.LayoutLaws.{kind-means}
use Rattle.stamp.proofs.NullStamps.{null-read}
use Rattle.stamp.proofs.RoundTrips as stamp
use Rattle.functions.proofs.Accepted as function_parts
use Rattle.functions.proofs.RoundTrips as function
use Rattle.addressing.specs.Data.{house}
use Rattle.addressing.specs.Payload as addressing_parts
use Rattle.addressing.proofs.PayloadLaws as payload
use Rattle.addressing.proofs.RoundTrips as addressing
use Rattle.mip.specs.Read as mip_reading
use Rattle.mip.specs.Write as mip_writing
use Rattle.mip.proofs.FieldLaws as mip_fields
use Rattle.mip.proofs.Operations as mip_parts
use Rattle.mip.proofs.RoundTrips as mip
use Rattle.mip.proofs.TimingLaws.{emission-accepted, extra-accepted}
use Rattle.demands.specs.Library.{ours}
use Rattle.demands.specs.Demand2.{Demand2}
use Rattle.demands.specs.Demand2.Packet.{Crcs, Packets}
use Rattle.demands.specs.Demand2.Stamp.{Stamps}
use Rattle.demands.specs.Demand2.Function.{Functions}
use Rattle.demands.specs.Demand2.Address.{Addressing}
use Rattle.demands.specs.Demand2.Mip.{Mips, Timing}
use Rattle.demands.proofs.MeetsTwo.WholeWalks.{walks-two}
use Rattle.demands.proofs.MeetsTwo.Carried.{carriage-two}
pub mod WholeWalks
pub mod Carried

crcs-two : Crcs ours
crcs-two = record { register = λ l. refl; own = crc-own }

packets-two : Packets ours
packets-two =
    record {
      reads = packet.read-accepted;
      payload = packet.payload-accepted;
      writes = packet.write-accepted;
      back = λ h p out b e. let r = packet.read-written h p out b e in (r.fields, r.bytes);
      forth = packet.written_read;
      rises = λ n h. omega arith;
      turns = refl;
    }

stamps-two : Stamps ours
unfolding stamp_writing.write_of
stamps-two =
    record {
      reads = stamp.read-accepted;
      writes = λ s out h. written-accepted (stamp_writing.write_checks s (length out)) (stamp_writing.stamp_bytes s) out h;
      back = stamp.read-written;
      forth = λ p out b e h. let n = eleven p e in
          stamp.written_read p out b e (omega (arith, n)) ∙ rw n;
      null = λ bw h. (null-read bw h).reads;
      kinds = kind-means;
      units = λ bw. refl;
    }
  where
    eleven : (p : List ℕ) → (stamp_reading.read_of p).refusal ≡ 0 → length p ≡ 11
    eleven p e = (stamp_fields.readable p (sym (stamp.read-shows p) ∙ e)).size

functions-two : Functions ours
functions-two =
    record {
      reads = function_parts.read-accepted;
      writes = function_parts.write-accepted;
      back = λ f carried out e. let r = function.read-written f carried out e in (r.function, r.bytes);
      forth = λ tag body out b e h. let r = function.written_read tag body out b e h in (r.tag, r.bytes);
    }

addressing-two : Addressing ours
unfolding addressing_parts.write_of
addressing-two =
    record {
      reads = payload.read-accepted house;
      data-of = payload.data-accepted house;
      writes = λ d out h. written-accepted (addressing_parts.write_checks house d (length out)) (addressing_parts.payload_bytes d) out h;
      back = λ d out e. let r = addressing.read-written house d out e in (r.count, r.bytes);
      forth = addressing.written_read house;
    }

mips-two : Mips ours
unfolding mip_writing.write_of
mips-two =
    record {
      reads = mip_parts.read-accepted;
      addressing = mip_parts.data-accepted;
      writes = λ m d out h. written-accepted (mip_writing.write_checks m d (length out)) (mip_writing.mip_bytes m d) out h;
      back = λ m d out e. let r = mip.read-written m d out e in (r.fields, r.addressing);
      forth = λ p out b e h. let n = long p e in
          mip.written_read p out b e (omega (arith, n)) ∙ rw n;
    }
  where
    long : (p : List ℕ) → (mip_reading.read_of p).refusal ≡ 0 → length p ≡ 188
    long p e = (mip_fields.readable p (sym (mip_parts.read-shows p) ∙ e)).size

timing-two : Timing ours
timing-two = record { emission = emission-accepted; extra = extra-accepted }

pub meets-two : Demand2 ours
meets-two =
    record {
      crcs = crcs-two;
      packets = packets-two;
      stamps = stamps-two;
      functions = functions-two;
      addressing = addressing-two;
      walks = walks-two;
      mips = mips-two;
      timing = timing-two;
      carriage = carriage-two;
    }
