-- The premises of the demands admit their witnesses: by computing, and for the largest batch by laws on lengths.
-- Assumes nothing.
use mathlib.Core.Path.{◌≡◌, refl, ◌∙◌}
use mathlib.Core.Logic.{inl, inr}
use mathlib.Core.List.{◌++◌}
use Prim.Native.Nat.{ℕ, zero, suc, ◌*◌}
use native.Mathlib.Omega.{arith}
use lib.Dec.{lit<}
use lib.ListN.{length, replicate, length-replicate}
use Rattle.crc.specs.Crc.{shift, bit_at, feed, run, crc_of, crc_holds}
use Rattle.crc.specs.Sealed.{sealed}
use Rattle.crc.proofs.OwnLaws.{length-sealed, bytes-sealed, holds-own}
use Rattle.fields.specs.Formats.{pack, unpack, too_wide}
use Rattle.fields.specs.Numbers.{Bytes, number, bytes}
use Rattle.fields.specs.Parts.{part, overlay, number_at}
use Rattle.fields.specs.Signed.{unsigned}
use Rattle.fields.proofs.NumberLaws.{bytes-append}
use Rattle.refusals.specs.Answers.{answer}
use Rattle.packet.specs.Layout.{reserved_type, pad_set, size_of}
use Rattle.packet.specs.Cut.{Whole, AllWhole, cut, cut_by, batch_fault, joined, judge_of}
use Rattle.packet.specs.Read as packet
use Rattle.packet.specs.Write as packet_writing
use Rattle.stamp.specs.Layout as stamp_layout
use Rattle.stamp.specs.Read as stamp
use Rattle.stamp.specs.Write as stamp_writing
use Rattle.functions.specs.Tags.{body_long, body_wrong, value_reserved, bandwidth_reserved}
use Rattle.functions.specs.Function.{body_of}
use Rattle.functions.specs.Read as function
use Rattle.functions.specs.Write as function_writing
use Rattle.addressing.specs.Data.{entries_by, entries_in, group_checks, function_checks, functions_of, fault_in, fault_of}
use Rattle.addressing.specs.Payload as addressing
use Rattle.addressing.specs.Walk as walking
use Rattle.mip.specs.Layout as mip_layout
use Rattle.mip.specs.Read as mip
use Rattle.mip.specs.Write as mip_writing
use Rattle.mip.specs.Timing.{emission_checks, extra_checks}
use Rattle.transport.specs.Header as transport
use Rattle.transport.specs.Tests.{pid_outside, field_long, pointer_beyond, transport_checks}
use Rattle.transport.specs.Load.{head_bytes, transport_of}
use Rattle.carry.specs.Loads.{gone_of, loads_by, loads_of}
use Rattle.carry.specs.Carry.{numbered, carry_checks, carry_of, transports_in}
use Rattle.carry.proofs.ShapeLaws.{length-joined, needs-few}
use Rattle.gather.specs.State.{unfit, gather_checks}
use Rattle.demands.specs.Library.{ours}
use Rattle.demands.specs.Demand3.{Carriable}
use Rattle.demands.proofs.Wrong.Changed.{bytes-by}
use Rattle.demands.specs.Witnesses.{routes, AllRoutes, ten, small, header8192, eighth, largest, Journeys, Refusals}

-- ---- the numbers of each list

pub refusals-shown : Refusals
unfolding gather_checks transport_checks unfit pid_outside field_long pointer_beyond transport.header_field transport.payload_at carry_checks batch_fault judge_of cut cut_by loads_of loads_by gone_of packet.read_checks packet.payload_of packet_writing.write_checks reserved_type pad_set size_of stamp.read_checks stamp.stamp_of stamp_writing.write_checks stamp_layout.second_reached stamp_layout.is_null function.read_checks function_writing.write_checks function_writing.unfit function_writing.reserved body_long body_wrong value_reserved bandwidth_reserved body_of unsigned addressing.payload_checks addressing.write_checks walking.walk_checks walking.reached walking.ends_at walking.functions_for walking.heard_of functions_of fault_of fault_in entries_in entries_by group_checks function_checks mip.read_checks mip.addressing_of mip_layout.parameters_of mip_writing.write_checks mip_writing.field_wide emission_checks extra_checks too_wide crc_holds crc_of run feed bit_at shift part number_at number bytes pack unpack joined
refusals-shown =
    record {
      starting = (refl, (refl, tt));
      gathering = (refl, (refl, (refl, (refl, (refl, (refl, (refl, (refl, (refl, (refl, (refl, (refl, (refl, (refl, (refl, (refl, (refl, (refl, (refl, (refl, (refl, (refl, (refl, tt)))))))))))))))))))))));
      carrying = (refl, (refl, (refl, (refl, (refl, (refl, (refl, (refl, (refl, tt)))))))));
      packet_read = (refl, (refl, (refl, (refl, (refl, (refl, (refl, tt)))))));
      packet_write = (refl, (refl, (refl, (refl, (refl, (refl, (refl, (refl, tt))))))));
      stamp_read = (refl, (refl, (refl, (refl, (refl, (refl, tt))))));
      stamp_write = (refl, (refl, (refl, (refl, (refl, (refl, (refl, (refl, tt))))))));
      function_read = (refl, (refl, (refl, (refl, (refl, (refl, (refl, (refl, tt))))))));
      function_write = (refl, (refl, (refl, (refl, (refl, (refl, (refl, (refl, (refl, (refl, (refl, (refl, (refl, tt)))))))))))));
      addressing_read = (refl, (refl, (refl, (refl, (refl, (refl, (refl, tt)))))));
      addressing_write = (refl, (refl, (refl, (refl, (refl, (refl, tt))))));
      walk = (refl, (refl, (refl, (refl, (refl, (refl, tt))))));
      mip_read = (refl, (refl, (refl, (refl, (refl, (refl, (refl, (refl, (refl, (refl, (refl, (refl, (refl, (refl, tt))))))))))))));
      mip_write = (refl, (refl, (refl, (refl, (refl, (refl, (refl, (refl, (refl, (refl, (refl, (refl, (refl, (refl, tt))))))))))))));
      emission = (refl, (refl, (refl, (refl, tt))));
      extra_delay = (refl, (refl, (refl, (refl, (refl, tt)))));
    }

-- ---- routes

routes-go : AllRoutes routes
unfolding transport.header_field number pack unpack
routes-go = (
  (omega arith, (omega arith, omega arith, omega arith, (omega arith, omega arith, omega arith, tt))),
  (
    tt,
    (
      (omega arith, (omega arith, omega arith, omega arith, tt)),
      (
        (omega arith, (omega arith, omega arith, omega arith, (omega arith, omega arith, omega arith, tt))),
        (
          (omega arith, (omega arith, omega arith, omega arith, tt)),
          (
            (omega arith, (omega arith, omega arith, omega arith, tt)),
            (
              (omega arith, tt),
              (
                (omega arith, (refl, (refl, (omega arith, omega arith, omega arith, (refl, tt))))),
                (
                  (inr refl, (inl refl, (omega arith, (inr refl, (refl, (inl refl, (inr refl, (omega arith, omega arith, omega arith, (inl refl, tt))))))))),
                  tt,
                ),
              ),
            ),
          ),
        ),
      ),
    ),
  ),
)

-- ---- batches

small_bytes : Bytes ten
small_bytes = bytes-by ten refl

small-goes : Carriable small
unfolding joined size_of crc_holds crc_of run feed bit_at shift loads_of loads_by gone_of
small-goes = record { whole = (record { size = refl; crc = refl }, tt); bytes = small_bytes; short = omega arith; room = omega arith }

-- the largest: 65,536 bytes

eighth-long : length eighth ≡ 8192
eighth-long = length-sealed (header8192 ++ replicate 8182 0) ∙ omega (arith, length-replicate {A = ℕ} 8182 0)

eighth-whole : Whole eighth
unfolding sealed size_of
eighth-whole = record { size = eighth-long; crc = holds-own (header8192 ++ replicate 8182 0) }

zeros-bytes : (n : ℕ) → Bytes (replicate n 0)
zeros-bytes zero i = lit< tt
zeros-bytes (suc n) zero = lit< tt
zeros-bytes (suc n) (suc i) = zeros-bytes n i

eighth-bytes : Bytes eighth
eighth-bytes = bytes-sealed (header8192 ++ replicate 8182 0) (bytes-append header8192 (replicate 8182 0) (bytes-by header8192 refl) (zeros-bytes 8182))

all-bytes : (n : ℕ) → Bytes (joined (replicate n eighth))
unfolding joined
all-bytes zero = λ i. lit< tt
all-bytes (suc n) = bytes-append eighth (joined (replicate n eighth)) eighth-bytes (all-bytes n)

all_whole : (n : ℕ) → AllWhole (replicate n eighth)
all_whole zero = tt
all_whole (suc n) = (eighth-whole, all_whole n)

largest-long : length (joined largest.packets) ≡ 65536
largest-long = length-joined largest.packets ∙ omega (arith, eighth-long)

largest-goes : Carriable largest
largest-goes =
    record {
      whole = all_whole 8;
      bytes = all-bytes 8;
      short = omega (arith, largest-long);
      room = omega (arith, largest-long, needs-few largest.packets (all_whole 8), length-replicate {A = ℕ} (188 * 359) 0);
    }

pub journeys-go : Journeys ours
unfolding carry_of carry_checks batch_fault cut cut_by joined size_of crc_holds crc_of run feed bit_at shift loads_of loads_by gone_of numbered transport_of head_bytes transports_in pid_outside answer overlay bytes pack unpack
journeys-go =
    record {
      routes-go = routes-go;
      several-go = (small-goes, (small-goes, (small-goes, tt)));
      over-several = (omega arith, (omega arith, omega arith, omega arith, tt));
      largest-goes = (largest-goes, tt);
    }
