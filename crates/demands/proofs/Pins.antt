-- Our library holds the rows of every format, by computing; and so does every library that meets demands 1 and 2.
-- Assumes nothing.
use mathlib.Core.Path.{◌≡◌, refl, ap, ◌∙◌}
use mathlib.Core.List.{List, [], ◌∷◌}
use Prim.Native.Nat.{ℕ, zero, suc, ◌+◌}
use lib.ListN.{length}
use Rattle.crc.specs.Crc.{shift, bit_at, feed, run, crc_of, crc_holds}
use Rattle.crc.specs.Sealed.{sealed}
use Rattle.fields.specs.Formats.{pack, unpack, too_wide}
use Rattle.fields.specs.Numbers.{number, bytes}
use Rattle.fields.specs.Parts.{part, overlay, number_at}
use Rattle.fields.specs.Signed.{signed, unsigned}
use Rattle.refusals.specs.Answers.{answer, written}
use Rattle.packet.specs.Layout.{reserved_type, pad_set, size_of}
use Rattle.packet.specs.Cut.{judge_of, cut, cut_by, batch_fault, joined}
use Rattle.packet.specs.Read as packet_reading
use Rattle.packet.specs.Write as packet_writing
use Rattle.stamp.specs.Layout as stamp_layout
use Rattle.stamp.specs.Read as stamp_reading
use Rattle.stamp.specs.Write as stamp_writing
use Rattle.functions.specs.Tags.{body_long, body_wrong, value_reserved, bandwidth_reserved}
use Rattle.functions.specs.Function.{function_of, body_of}
use Rattle.functions.specs.Read as function_reading
use Rattle.functions.specs.Write as function_writing
use Rattle.addressing.specs.Data.{entries_by, entries_in, group_checks, function_checks, functions_of, fault_in, fault_of}
use Rattle.addressing.specs.Payload as payloading
use Rattle.addressing.specs.Walk as walking
use Rattle.mip.specs.Layout as mip_layout
use Rattle.mip.specs.Read as mip_reading
use Rattle.mip.specs.Write as mip_writing
use Rattle.transport.specs.Header as transport
use Rattle.transport.specs.Tests.{pid_outside, field_long, pointer_beyond, transport_checks, look_checks}
use Rattle.transport.specs.Look.{look_of}
use Rattle.transport.specs.Load.{head_bytes, transport_of}
use Rattle.carry.specs.Loads.{gone_of, loads_by, loads_of}
use Rattle.carry.specs.Carry.{numbered, carry_checks, carry_of}
use Rattle.gather.specs.State.{start_of, unfit, gather_checks}
use Rattle.gather.specs.Rules.{brought_by, rule_one, joining, up_to_start, from_start, rules_on}
use Rattle.gather.specs.Gather.{joiners, taken_of, gather_of}
use Rattle.gather.specs.Calls.{Call, calls_by, lent, handed_all}
use Rattle.gather.specs.declared.Reader.{Reader}
use Rattle.gather.specs.State.{Started}
use Rattle.demands.specs.Library.{Library, Alike, ours}
use Rattle.demands.specs.Demand1.{Demand1}
use Rattle.demands.specs.Demand2.{Demand2}
use Rattle.demands.specs.Demand2.Address.{answers_by, told_by}
use Rattle.demands.specs.Pins.{Row, packet, stamp, unit, function, addressing, heard, mip, carried, looked, blank, together, buffer, space, Holds, AllHold, packets, stamps, functions, payloads, mips, transports, Pins}
use Rattle.demands.proofs.Settled.{settled}

packets-hold : AllHold ours packets
unfolding packet_reading.read_of packet_reading.read_checks packet_reading.header_of packet_reading.payload_of packet_reading.payload_read packet_writing.write_of packet_writing.write_checks packet_writing.packet_bytes packet_writing.front_bytes sealed reserved_type pad_set size_of too_wide crc_holds crc_of run feed bit_at shift answer written overlay part number_at number bytes pack unpack
packets-hold = ((refl, refl, refl), tt)

stamps-hold : AllHold ours stamps
unfolding stamp_reading.read_of stamp_reading.read_checks stamp_reading.stamp_of stamp_writing.write_of stamp_writing.write_checks stamp_writing.stamp_bytes stamp_layout.second_reached stamp_layout.is_null too_wide answer written overlay number bytes pack unpack
stamps-hold = ((refl, refl), ((refl, refl), (refl, (refl, (refl, (refl, (refl, (refl, (refl, tt)))))))))

functions-hold : AllHold ours functions
unfolding function_reading.function_read function_reading.read_checks function_writing.write_of function_writing.write_checks function_writing.unfit function_writing.reserved body_long body_wrong value_reserved bandwidth_reserved function_of body_of too_wide signed unsigned answer written overlay number bytes pack unpack
functions-hold =
    ((refl, refl), ((refl, refl), ((refl, refl), ((refl, refl), ((refl, refl), ((refl, refl), ((refl, refl), ((refl, refl), ((refl, refl), ((refl, refl), ((refl, refl), tt)))))))))))

payloads-hold : AllHold ours payloads
unfolding payloading.payload_of payloading.payload_checks payloading.data_read payloading.write_of payloading.write_checks walking.walk_of walking.walk_checks walking.reached walking.ends_at walking.step_in walking.functions_for walking.heard_of functions_of fault_of fault_in entries_in entries_by group_checks function_checks body_wrong value_reserved bandwidth_reserved answers_by told_by part answer written overlay unpack
payloads-hold = ((refl, refl, refl), (refl, (refl, tt)))

mips-hold : AllHold ours mips
unfolding mip_reading.read_of mip_reading.read_checks mip_reading.mip_of mip_reading.addressing_of mip_reading.addressing_read mip_writing.write_of mip_writing.write_checks mip_writing.mip_bytes mip_writing.front_bytes mip_writing.lead_bytes mip_writing.field_wide mip_layout.parameters_of transport.header_field functions_of fault_of fault_in entries_in entries_by group_checks function_checks body_wrong value_reserved bandwidth_reserved sealed too_wide crc_holds crc_of run feed bit_at shift answer written overlay part number bytes pack unpack
mips-hold = ((refl, refl, refl), tt)

transports-hold : AllHold ours transports
unfolding look_of look_checks gather_of taken_of gather_checks transport_checks unfit pid_outside field_long pointer_beyond transport.header_field transport.payload_at transport.carried_at transport.carried_by brought_by rule_one joining up_to_start from_start rules_on joiners judge_of cut_by cut joined size_of crc_holds crc_of run feed bit_at shift overlay answer pack unpack number bytes batch_fault numbered carry_checks carry_of loads_of loads_by gone_of head_bytes transport_of start_of
transports-hold = ((refl, refl), (refl, (refl, (refl, tt))))

pub pins : Pins ours
pins =
    record {
      packets-hold = packets-hold;
      stamps-hold = stamps-hold;
      functions-hold = functions-hold;
      payloads-hold = payloads-hold;
      mips-hold = mips-hold;
      transports-hold = transports-hold;
    }

-- ---- and so does every library that meets demands 1 and 2

module _ (lib : Library) (a : Alike lib ours) where
  walks-alike : (k : ℕ) (d : List ℕ) (tx place : ℕ) → answers_by lib k d tx place ≡ answers_by ours k d tx place
  unfolding answers_by
  walks-alike zero d tx place = refl
  walks-alike (suc k) d tx place =
      rw (a.walk d tx place, walks-alike k d tx (ours.walk d tx place).next)

  calls-alike : (s : Reader) (g : List ℕ) (cs : List Call) → calls_by lib.gather s g cs ≡ calls_by ours.gather s g cs
  calls-alike s g [] = refl
  calls-alike s g (c ∷ cs) =
      let o = ours.gather s c.transport g c.output in
      rw (a.gather s c.transport g c.output, calls-alike o.answer.reader o.gathering cs)

  holds-alike : (r : Row) → Holds ours r → Holds lib r
  holds-alike (packet b h p) e = (a.packet_read b ∙ e.0, a.packet_payload b ∙ e.1, a.packet_write h p (blank b) ∙ e.2)
  holds-alike (stamp b s) e = (a.stamp_read b ∙ e.0, a.stamp_write s (blank b) ∙ e.1)
  holds-alike (unit bw n) e = a.units bw ∙ e
  holds-alike (function t b f beside) e = (a.function_read t b ∙ e.0, a.function_write f beside (blank b) ∙ e.1)
  holds-alike (addressing b d) e = (a.addressing_read b ∙ e.0, a.addressing_data b ∙ e.1, a.addressing_write d (blank b) ∙ e.2)
  holds-alike (heard d tx fs) e = ap (told_by d) (walks-alike (length d + 1) d tx 0) ∙ e
  holds-alike (mip b m d) e = (a.mip_read b ∙ e.0, a.mip_addressing b ∙ e.1, a.mip_write m d (blank b) ∙ e.2)
  holds-alike (carried pid count batch ts n next) e = (
    a.carry pid count (together batch) (blank (together ts)) ∙ e.0,
    ap handed_all
        (calls-alike (lib.start pid).reader buffer (lent space ts)
        ∙ ap (λ (x : Started). calls_by ours.gather x.reader buffer (lent space ts)) (a.start pid))
        ∙ e.1,
  )
  holds-alike (looked pid t found) e = e

  all_alike : (rs : List Row) → AllHold ours rs → AllHold lib rs
  all_alike [] h = tt
  all_alike (r ∷ rs) h = (holds-alike r h.0, all_alike rs h.1)

pub pinned : (lib : Library) → Demand1 lib → Demand2 lib → Pins lib
pinned lib one two =
    let a : Alike lib ours = settled lib one two in
    record {
      packets-hold = all_alike lib a packets pins.packets-hold;
      stamps-hold = all_alike lib a stamps pins.stamps-hold;
      functions-hold = all_alike lib a functions pins.functions-hold;
      payloads-hold = all_alike lib a payloads pins.payloads-hold;
      mips-hold = all_alike lib a mips pins.mips-hold;
      transports-hold = all_alike lib a transports pins.transports-hold;
    }
