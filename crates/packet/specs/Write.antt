-- Writing a T2-MI packet (01: 21, 38, 19, 22, 16 in this order).
use Rattle.std.specs.Prelude.{ℕ, not, List, [], ◌∷◌, ◌++◌, length, ◌==◌, nat_lt}
use Rattle.crc.specs.Sealed.{sealed}
use Rattle.fields.specs.Formats.{pack, too_wide}
use Rattle.fields.specs.Numbers.{bytes}
use Rattle.refusals.specs.Checks.{Check, ◌when◌}
use Rattle.refusals.specs.Answers.{Wrote, written}
use Rattle.packet.specs.Layout.{header, reserved_type, payload_bytes, total_of, pad_set}
use Rattle.packet.specs.declared.Header.{Header}

-- the header's fields in clause 5.1's order; the reserved bits are zero
abbrev pub fields_of : Header → List ℕ
fields_of h = h.kind ∷ h.count ∷ h.frame ∷ 0 ∷ h.stream ∷ h.bits ∷ []

-- all but the CRC
unfoldable pub front_bytes : Header → List ℕ → List ℕ
front_bytes h payload = bytes 6 (pack header (fields_of h)) ++ payload

-- the whole packet, with its CRC
unfoldable pub packet_bytes : Header → List ℕ → List ℕ
packet_bytes h payload = sealed (front_bytes h payload)

-- `room` is how many bytes the output has
unfoldable pub write_checks : Header → List ℕ → ℕ → List Check
write_checks h payload room =
    21 when reserved_type h.kind
    ∷ 38 when too_wide header (fields_of h)
    ∷ 19 when not (length payload == payload_bytes h.bits)
    ∷ 22 when pad_set h.bits payload
    ∷ 16 when nat_lt room (total_of h.bits)
    ∷ []

-- the answer, and what the output then holds
unfoldable pub write_of : Header → List ℕ → List ℕ → Wrote
write_of h payload out = written (write_checks h payload (length out)) (packet_bytes h payload) out
