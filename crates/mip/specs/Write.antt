-- Writing a MIP (01: 36, 38, 33, 34, the check of the addressing data, 16).
use Rattle.std.specs.Prelude.{ℕ, ◌-◌, Bool, true, cond, List, [], ◌∷◌, ◌++◌, leb, ltb, length, replicate}
use Rattle.crc.specs.Sealed.{sealed}
use Rattle.fields.specs.Formats.{pack, too_wide}
use Rattle.fields.specs.Numbers.{bytes}
use Rattle.refusals.specs.Checks.{Check, ◌when◌}
use Rattle.refusals.specs.Answers.{Wrote, written}
use Rattle.addressing.specs.Data.{house, fault}
use Rattle.transport.specs.Header.{header}
use Rattle.mip.specs.Layout.{fixed_fields, parameters, section_of, crc_end, second}
use Rattle.mip.specs.declared.Mip.{Mip}

abbrev pub flag : Bool → ℕ
flag b = cond b 1 0

-- the fields in table 1b's order
abbrev pub header_fields : Mip → List ℕ
header_fields m = 0x47 ∷ (fixed_fields ++ (m.count ∷ []))

abbrev pub parameter_fields : Mip → ℕ → List ℕ
parameter_fields m addressing =
    0 ∷ section_of addressing ∷ m.pointer ∷ flag m.periodic ∷ m.future ∷ m.stamp.0 ∷ m.delay.0 ∷ m.tps ∷ addressing ∷ []

-- the header and the parameters
unfoldable pub lead_bytes : Mip → ℕ → List ℕ
lead_bytes m addressing =
    bytes 4 (pack header (header_fields m)) ++ bytes 17 (pack parameters (parameter_fields m addressing))

-- all before the CRC
unfoldable pub front_bytes : Mip → List ℕ → List ℕ
front_bytes m d = lead_bytes m (length d) ++ d

-- the whole packet: with its CRC, and stuffing up to 188
unfoldable pub mip_bytes : Mip → List ℕ → List ℕ
mip_bytes m d = sealed (front_bytes m d) ++ replicate (188 - crc_end (length d)) 0xFF

-- a field is too wide for its bits (01, refusal 38)
unfoldable pub field_wide : Mip → ℕ → Bool
field_wide m addressing =
    cond (too_wide header (header_fields m)) true (too_wide parameters (parameter_fields m addressing))

-- `room` is how many bytes the output has
unfoldable pub write_checks : Mip → List ℕ → ℕ → List Check
write_checks m d room =
    36 when ltb 163 (length d)
    ∷ 38 when field_wide m (length d)
    ∷ 33 when leb second m.stamp.0
    ∷ 34 when leb second m.delay.0
    ∷ fault house d
    ∷ 16 when ltb room 188
    ∷ []

-- the answer, and what the output then holds
unfoldable pub write_of : Mip → List ℕ → List ℕ → Wrote
write_of m d out = written (write_checks m d (length out)) (mip_bytes m d) out
