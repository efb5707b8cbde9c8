-- Reading a T2-MI packet (01: 18, 19, 14, 20, 21, 22 in this order).
use Rattle.std.specs.Prelude.{ℕ, Bool, not, List, [], ◌∷◌, length, ◌==◌, nat_lt, slice_index, Result}
use Rattle.crc.specs.Crc.{crc_holds}
use Rattle.fields.specs.Formats.{unpack}
use Rattle.fields.specs.Parts.{part, number_at}
use Rattle.refusals.specs.Checks.{Check, ◌when◌}
use Rattle.refusals.specs.Answers.{answer, told}
use Rattle.refusals.specs.declared.Refusal.{Refusal}
use Rattle.packet.specs.Layout.{header, reserved_type, payload_bytes, pad_set, size_of}
use Rattle.packet.specs.declared.Header.{Header}

-- ---- the fields of a slice

-- field i of the header, which is the number in the first 6 bytes
abbrev pub field : ℕ → List ℕ → ℕ
field i s = slice_index (unpack header (number_at 0 6 s)) i

unfoldable pub header_of : List ℕ → Header
header_of s = record { kind = field 0 s; count = field 1 s; frame = field 2 s; stream = field 4 s; bits = field 5 s }

-- the payload with its pad
unfoldable pub payload_of : List ℕ → List ℕ
payload_of s = part 6 (payload_bytes (field 5 s)) s

-- ---- the refusals

abbrev pub too_short : List ℕ → Bool
too_short s = nat_lt (length s) 10

abbrev pub length_unlike : List ℕ → Bool
length_unlike s = not (length s == size_of s)

abbrev pub crc_wrong : List ℕ → Bool
crc_wrong s = not (crc_holds s)

abbrev pub reserved_set : List ℕ → Bool
reserved_set s = not (field 3 s == 0)

unfoldable pub read_checks : List ℕ → List Check
read_checks s =
    18 when too_short s
    ∷ 19 when length_unlike s
    ∷ 14 when crc_wrong s
    ∷ 20 when reserved_set s
    ∷ 21 when reserved_type (field 0 s)
    ∷ 22 when pad_set (field 5 s) (payload_of s)
    ∷ []

-- ---- the answers

-- a header; with a refusal its number, and a header of zeros
pub record Packet : Type 0 where
  pub refusal : ℕ
  pub header : Header

abbrev pub no_header : Header
no_header = record { kind = 0; count = 0; frame = 0; stream = 0; bits = 0 }

-- the answer that a result of `read` stands for
abbrev pub packet_told : Result Header Refusal → Packet
packet_told r = told (λ n. record { refusal = n; header = no_header }) (λ h. record { refusal = 0; header = h }) r

unfoldable pub read_of : List ℕ → Packet
read_of s =
    answer (read_checks s)
    (λ n. record { refusal = n; header = no_header })
    (record { refusal = 0; header = header_of s })

-- the payload of an accepted packet, and nothing of any other
unfoldable pub payload_read : List ℕ → List ℕ
payload_read s = answer (read_checks s) (λ n. []) (payload_of s)
