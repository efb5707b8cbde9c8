-- Where each field of a T2-MI packet lies (002, clause 5.1): a header of 6 bytes, the payload with its pad, and 4 bytes of CRC.
use Rattle.std.specs.Prelude.{ℕ, ◌+◌, ◌-◌, ◌*◌, ◌/◌, ◌%◌, ◌^◌, Bool, true, false, cond, not, List, [], ◌∷◌, ◌==◌, slice_index}

-- packet_type 8, packet_count 8, superframe_idx 4, reserved 9, t2mi_stream_id 3, payload_len 16
abbrev pub header : List ℕ
header = 8 ∷ 8 ∷ 4 ∷ 9 ∷ 3 ∷ 16 ∷ []

-- the packet types of table 1
abbrev pub types : List ℕ
types = 0x00 ∷ 0x01 ∷ 0x02 ∷ 0x10 ∷ 0x11 ∷ 0x12 ∷ 0x20 ∷ 0x21 ∷ 0x30 ∷ 0x31 ∷ 0x32 ∷ 0x33 ∷ []

abbrev pub one_of : List ℕ → ℕ → Bool
one_of [] n = false
one_of (t ∷ ts) n = cond (n == t) true (one_of ts n)

-- every other type is reserved (01, refusal 21)
unfoldable pub reserved_type : ℕ → Bool
reserved_type n = not (one_of types n)

-- the packet_count after another: it goes from 255 on to 0
abbrev pub count_after : ℕ → ℕ
count_after n = (n + 1) % 256

-- the bytes of a payload of so many bits, with its pad
abbrev pub payload_bytes : ℕ → ℕ
payload_bytes bits = (bits + 7) / 8

-- the bytes of the whole packet: 10, and payload_len divided by 8 rounded up
abbrev pub total_of : ℕ → ℕ
total_of bits = 10 + payload_bytes bits

-- the pad goes up to a byte: 0 to 7 bits
abbrev pub pad_bits : ℕ → ℕ
pad_bits bits = 8 * payload_bytes bits - bits

-- a pad bit is set: they are the lowest of the payload's last byte (01, refusal 22)
unfoldable pub pad_set : ℕ → List ℕ → Bool
pad_set bits payload = not (slice_index payload (payload_bytes bits - 1) % 2 ^ pad_bits bits == 0)

-- the length that bytes give themselves, in whose bytes 4 and 5 payload_len lies. Past the end a byte counts as 0, so
-- under six bytes it is at least 10: more than there are
unfoldable pub size_of : List ℕ → ℕ
size_of l = total_of (slice_index l 4 * 256 + slice_index l 5)
