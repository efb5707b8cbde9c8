-- Where each field of a MIP lies (000, table 1b): the header of a transport packet, 17 bytes of parameters, the addressing
-- data, the CRC, and stuffing up to 188 bytes.
use Rattle.std.specs.Prelude.{ℕ, ◌+◌, List, [], ◌∷◌}
use Rattle.fields.specs.Formats.{unpack}
use Rattle.fields.specs.Numbers.{number}
use Rattle.fields.specs.Parts.{part}

-- the header's fields between the sync byte and the count, in every MIP: no error mark, start and priority 1, PID 0x15,
-- scrambling 00, adaptation control 01
abbrev pub fixed_fields : List ℕ
fixed_fields = 0 ∷ 1 ∷ 1 ∷ 0x15 ∷ 0 ∷ 1 ∷ []

-- their widths
abbrev pub fixed_widths : List ℕ
fixed_widths = 1 ∷ 1 ∷ 1 ∷ 13 ∷ 2 ∷ 2 ∷ []

-- synchronization_id 8, section_length 8, pointer 16, periodic_flag 1, future_use 15, synchronization_time_stamp 24,
-- maximum_delay 24, tps_mip 32, individual_addressing_length 8
abbrev pub parameters : List ℕ
parameters = 8 ∷ 8 ∷ 16 ∷ 1 ∷ 15 ∷ 24 ∷ 24 ∷ 32 ∷ 8 ∷ []

-- the parameters of a packet
unfoldable pub parameters_of : List ℕ → List ℕ
parameters_of p = unpack parameters (number (part 4 17 p))

-- section_length counts from the pointer to the CRC's last byte: 15 bytes of parameters, the addressing data, 4 of CRC
abbrev pub section_of : ℕ → ℕ
section_of addressing = 19 + addressing

-- the CRC runs from 0x47 to its own last byte, and stuffing follows
abbrev pub crc_end : ℕ → ℕ
crc_end addressing = 25 + addressing

-- a time stamp, and a maximum delay, is a number of 100 ns steps below a second
abbrev pub second : ℕ
second = 10000000
