-- The example of 01, "Listing program": one batch of a timestamp packet and a packet of type 0x12.
use Rattle.std.specs.Prelude.{ℕ, List, [], ◌∷◌, ◌++◌, replicate}
use Rattle.text.specs.Laid.{space, newline}
use Rattle.lines.specs.Lines.{head_line}

-- type 0x20, count 5, superframe 1: the null stamp at 8 MHz
abbrev stamp_packet : List ℕ
stamp_packet =
    0x20 ∷ 0x05 ∷ 0x10 ∷ 0x00 ∷ 0x00 ∷ 0x58
    ∷ 0x04 ∷ 0xFF ∷ 0xFF ∷ 0xFF ∷ 0xFF ∷ 0xFF ∷ 0xFF ∷ 0xFF ∷ 0xFF ∷ 0xFF ∷ 0xFF
    ∷ 0xC7 ∷ 0x44 ∷ 0x71 ∷ 0xB2 ∷ []

-- type 0x12, count 6, superframe 1: 40 zero bits
abbrev balancing_packet : List ℕ
balancing_packet =
    0x12 ∷ 0x06 ∷ 0x10 ∷ 0x00 ∷ 0x00 ∷ 0x28
    ∷ 0x00 ∷ 0x00 ∷ 0x00 ∷ 0x00 ∷ 0x00
    ∷ 0x3A ∷ 0x0A ∷ 0xD1 ∷ 0x50 ∷ []

-- the one transport packet that carries both, as the batch writer makes it: 147 bytes of adaptation field, pointer 0
unfoldable pub example_transport : List ℕ
example_transport =
    0x47 ∷ 0x50 ∷ 0x00 ∷ 0x30 ∷ 0x92 ∷ 0x00
    ∷ (replicate 145 0xFF ++ (0x00 ∷ (stamp_packet ++ balancing_packet)))

-- what 01 prints for it: "32 5 1 0 88", "18 6 1 0 40", "packets 2 gaps 0"
unfoldable pub example_text : List ℕ
example_text =
    head_line
    ++ (51 ∷ 50 ∷ space ∷ 53 ∷ space ∷ 49 ∷ space ∷ 48 ∷ space ∷ 56 ∷ 56 ∷ newline
    ∷ 49 ∷ 56 ∷ space ∷ 54 ∷ space ∷ 49 ∷ space ∷ 48 ∷ space ∷ 52 ∷ 48 ∷ newline
    ∷ 112 ∷ 97 ∷ 99 ∷ 107 ∷ 101 ∷ 116 ∷ 115 ∷ space ∷ 50 ∷ space ∷ 103 ∷ 97 ∷ 112 ∷ 115 ∷ space ∷ 48 ∷ newline
    ∷ [])
