-- The functions of individual addressing by their tags (01, "Timestamp and addressing payloads": the table; 000, clause
-- 6.1): how long a body is, where its fields lie, and what is refused of it.
use Rattle.std.specs.Prelude.{ℕ, ◌+◌, Bool, false, not, ◌&&◌, List, [], ◌∷◌, eqb, leb, ltb, get_or}
use Rattle.fields.specs.Formats.{unpack}

-- HOUSE RULE: function_length counts tag and length bytes too. This number says how many of the function's own two bytes it counts:
-- what looks at a function_length takes it (addressing, `own`), and all else speaks of the bytes of a body
abbrev pub house : ℕ
house = 2

-- ---- the table

-- the bytes that a body may have
pub data Size : Type 0 where
  exactly : ℕ → Size
  any : Size

-- one for each tag from 0 on
abbrev pub bodies : List Size
bodies =
    -- 0: time offset
    exactly 2
    -- 1: frequency offset
    ∷ exactly 3
    -- 2: power
    ∷ exactly 2
    -- 3: private
    ∷ any
    -- 4: cell id
    ∷ exactly 3
    -- 5: tags enabled
    ∷ any
    -- 6: bandwidth
    ∷ exactly 1
    ∷ []

-- every other tag is passed through, with any body
abbrev pub size_of : ℕ → Size
size_of tag = get_or bodies tag any

-- cell id 16, wait flag 1, reserved 7
abbrev pub cell : List ℕ
cell = 16 ∷ 1 ∷ 7 ∷ []

-- bandwidth 7, wait flag 1
abbrev pub bandwidth : List ℕ
bandwidth = 7 ∷ 1 ∷ []

-- ---- what is refused

-- a body for which the eight bits of function_length are too few: over 253 bytes (01, refusal 38)
unfoldable pub body_long : ℕ → Bool
body_long n = ltb 255 (n + house)

abbrev pub unlike : Size → ℕ → Bool
unlike (exactly k) n = not (eqb n k)
unlike any n = false

-- a known tag with a body of the wrong length (01, refusal 28)
unfoldable pub body_wrong : ℕ → ℕ → Bool
body_wrong tag n = unlike (size_of tag) n

-- 0 is 5 MHz, and 1 to 127 are reserved (000, table 14)
unfoldable pub value_reserved : ℕ → Bool
value_reserved v = leb 1 v && leb v 127

-- a bandwidth function whose value is reserved (01, refusal 29); `first` is the body's first byte
unfoldable pub bandwidth_reserved : ℕ → ℕ → Bool
bandwidth_reserved tag first = eqb tag 6 && value_reserved (get_or (unpack bandwidth first) 0 0)
