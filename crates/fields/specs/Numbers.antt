-- Numbers in bytes, most significant byte first: the format whose fields all have 8 bits.
use Rattle.std.specs.Prelude.{ℕ, ◌<◌, List, length, get_or, replicate}
use Rattle.fields.specs.Formats.{pack, unpack}

-- what a slice of bytes tells of its list, past whose end `get_or` answers 0
abbrev pub Bytes : List ℕ → Type 0
Bytes l = (i : ℕ) → get_or l i 0 < 256

-- the bytes as one number
unfoldable pub number : List ℕ → ℕ
number l = pack (replicate (length l) 8) l

-- the k lowest bytes of a number
unfoldable pub bytes : ℕ → ℕ → List ℕ
bytes k n = unpack (replicate k 8) n
