-- The kinds of functions: the tag and the body of each (01, the table; 000, tables 7 to 13).
use Rattle.std.specs.Prelude.{ℕ, Bool, true, false, cond, not, List, [], ◌∷◌, eqb, get_or}
use Rattle.fields.specs.Formats.{pack, unpack}
use Rattle.fields.specs.Numbers.{number, bytes}
use Rattle.fields.specs.Signed.{signed, unsigned}
use Rattle.functions.specs.Tags.{cell, bandwidth}
use Rattle.functions.specs.declared.Function.{Function}
use Rattle.functions.specs.declared.Function.TheVariants.{TimeOffset, FrequencyOffset, Power, Private, Cell, Enable, Bandwidth, Passed}

-- 01's number of each kind
abbrev pub tag_of : Function → ℕ
tag_of (TimeOffset t) = 0
tag_of (FrequencyOffset f) = 1
tag_of (Power p) = 2
tag_of Private = 3
tag_of (Cell id wait reserved) = 4
tag_of Enable = 5
tag_of (Bandwidth value wait) = 6
tag_of (Passed tag) = tag

-- ---- a body to its fields

-- field i of a format in a body
abbrev pub field : List ℕ → ℕ → List ℕ → ℕ
field widths i body = get_or (unpack widths (number body)) i 0

-- a flag from its bit, and the bit of a flag
abbrev pub is_set : ℕ → Bool
is_set n = not (eqb n 0)

abbrev pub bit : Bool → ℕ
bit flag = cond flag 1 0

-- what a body of the right length says, one for each tag from 0 on
abbrev pub known : List ℕ → List Function
known body =
    TimeOffset (signed 16 (number body))
    ∷ FrequencyOffset (signed 24 (number body))
    ∷ Power (number body)
    ∷ Private
    ∷ Cell (field cell 0 body) (is_set (field cell 1 body)) (field cell 2 body)
    ∷ Enable
    ∷ Bandwidth (field bandwidth 0 body) (is_set (field bandwidth 1 body))
    ∷ []

-- every other tag is passed through
unfoldable pub function_of : ℕ → List ℕ → Function
function_of tag body = get_or (known body) tag (Passed tag)

-- ---- the fields to a body

abbrev pub cell_fields : ℕ → Bool → ℕ → List ℕ
cell_fields id wait reserved = id ∷ bit wait ∷ reserved ∷ []

abbrev pub bandwidth_fields : ℕ → Bool → List ℕ
bandwidth_fields value wait = value ∷ bit wait ∷ []

-- the kinds that hold no fields carry their body
abbrev pub carries : Function → Bool
carries (TimeOffset t) = false
carries (FrequencyOffset f) = false
carries (Power p) = false
carries Private = true
carries (Cell id wait reserved) = false
carries Enable = true
carries (Bandwidth value wait) = false
carries (Passed tag) = true

-- the body of each kind: the kinds with fields don't look at what is carried
unfoldable pub body_of : Function → List ℕ → List ℕ
body_of (TimeOffset t) carried = bytes 2 (unsigned 16 t)
body_of (FrequencyOffset f) carried = bytes 3 (unsigned 24 f)
body_of (Power p) carried = bytes 2 p
body_of Private carried = carried
body_of (Cell id wait reserved) carried = bytes 3 (pack cell (cell_fields id wait reserved))
body_of Enable carried = carried
body_of (Bandwidth value wait) carried = bytes 1 (pack bandwidth (bandwidth_fields value wait))
body_of (Passed tag) carried = carried
