-- A transport packet of the writer's: its header, an adaptation field for the room that is left, and what it carries.
use Rattle.std.specs.Prelude.{ℕ, zero, suc, ◌-◌, List, [], ◌∷◌, ◌++◌, length, replicate}
use Rattle.fields.specs.Formats.{pack}
use Rattle.fields.specs.Numbers.{bytes}
use Rattle.transport.specs.Header.{header}

-- what a transport packet carries: bytes with no start, or a start with its pointer and bytes
pub data Load : Type 0 where
  plain : List ℕ → Load
  start : ℕ → List ℕ → Load

-- the bytes of T2-MI packets in it
abbrev pub load_bytes : Load → List ℕ
load_bytes (plain d) = d
load_bytes (start n d) = d

-- an adaptation field of so many bytes: one is 0x00 alone; a of them are a − 1, 0x00, then a − 2 times 0xFF
abbrev pub adaptation : ℕ → List ℕ
adaptation zero = []
adaptation (suc zero) = 0x00 ∷ []
adaptation (suc (suc n)) = suc n ∷ 0x00 ∷ replicate n 0xFF

-- adaptation control: 01 is payload alone, 11 a field and payload
abbrev pub control_for : ℕ → ℕ
control_for zero = 1
control_for (suc n) = 3

-- 0x47, no error mark, start or not, priority 0, the PID, not scrambled, the count; then the field
unfoldable pub head_bytes : ℕ → ℕ → ℕ → ℕ → List ℕ
head_bytes pid begins count room =
    bytes 4 (pack header (0x47 ∷ 0 ∷ begins ∷ 0 ∷ pid ∷ 0 ∷ control_for room ∷ count ∷ [])) ++ adaptation room

-- 188 bytes: the room that the load leaves is adaptation field
unfoldable pub transport_of : ℕ → ℕ → Load → List ℕ
transport_of pid count (plain d) = head_bytes pid 0 count (184 - length d) ++ d
transport_of pid count (start n d) = head_bytes pid 1 count (183 - length d) ++ (n ∷ d)
