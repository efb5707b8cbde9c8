-- What the private functions that build a transport packet do: an adaptation field over bytes that are 0xFF already.
use Rattle.std.specs.Prelude.{◌≡◌, ℕ, zero, suc, ◌+◌, ◌%◌, ◌≤◌, List, [], ◌∷◌, length, replicate}
use Rattle.fields.specs.Parts.{overlay}
use Rattle.packet.specs.Cut.{joined}
use Rattle.transport.specs.Load.{Load, plain, start}
use Rattle.carry.specs.Carry.{numbered}
use Rattle.carry.specs.declared.Sent.{Sent}

-- a packet before anything is laid
abbrev pub blank : List ℕ
blank = replicate 188 0xFF

-- the bytes of an adaptation field that are not 0xFF
abbrev pub field_head : ℕ → List ℕ
field_head zero = []
field_head (suc zero) = 0x00 ∷ []
field_head (suc (suc n)) = suc n ∷ 0x00 ∷ []

-- a load that a transport packet holds: a byte at least, and with its pointer 184 at most
abbrev pub Held : Load → Type 0
Held (plain d) = (1 ≤ length d) × (length d ≤ 184)
Held (start n d) = length d ≤ 183

-- the loads were laid, counts from the first on: so many, and the count to go on with
pub record Laid (pid first_count : ℕ) (ls : List Load) (out : List ℕ) (d : Sent) (after : List ℕ) : Type 0 where
  pub packets : d.packets ≡ length ls
  pub next : d.next_count ≡ (first_count + length ls) % 16
  pub bytes : after ≡ overlay 0 (joined (numbered pid first_count ls)) out
