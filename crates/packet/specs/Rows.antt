-- The bench rows of 01 for T2-MI packets: payload_len and the bytes of the whole packet.
use Rattle.std.specs.Prelude.{◌≡◌, ℕ, List, [], ◌∷◌, length, take, replicate}
use Rattle.fields.specs.Numbers.{Bytes}
use Rattle.refusals.specs.Checks.{first}
use Rattle.packet.specs.Layout.{payload_bytes, total_of}
use Rattle.packet.specs.Read.{read_of}
use Rattle.packet.specs.Write.{write_checks, write_of}
use Rattle.packet.specs.declared.Header.{Header}

pub record Row : Type 0 where
  pub bits : ℕ
  pub total : ℕ

abbrev row : ℕ → ℕ → Row
row b t = record { bits = b; total = t }

abbrev pub rows : List Row
rows = row 0 10 ∷ row 1 11 ∷ row 8 11 ∷ row 9 12 ∷ row 65535 8202 ∷ []

-- fields of zeros, but for payload_len
abbrev pub zeros : ℕ → Header
zeros bits = record { kind = 0; count = 0; frame = 0; stream = 0; bits = bits }

-- so many payload bits have so many bytes; a packet of them is written, even where the output has no byte more; and every packet of so
-- many payload bits that no check of 01's list refuses has so many bytes, and is read with its fields
pub record Holds (r : Row) : Type 0 where
  pub counts : total_of r.bits ≡ r.total
  pub one : first (write_checks (zeros r.bits) (replicate (payload_bytes r.bits) 0) r.total) ≡ 0
  pub writes : (h : Header) (payload out : List ℕ) → h.bits ≡ r.bits → first (write_checks h payload (length out)) ≡ 0
      → (write_of h payload out).answer ≡ record { refusal = 0; bytes = r.total }
  pub reads : (h : Header) (payload out : List ℕ) → Bytes payload → h.bits ≡ r.bits → first (write_checks h payload (length out)) ≡ 0
      → read_of (take r.total (write_of h payload out).out) ≡ record { refusal = 0; header = h }

abbrev pub AllHold : List Row → Type 0
AllHold [] = Unit
AllHold (r ∷ rs) = Holds r × AllHold rs
