-- The bench rows of 01 for functions: the two bytes of a time offset, and the number that they stand for.
use Rattle.std.specs.Prelude.{◌≡◌, List, [], ◌∷◌, ℕ, ◌≤◌, ℤ, pos, neg_ℤ, length}
use Rattle.fields.specs.Parts.{overlay}
use Rattle.functions.specs.Read.{function_read}
use Rattle.functions.specs.Write.{write_of}
use Rattle.functions.specs.declared.Function.TheVariants.{TimeOffset}

pub record Row : Type 0 where
  pub body : List ℕ
  pub offset : ℤ

abbrev row : ℕ → ℕ → ℤ → Row
row high low z = record { body = high ∷ low ∷ []; offset = z }

abbrev minus : ℕ → ℤ
minus n = neg_ℤ (pos n)

abbrev pub rows : List Row
rows = row 0x80 0x00 (minus 32768) ∷ row 0xFF 0xFF (minus 1) ∷ []

-- under tag 0 the bytes are read as the offset, and the offset is written as the bytes
pub record Holds (r : Row) : Type 0 where
  pub reads : function_read 0 r.body ≡ record { refusal = 0; function = TimeOffset r.offset }
  pub writes : (carried out : List ℕ) → 2 ≤ length out
      → write_of (TimeOffset r.offset) carried out ≡ record { answer = record { refusal = 0; bytes = 2 }; out = overlay 0 r.body out }

abbrev pub AllHold : List Row → Type 0
AllHold [] = Unit
AllHold (r ∷ rs) = Holds r × AllHold rs
