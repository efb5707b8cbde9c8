-- A format is the list of its fields' widths in bits, as the standards' tables print it: first field first, and each
-- with its most significant bit first. All the fields of a format together are one number.
use Rattle.std.specs.Prelude.{ℕ, ◌+◌, ◌*◌, ◌/◌, ◌%◌, ◌^◌, ◌<◌, Bool, true, false, cond, List, [], ◌∷◌, ltb}

-- how many bits the fields take together
abbrev pub span : List ℕ → ℕ
span [] = 0
span (w ∷ ws) = w + span ws

-- the fields as one number
unfoldable pub pack : List ℕ → List ℕ → ℕ
pack [] fs = 0
pack (w ∷ ws) [] = 0
pack (w ∷ ws) (f ∷ fs) = f * 2 ^ span ws + pack ws fs

-- the fields of a number
unfoldable pub unpack : List ℕ → ℕ → List ℕ
unpack [] n = []
unpack (w ∷ ws) n = n / 2 ^ span ws % 2 ^ w ∷ unpack ws n

-- there is one value for each width, and it has no more bits
abbrev pub Fit : List ℕ → List ℕ → Type 0
Fit [] [] = Unit
Fit [] (f ∷ fs) = ⊥
Fit (w ∷ ws) [] = ⊥
Fit (w ∷ ws) (f ∷ fs) = (f < 2 ^ w) × Fit ws fs

-- a value is too wide for its bits (01, refusal 38)
unfoldable pub too_wide : List ℕ → List ℕ → Bool
too_wide [] fs = false
too_wide (w ∷ ws) [] = false
too_wide (w ∷ ws) (f ∷ fs) = cond (ltb f (2 ^ w)) (too_wide ws fs) true
