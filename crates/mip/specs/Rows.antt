-- The bench rows of 01 for site timing.
use Rattle.std.specs.Prelude.{ℕ, ◌≡◌, List, [], ◌∷◌, ℤ, pos, negsuc}
use Rattle.mip.specs.Timing.{steps, time, emission_of, extra_of}

pub data Row : Type 0 where
  emission : ℕ → ℕ → ℤ → ℕ → Row  -- stamp, maximum delay, offset; emission time
  extra_delay : ℕ → ℕ → ℤ → ℕ → ℕ → Row  -- stamp, maximum delay, offset, reception time; extra delay

-- `negsuc 0` is −1
abbrev pub rows : List Row
rows =
    emission 9999999 1 (pos 0) 0
    ∷ emission 0 0 (negsuc 0) 9999999
    ∷ extra_delay 0 0 (pos 0) 5 9999995
    ∷ []

-- the operation is not refused, and gives this time
abbrev pub Holds : Row → Type 0
Holds (emission stamp delay offset emitted) = emission_of (steps stamp) (steps delay) offset ≡ time 0 (steps emitted)
Holds (extra_delay stamp delay offset reception held) = extra_of (steps stamp) (steps delay) offset (steps reception) ≡ time 0 (steps held)

abbrev pub AllHold : List Row → Type 0
AllHold [] = Unit
AllHold (r ∷ rs) = Holds r × AllHold rs
