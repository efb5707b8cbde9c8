-- A list of checks in 01's order: `18 when too_short s ∷ 19 when length_unlike s ∷ []`. A refusal is given exactly when its
-- line holds and no earlier check of the list did.
use Rattle.std.specs.Prelude.{ℕ, Bool, cond, not, List, [], ◌∷◌, eqb}

infix 70 ◌when◌
-- a refusal's number, and whether its line holds; or what another operation's own checks found: a number, or 0
pub data Check : Type 0 where
  ◌when◌ : ℕ → Bool → Check
  found : ℕ → Check

abbrev pub holds : Check → Bool
holds (n when b) = b
holds (found n) = not (eqb n 0)

abbrev pub number : Check → ℕ
number (n when b) = n
number (found n) = n

-- the number of the first check that holds, and 0 where none does
abbrev pub first : List Check → ℕ
first [] = 0
first (c ∷ checks) = cond (holds c) (number c) (first checks)
