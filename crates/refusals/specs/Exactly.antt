-- 01, "Refusal numbers": each refusal is given exactly when its line holds and no earlier check of that operation's list did.
-- Said of any list of checks; proofs/CheckLaws has it of every list whose numbers are not 0 (`given-exactly`).
use Rattle.std.specs.Prelude.{◌≡◌, Bool, true, false, List, [], ◌∷◌, ℕ, zero, suc}
use Rattle.refusals.specs.Checks.{Check, holds, number, first}

-- the line of the check at k, and its number
abbrev pub holds_at : ℕ → List Check → Bool
holds_at k [] = false
holds_at zero (c ∷ l) = holds c
holds_at (suc k) (c ∷ l) = holds_at k l

abbrev pub number_at : ℕ → List Check → ℕ
number_at k [] = 0
number_at zero (c ∷ l) = number c
number_at (suc k) (c ∷ l) = number_at k l

-- none of the first k checks holds
abbrev pub Clear : ℕ → List Check → Type 0
Clear zero l = Unit
Clear (suc k) l = Clear k l × (holds_at k l ≡ false)

-- none of them all
abbrev pub NoneHolds : List Check → Type 0
NoneHolds [] = Unit
NoneHolds (c ∷ l) = (holds c ≡ false) × NoneHolds l

-- the check at k is the one that is told: its line holds, and no earlier one
pub record GivenAt (k : ℕ) (l : List Check) : Type 0 where
  pub earlier : Clear k l
  pub line : holds_at k l ≡ true

pub record Exactly (l : List Check) : Type 0 where
  -- a number that is told is that of such a check
  pub given : (first l ≡ 0 → ⊥) → (k : ℕ) × GivenAt k l × (number_at k l ≡ first l)
  -- and the number of such a check is told
  pub told : (k : ℕ) → GivenAt k l → (first l ≡ number_at k l) × (number_at k l ≡ 0 → ⊥)
  -- where none is told no line holds
  pub none : first l ≡ 0 → NoneHolds l
