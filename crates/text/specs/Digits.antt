-- Numbers as decimal text, in ASCII: no leading zero, and a sign before a negative number alone.
use Rattle.std.specs.Prelude.{ℕ, zero, suc, ◌+◌, ◌-◌, ◌*◌, ◌/◌, ◌%◌, ◌≤◌, ◌<◌, cond, List, [], ◌∷◌, ◌++◌, eqb, ℤ, pos, negsuc, length, get_or}

-- a digit's code: 0 is 48
abbrev pub digit : ℕ → ℕ
digit d = 48 + d

-- the digits of a number over 0, and of 0 none; at most k of them
unfoldable pub spell_by : ℕ → ℕ → List ℕ
spell_by zero n = []
spell_by (suc k) zero = []
spell_by (suc k) (suc n) = spell_by k (suc n / 10) ++ (digit (suc n % 10) ∷ [])

-- no number has more digits than it counts
unfoldable pub spell : ℕ → List ℕ
spell n = spell_by n n

-- the decimal digits of a number, most significant first
unfoldable pub digits : ℕ → List ℕ
digits n = cond (eqb n 0) (digit 0 ∷ []) (spell n)

-- "-"
abbrev pub minus : ℕ
minus = 45

-- a number that may be negative: a minus sign, and the digits of its magnitude (`negsuc k` is one less than the negative of k)
unfoldable pub signed : ℤ → List ℕ
signed (pos n) = digits n
signed (negsuc k) = minus ∷ digits (suc k)

-- ---- what the theorems of digits say

-- the number that a reader of decimal text reads
unfoldable pub value_from : ℕ → List ℕ → ℕ
value_from n [] = n
value_from n (d ∷ ds) = value_from (n * 10 + (d - 48)) ds

unfoldable pub value : List ℕ → ℕ
value ds = value_from 0 ds

abbrev pub AllDigits : List ℕ → Type 0
AllDigits [] = Unit
AllDigits (d ∷ l) = (48 ≤ d) × (d ≤ 57) × AllDigits l

-- decimal text: digits alone, at least one, and no zero in front of others
pub record Decimal (l : List ℕ) : Type 0 where
  pub some : 0 < length l
  pub each : AllDigits l
  pub lead : 1 < length l → 48 < get_or l 0 0
