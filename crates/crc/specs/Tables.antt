-- What code must find in tables if four bits are to be looked up there, and not fed one by one. Only private functions cite
-- this file: whoever uses the crate need not read it.
use Rattle.std.specs.Prelude.{ℕ, ◌+◌, ◌*◌, ◌^◌, ◌≤◌, ◌<◌, ◌≡◌, List, length, get_or}
use Rattle.crc.specs.Crc.{feed}

-- k zero bits go in
abbrev pub zeros : ℕ → ℕ → ℕ
zeros k register = feed k register 0

-- n tables of 16 entries, one behind the other. Table j serves a digit of four bits that has j digits behind it: for digit k
-- it holds what j + 1 zero digits leave of a register with k in its top four stages and nothing below
pub record Tables (n : ℕ) (t : List ℕ) : Type 0 where
  pub long : 16 * n ≤ length t
  pub entry : (j k : ℕ) → j < n → k < 16 → get_or t (16 * j + k) 0 ≡ zeros (4 * (j + 1)) (k * 2 ^ 28)
