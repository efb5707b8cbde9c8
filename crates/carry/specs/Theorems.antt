-- What the writer's transport packets are, in words that a reader can hold against 01: the theorems of proofs/Theorems say
-- that they are so.
use Rattle.std.specs.Prelude.{◌≡◌, false, ◌⊎◌, List, [], ◌∷◌, ℕ, ◌+◌, ◌%◌, ◌≤◌, ◌<◌, length}
use Rattle.transport.specs.Header.{sync_of, pid_of, count_of, carried_by}
use Rattle.transport.specs.Tests.{pointer_beyond}
use Rattle.transport.specs.Load.{Load, plain, start, load_bytes}

-- one of 188 bytes, from 0x47, with the PID and the count; no pointer aims past the end
pub record Packet (pid count : ℕ) (t : List ℕ) : Type 0 where
  pub long : length t ≡ 188
  pub sync : sync_of t ≡ 0x47
  pub pid-is : pid_of t ≡ pid
  pub count-is : count_of t ≡ count
  pub aims : pointer_beyond t ≡ false

-- all of them, the counts rising by 1 modulo 16
abbrev pub Packets : ℕ → ℕ → List (List ℕ) → Type 0
Packets pid count [] = Unit
Packets pid count (t ∷ ts) = Packet pid count t × Packets pid ((count + 1) % 16) ts

-- their carried bytes, one after another
abbrev pub stream_of : List (List ℕ) → List (List ℕ)
stream_of [] = []
stream_of (t ∷ ts) = carried_by t ∷ stream_of ts

-- ---- where T2-MI packets begin

-- the places where packets begin, the first of them at `at`
abbrev pub beginnings : ℕ → List (List ℕ) → List ℕ
beginnings at [] = []
beginnings at (p ∷ ps) = at ∷ beginnings (at + length p) ps

abbrev pub Among : ℕ → List ℕ → Type 0
Among b [] = ⊥
Among b (x ∷ xs) = (b ≡ x) ⊎ Among b xs

-- of a load whose bytes begin at a: with no start, no packet begins in it; with a start, one begins where the pointer aims,
-- which is in it, and none between
abbrev pub Right : ℕ → List ℕ → Load → Type 0
Right a bs (plain d) = (b : ℕ) → Among b bs → a ≤ b → b < a + length d → ⊥
Right a bs (start n d) = (n < length d) × Among (a + n) bs × ((b : ℕ) → Among b bs → a ≤ b → a + n ≤ b)

abbrev pub AllRight : ℕ → List ℕ → List Load → Type 0
AllRight a bs [] = Unit
AllRight a bs (l ∷ ls) = Right a bs l × AllRight (a + length (load_bytes l)) bs ls
