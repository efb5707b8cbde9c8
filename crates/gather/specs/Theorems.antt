-- What the theorems of the reader say, in words that can be held against 01: proofs/StateLaws, HandedLaws and ReadingLaws
-- prove them of specs/Rules and specs/Gather.
use Rattle.std.specs.Prelude.{◌≡◌, true, false, List, [], ◌∷◌, ◌++◌, ◌≤◌, ◌<◌, ℕ, length, take}
use Rattle.crc.specs.Crc.{crc_holds}
use Rattle.packet.specs.Layout.{size_of}
use Rattle.packet.specs.Cut.{joined}
use Rattle.gather.specs.Rules.{Hand}

-- what waits is the start of a packet that is not finished, and nothing waits out of step
pub record InOrder (h : Hand) : Type 0 where
  pub short : length h.waiting < size_of h.waiting
  pub idle : h.step ≡ false → h.waiting ≡ []

-- of w, which waited, and d behind it nothing is handed out, or the one packet that they begin with, if its CRC holds
pub data Front (w d : List ℕ) : List (List ℕ) → Type 0 where
  nothing : Front w d []
  finished-one : size_of (w ++ d) ≤ length (w ++ d) → crc_holds (take (size_of (w ++ d)) (w ++ d)) ≡ true → Front w d (take (size_of (w ++ d)) (w ++ d) ∷ [])

-- w waited, d came before the start and l from it on: at most one packet is of w and d, and the others lie back to back at
-- the front of l
pub record HandedOut (w d l : List ℕ) (ps : List (List ℕ)) : Type 0 where
  pub one : List (List ℕ)
  pub others : List (List ℕ)
  pub rest : List ℕ
  pub is : ps ≡ one ++ others
  pub joins : Front w d one
  pub follow : joined others ++ rest ≡ l
