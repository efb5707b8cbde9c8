-- How bytes are cut into transport packets: 188 bytes each, and a cut last piece is set aside (01, "Listing program").
use Rattle.std.specs.Prelude.{ℕ, zero, suc, ◌-◌, ◌*◌, ◌/◌, cond, List, [], ◌∷◌, ltb, length, take, drop}
use Rattle.fields.specs.Parts.{part}
use Rattle.text.specs.Laid.{Filled, laid}

-- the first k pieces
unfoldable pub pieces_by : ℕ → List ℕ → List (List ℕ)
pieces_by zero d = []
pieces_by (suc k) d = take 188 d ∷ pieces_by k (drop 188 d)

-- all whole pieces, in their order
unfoldable pub pieces : List ℕ → List (List ℕ)
pieces d = pieces_by (length d / 188) d

-- the cut piece behind them, or nothing
unfoldable pub leftover : List ℕ → List ℕ
leftover d = drop (188 * (length d / 188)) d

-- the bytes from `at` on, of the first `have`, moved to the block's front: how many, and the block; nothing where it is
-- shorter
unfoldable pub kept_of : ℕ → ℕ → List ℕ → Filled
kept_of at have block = cond (ltb (length block) have) (record { at = 0; lines = block }) (laid (part at (have - at) block) 0 block)
