-- Parts of lists, and lists laid over lists: what lent memory holds after a call.
use Rattle.std.specs.Prelude.{ℕ, ◌+◌, Bool, cond, List, ◌++◌, leb, length, replicate, take, drop}
use Rattle.fields.specs.Numbers.{number, bytes}

-- the n elements from index `from` on
unfoldable pub part : ℕ → ℕ → List ℕ → List ℕ
part from n l = take n (drop from l)

-- l, with p in the place of its elements from index `at` on
unfoldable pub overlay : ℕ → List ℕ → List ℕ → List ℕ
overlay at p l = take at l ++ (p ++ drop (at + length p) l)

-- n elements from index `at` on lie within l
abbrev pub inside : ℕ → ℕ → List ℕ → Bool
inside at n l = leb (at + n) (length l)

-- ---- what the functions of this crate do, for any arguments

-- the number in the n bytes at `at`: 0 for bytes that are not there, or more than eight
unfoldable pub number_at : ℕ → ℕ → List ℕ → ℕ
number_at at n l = cond (inside at n l) (cond (leb n 8) (number (part at n l)) 0) 0

-- the n lowest bytes of v laid at `at`: nothing where they have no room, or are more than eight
unfoldable pub stored_at : ℕ → ℕ → ℕ → List ℕ → List ℕ
stored_at at n v l = cond (inside at n l) (cond (leb n 8) (overlay at (bytes n v) l) l) l

-- the n elements of s at `from` laid at `at`: nothing where they are not there, or have no room
unfoldable pub copied_to : ℕ → ℕ → List ℕ → ℕ → List ℕ → List ℕ
copied_to at n s from l = cond (inside from n s) (cond (inside at n l) (overlay at (part from n s) l) l) l

-- n times the byte b laid at `at`: nothing where they have no room
unfoldable pub filled_at : ℕ → ℕ → ℕ → List ℕ → List ℕ
filled_at at n b l = cond (inside at n l) (overlay at (replicate n b) l) l
