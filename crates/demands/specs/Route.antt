-- What a link may do to the writer's transport packets, and what a reader is then due: which T2-MI packets, and on which
-- calls the loss mark. The writer's transport packets are numbered from 0, across all batches.
use Rattle.std.specs.Prelude.{◌≡◌, ◌⊎◌, Bool, true, false, cond, not, ◌&&◌, ◌||◌, List, [], ◌∷◌, ℕ, suc, ◌+◌, ◌≤◌, ◌<◌, min, max, eqb, ltb, length, get_or}
use Rattle.transport.specs.Header.{carried_by}
use Rattle.transport.specs.Tests.{error_marked, another_pid}

-- ---- the link

-- what a reader is handed: the writer's transport packet with this number, that packet once more, or another one
pub data Item : Type 0 where
  writers : ℕ → Item
  again : ℕ → Item
  other : List ℕ → Item

-- the last of the writer's to arrive
pub data Latest : Type 0 where
  nothing : Latest
  number : ℕ → Latest

-- marked as errored, or of another PID
abbrev pub Foreign : ℕ → List ℕ → Type 0
Foreign pid t = (error_marked t ≡ true) ⊎ (another_pid pid t ≡ true)

-- as many may be lost in a row. With 15 the next one looks like a repeat, and with 16 nothing is seen
abbrev pub longest_run : ℕ
longest_run = 14

-- of n transport packets, after the latest. At the start any number may be lost, then at most a run of 14 before each that
-- arrives, and at the end any number again; a packet comes again directly, and others stand anywhere
abbrev pub Route : ℕ → ℕ → Latest → List Item → Type 0
Route pid n l [] = Unit
Route pid n nothing (writers k ∷ is) = (k < n) × Route pid n (number k) is
Route pid n (number j) (writers k ∷ is) = (j < k) × (k ≤ suc j + longest_run) × (k < n) × Route pid n (number k) is
Route pid n nothing (again k ∷ is) = ⊥
Route pid n (number j) (again k ∷ is) = (k ≡ j) × Route pid n (number j) is
Route pid n l (other t ∷ is) = Foreign pid t × Route pid n l is

-- the bytes that the reader is handed, of the writer's transport packets ts
abbrev pub input_of : List (List ℕ) → Item → List ℕ
input_of ts (writers k) = get_or ts k []
input_of ts (again k) = get_or ts k []
input_of ts (other t) = t

abbrev pub inputs : List (List ℕ) → List Item → List (List ℕ)
inputs ts [] = []
inputs ts (i ∷ is) = input_of ts i ∷ inputs ts is

-- ---- the packets that are due

-- the writer's packet k arrives
abbrev pub arrives : List Item → ℕ → Bool
arrives [] k = false
arrives (writers j ∷ is) k = eqb j k || arrives is k
arrives (again j ∷ is) k = arrives is k
arrives (other t ∷ is) k = arrives is k

-- a T2-MI packet's carriers are the transport packets that hold one of its bytes. The packet takes the places from a up to b
-- of all carried bytes; ts are the transport packets from number k on, and carry the bytes from place c on
abbrev pub carriers : ℕ → ℕ → ℕ → ℕ → List (List ℕ) → List ℕ
carriers a b c k [] = []
carriers a b c k (t ∷ ts) =
    let to = c + length (carried_by t) in
    let rest = carriers a b to (suc k) ts in
    cond (ltb (max a c) (min b to)) (k ∷ rest) rest

abbrev pub each : (ℕ → Bool) → List ℕ → Bool
each f [] = true
each f (k ∷ ks) = f k && each f ks

abbrev pub keep : Bool → List ℕ → List (List ℕ) → List (List ℕ)
keep due p ps = cond due (p ∷ ps) ps

-- of the packets ps, which lie one after another from place a on, those whose every carrier came
abbrev pub due : (ℕ → Bool) → List (List ℕ) → ℕ → List (List ℕ) → List (List ℕ)
due came ts a [] = []
due came ts a (p ∷ ps) = keep (each came (carriers a (a + length p) 0 0 ts)) p (due came ts (a + length p) ps)

-- ---- the loss marks that are due

-- on a writer's packet that does not follow the last one to arrive, if there was one
abbrev pub gap_before : Latest → ℕ → Bool
gap_before nothing k = false
gap_before (number j) k = not (eqb k (suc j))

-- one for each call
abbrev pub loss_marks : Latest → List Item → List Bool
loss_marks l [] = []
loss_marks l (writers k ∷ is) = gap_before l k ∷ loss_marks (number k) is
loss_marks l (again k ∷ is) = false ∷ loss_marks l is
loss_marks l (other t ∷ is) = false ∷ loss_marks l is
