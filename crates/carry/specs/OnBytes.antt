-- The same loads, as a program goes over the batch's bytes: at each place it knows how many bytes are left of the packet
-- under way. Contracts of private functions cite this; the writer's own contract does not.
use Rattle.std.specs.Prelude.{ℕ, zero, suc, ◌-◌, min, Bool, true, false, cond, ◌&&◌, List, [], ◌∷◌, leb, ltb, eqb, length, take, drop, Option, Some, None}
use Rattle.packet.specs.Layout.{size_of}
use Rattle.transport.specs.Load.{Load, plain, start}
use Rattle.carry.specs.Loads.{follows}
use Rattle.carry.specs.declared.Piece.{Piece}
use Rattle.carry.specs.declared.Pieces.{Pieces}

-- n bytes of l go, packet after packet by their own lengths: how many are left of the one that they end in
unfoldable pub left_by : ℕ → ℕ → List ℕ → ℕ
left_by zero n l = 0
left_by (suc k) n l =
    let size = size_of l in
    let past = left_by k (n - size) (drop size l) in
    cond (leb n size) (cond (eqb n 0) 0 (size - n)) past

unfoldable pub left_of : ℕ → List ℕ → ℕ
left_of n l = left_by n n l

-- a transport packet: whether it has a start, how many bytes it carries, and how many are then left of the packet under way
pub record Plan : Type 0 where
  pub starts : Bool
  pub bytes : ℕ
  pub left : ℕ

-- the next transport packet where l is what is left of the batch and r bytes of it belong to the packet under way:
-- whether it has a start, how many bytes it carries, and how many are then left of the packet under way
unfoldable pub plan_of : ℕ → List ℕ → Plan
plan_of r l =
    cond (ltb r (length l) && leb r 182)
    (record { starts = true; bytes = min 183 (length l); left = left_of (min 183 (length l) - r) (drop r l) })
    (record { starts = false; bytes = min (min 184 r) (length l); left = r - 184 })

abbrev pub load_for : Plan → ℕ → List ℕ → Load
load_for plan r l = cond plan.starts (start r (take plan.bytes l)) (plain (take plan.bytes l))

unfoldable pub bytes_by : ℕ → ℕ → List ℕ → List Load
bytes_by zero r l = []
bytes_by (suc k) r l =
    let plan = plan_of r l in
    let on = load_for plan r l ∷ bytes_by k plan.left (drop plan.bytes l) in
    cond (follows l) on []

unfoldable pub loads_from : ℕ → List ℕ → List Load
loads_from r l = bytes_by (length l) r l

-- ---- as the program hands them out

abbrev pub load_with : Option ℕ → List ℕ → Load
load_with None d = plain d
load_with (Some n) d = start n d

-- the load that a piece is
abbrev pub load_in : Piece → Load
load_in p = load_with p.pointer p.bytes.now

-- the loads that pieces still give
abbrev pub coming : Pieces → List Load
coming s = loads_from s.under_way s.rest.now
