-- How many transport packets a batch needs, and what each of them is, goes by the lengths of its packets alone: and the
-- bench rows of 01, of the writer's answer and of the bytes that it wrote.
use Rattle.std.specs.Prelude.{◌≡◌, true, false, cond, ◌&&◌, List, [], ◌∷◌, ◌++◌, map, ℕ, zero, suc, ◌+◌, ◌-◌, ◌*◌, ◌%◌, ◌≤◌, ◌<◌, min, leb, eqb, length, get_or, replicate}
use Rattle.packet.specs.Cut.{AllWhole, joined}
use Rattle.transport.specs.Header.{control_of, starts, pointer_of, carried_by}
use Rattle.transport.specs.Load.{Load, plain, start}
use Rattle.transport.specs.Tests.{pid_outside}
use Rattle.carry.specs.Loads.{follows}
use Rattle.carry.specs.Carry.{Outcome, carry_of, transports_in}

-- a load by its sizes: bytes with no start, or a start with its pointer and bytes
pub data Shape : Type 0 where
  carries : ℕ → Shape
  begins : ℕ → ℕ → Shape

abbrev pub shape_of : Load → Shape
shape_of (plain d) = carries (length d)
shape_of (start n d) = begins n (length d)

-- the bytes of adaptation field that a load leaves
abbrev pub room_of : Shape → ℕ
room_of (carries n) = 184 - n
room_of (begins p n) = 183 - n

abbrev pub sum : List ℕ → ℕ
sum [] = 0
sum (n ∷ ns) = n + sum ns

-- n bytes go from packets of these lengths: what is left of the one that they end in, and the lengths that follow it
pub record Rest : Type 0 where
  pub left : ℕ
  pub next : List ℕ

unfoldable pub rest_of : ℕ → List ℕ → Rest
rest_of n [] = record { left = 0; next = [] }
rest_of n (m ∷ ms) =
    let past = rest_of (n - m) ms in
    let none : Rest = record { left = 0; next = m ∷ ms } in
    let cut : Rest = record { left = m - n; next = ms } in
    cond (leb m n) past (cond (eqb n 0) none cut)

-- 01's four cases over the lengths
unfoldable pub shapes_by : ℕ → ℕ → List ℕ → List Shape
shapes_by zero r ns = []
shapes_by (suc k) r ns =
    let rest = rest_of (183 - r) ns in
    let begin = begins r (min 183 (r + sum ns)) ∷ shapes_by k rest.left rest.next in
    let full = carries 184 ∷ shapes_by k (r - 184) ns in
    let odd = carries 183 ∷ shapes_by k (r - 183) ns in
    let last = carries r ∷ shapes_by k 0 ns in
    cond (follows ns && leb r 182) begin
    (cond (leb 184 r) full
    (cond (eqb r 183 && follows ns) odd
    (cond (eqb r 0) [] last)))

unfoldable pub shapes : List ℕ → List Shape
shapes ns = shapes_by (sum ns) 0 ns

-- ---- what a transport packet shows in its bytes

-- so many bytes of adaptation field: none where adaptation control is 01; with 11, byte 4 says how many follow it
abbrev pub Field : ℕ → List ℕ → Type 0
Field zero t = control_of t ≡ 1
Field (suc n) t = (control_of t ≡ 3) × (get_or t 4 0 ≡ n)

-- the start indicator, the pointer, and how many bytes of T2-MI packets there are
abbrev pub Shows : Shape → List ℕ → Type 0
Shows (carries n) t = (starts t ≡ false) × (length (carried_by t) ≡ n)
Shows (begins p n) t = (starts t ≡ true) × (pointer_of t ≡ p) × (length (carried_by t) ≡ n)

abbrev pub AllShow : List Shape → List (List ℕ) → Type 0
AllShow [] [] = Unit
AllShow [] (t ∷ ts) = ⊥
AllShow (s ∷ ss) [] = ⊥
AllShow (s ∷ ss) (t ∷ ts) = Shows s t × Field (room_of s) t × AllShow ss ts

-- ---- the rows

pub record Row : Type 0 where
  pub lengths : List ℕ
  pub shapes : List Shape
  pub rooms : List ℕ

abbrev pub rows : List Row
rows =
    -- one 10-byte packet: one transport packet, adaptation field of 173 bytes
    record { lengths = 10 ∷ []; shapes = begins 0 10 ∷ []; rooms = 173 ∷ [] }
    -- 365 + 10: pointer 182 in the second, three packets
    ∷ record { lengths = 365 ∷ 10 ∷ []; shapes = begins 0 183 ∷ begins 182 183 ∷ carries 9 ∷ []; rooms = 0 ∷ 0 ∷ 175 ∷ [] }
    -- 366 + 10: the second has a one-byte adaptation field, three packets
    ∷ record { lengths = 366 ∷ 10 ∷ []; shapes = begins 0 183 ∷ carries 183 ∷ begins 0 10 ∷ []; rooms = 0 ∷ 1 ∷ 173 ∷ [] }
    -- 8,202 alone: 45 packets
    ∷ record { lengths = 8202 ∷ []; shapes = begins 0 183 ∷ (replicate 43 (carries 184) ++ (carries 107 ∷ [])); rooms = replicate 44 0 ++ (77 ∷ []) }
    -- eighteen 10-byte packets: one; nineteen: two
    ∷ record { lengths = replicate 18 10; shapes = begins 0 180 ∷ []; rooms = 3 ∷ [] }
    ∷ record { lengths = replicate 19 10; shapes = begins 0 183 ∷ carries 7 ∷ []; rooms = 0 ∷ 177 ∷ [] }
    ∷ []

-- what the writer answers, and the transport packets that it wrote
pub record Wrote (first_count : ℕ) (ss : List Shape) (o : Outcome) : Type 0 where
  pub answer : o.answer ≡ record { refusal = 0; packets = length ss; next_count = (first_count + length ss) % 16 }
  pub bytes : AllShow ss (transports_in (length ss) o.out)

-- for every batch of good packets with those lengths, on every PID and from every count that is not refused, into every output with room
-- for the exact result
pub record Holds (row : Row) : Type 0 where
  pub carried : (ps : List (List ℕ)) → AllWhole ps → map length ps ≡ row.lengths
      → (pid first_count : ℕ) → pid_outside pid ≡ false → first_count < 16
      → (out : List ℕ) → 188 * length row.shapes ≤ length out
      → Wrote first_count row.shapes (carry_of pid first_count (joined ps) out)
  pub fields : map room_of row.shapes ≡ row.rooms

abbrev pub AllHold : List Row → Type 0
AllHold [] = Unit
AllHold (r ∷ rs) = Holds r × AllHold rs
