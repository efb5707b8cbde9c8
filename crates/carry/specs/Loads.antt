-- Which bytes each transport packet carries: 01's four cases, over the bytes left of the packet under way and the packets
-- that follow.
use Rattle.std.specs.Prelude.{ℕ, zero, suc, ◌-◌, Bool, true, false, cond, ◌&&◌, List, [], ◌∷◌, ◌++◌, leb, eqb, length, take, drop}
use Rattle.packet.specs.Cut.{joined}
use Rattle.transport.specs.Load.{Load, plain, start}

-- n bytes go from packets: what is left of the one that they end in (nothing where they end with a packet), and the
-- packets that follow it
pub record Gone : Type 0 where
  pub left : List ℕ
  pub next : List (List ℕ)

unfoldable pub gone_of : ℕ → List (List ℕ) → Gone
gone_of n [] = record { left = []; next = [] }
gone_of n (p ∷ ps) =
    let past = gone_of (n - length p) ps in
    let none : Gone = record { left = []; next = p ∷ ps } in
    let cut : Gone = record { left = drop n p; next = ps } in
    cond (leb (length p) n) past (cond (eqb n 0) none cut)

abbrev pub follows : {A : Type 0} → List A → Bool
follows [] = false
follows (p ∷ ps) = true

-- r is left of the packet under way (nothing if none is), and ps follow in the batch; k bounds the transport packets
unfoldable pub loads_by : ℕ → List ℕ → List (List ℕ) → List Load
loads_by zero r ps = []
loads_by (suc k) r ps =
    let n = length r in
    let gone = gone_of (183 - n) ps in
    -- r at most 182 and another packet follows: start, pointer r, the next 183 bytes or all that remain
    let begin = start n (take 183 (r ++ joined ps)) ∷ loads_by k gone.left gone.next in
    -- r of 184 or more: 184 bytes
    let full = plain (take 184 r) ∷ loads_by k (drop 184 r) ps in
    -- r of 183 and another follows: 183 bytes, which leave one byte of adaptation field
    let odd = plain (take 183 r) ∷ loads_by k (drop 183 r) ps in
    -- otherwise r bytes
    let last = plain r ∷ loads_by k [] ps in
    cond (follows ps && leb n 182) begin
    (cond (leb 184 n) full
    (cond (eqb n 183 && follows ps) odd
    (cond (eqb n 0) [] last)))

-- each transport packet carries a byte at least
unfoldable pub loads_of : List (List ℕ) → List Load
loads_of ps = loads_by (length (joined ps)) [] ps
