-- What the writer's transport packets carry, as a relation: a reader's part can be proved of it without the writer's
-- recursion, and two batches one after the other are one flow.
-- Assumes nothing.
use mathlib.Core.List.{List, [], ◌∷◌, ◌++◌, append_assoc}
use Prim.Native.Nat.{ℕ, ◌≤◌, ◌<◌}
use native.Mathlib.Omega.{arith}
use lib.ListN.{length, length-append}
use Rattle.packet.specs.Cut.{Whole, AllWhole, joined}
use Rattle.transport.specs.Load.{Load, plain, start}

-- the packet under way: u of it went, r is left
pub data Way : List ℕ → List ℕ → Type 0 where
  none : Way [] []
  under : {u r : List ℕ} → 0 < length u → 0 < length r → Whole (u ++ r) → Way u r

-- with u gone of the packet under way, r left of it and ps to follow, the loads carry all that is left: the packet goes
-- on, or it ends, or a start has whole packets behind r, the last of them cut or not
pub data Flow : List ℕ → List ℕ → List (List ℕ) → List Load → Type 0 where
  done : Flow [] [] [] []
  on : (u d r : List ℕ) (ps : List (List ℕ)) (ls : List Load) → 0 < length u → 0 < length d → length d ≤ 184 → 0 < length r → Whole (u ++ (d ++ r))
      → Flow (u ++ d) r ps ls → Flow u (d ++ r) ps (plain d ∷ ls)
  end : (u d : List ℕ) (ps : List (List ℕ)) (ls : List Load) → 0 < length u → 0 < length d → length d ≤ 184 → Whole (u ++ d)
      → Flow [] [] ps ls → Flow u d ps (plain d ∷ ls)
  even : (u r : List ℕ) (qs ps : List (List ℕ)) (ls : List Load) → Way u r → 0 < length (joined qs) → length (r ++ joined qs) ≤ 183 → AllWhole qs
      → Flow [] [] ps ls → Flow u r (qs ++ ps) (start (length r) (r ++ joined qs) ∷ ls)
  split : (u r : List ℕ) (qs : List (List ℕ)) (v s : List ℕ) (ps : List (List ℕ)) (ls : List Load) → Way u r → 0 < length v → 0 < length s
      → length (r ++ (joined qs ++ v)) ≤ 183 → AllWhole qs → Whole (v ++ s)
      → Flow v s ps ls → Flow u r (qs ++ ((v ++ s) ∷ ps)) (start (length r) (r ++ (joined qs ++ v)) ∷ ls)

pub flow-way : {u r : List ℕ} {ps : List (List ℕ)} {ls : List Load} → Flow u r ps ls → Way u r
flow-way done = none
flow-way (on u d r ps ls a b l c f w) = under {u = u} {r = d ++ r} a (simp length-append (omega arith)) f
flow-way (end u d ps ls a b l f w) = under a b f
flow-way (even u r qs ps ls w a l fs x) = w
flow-way (split u r qs v s ps ls w a b l fs f x) = w

-- one after the other
pub flow-append : {u r : List ℕ} {ps more : List (List ℕ)} {ls ms : List Load} → Flow u r ps ls → Flow [] [] more ms → Flow u r (ps ++ more) (ls ++ ms)
flow-append done g = g
flow-append {more = k} {ms = m} (on u d r ps ls a b l c f w) g = on u d r (ps ++ k) (ls ++ m) a b l c f (flow-append w g)
flow-append {more = k} {ms = m} (end u d ps ls a b l f w) g = end u d (ps ++ k) (ls ++ m) a b l f (flow-append w g)
flow-append {more = k} {ms = m} (even u r qs ps ls w a l fs x) g = rw (append_assoc qs ps k) (even u r qs (ps ++ k) (ls ++ m) w a l fs (flow-append x g))
flow-append {more = k} {ms = m} (split u r qs v s ps ls w a b l fs f x) g =
    rw (append_assoc qs ((v ++ s) ∷ ps) k) (split u r qs v s (ps ++ k) (ls ++ m) w a b l fs f (flow-append x g))
