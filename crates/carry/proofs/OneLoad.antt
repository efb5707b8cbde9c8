-- A load more takes some bytes of those that are left. docs/PORT.md names the law; no proof cites it.
-- Assumes nothing.
use mathlib.Core.Path.{◌≡◌}
use mathlib.Core.List.{List, ◌∷◌}
use Prim.Native.Nat.{ℕ, ◌+◌, ◌≤◌, ◌<◌}
use native.Mathlib.Omega.{arith}
use lib.ListN.{length, drop, length-drop}
use lib.Seq.{drop-drop}
use Rattle.carry.specs.OnBytes.{Plan, plan_of, load_for, loads_from}
use Rattle.carry.proofs.ByteLaws.{plan-carries, from_more}

pub load_one : (batch : List ℕ) (at r : ℕ) → at < length batch → (p : Plan) → p ≡ plan_of r (drop at batch)
    → (0 < p.bytes) × (at + p.bytes ≤ length batch) × (loads_from r (drop at batch) ≡ load_for p r (drop at batch) ∷ loads_from p.left (drop (at + p.bytes) batch))
load_one batch at r h p e =
    let some : 0 < length (drop at batch) = simp length-drop (omega arith) in
    let k = plan-carries r (drop at batch) some in
    let d = length-drop at batch in
    (rw e k.some, rw e (omega (arith, k.most)), rw (e, ← drop-drop (plan_of r (drop at batch)).bytes at batch) (from_more r (drop at batch) some))
