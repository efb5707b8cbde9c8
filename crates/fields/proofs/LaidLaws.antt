-- What is laid behind what was laid: the calls of a function that writes its result piece by piece to the front of an output.
-- Assumes nothing.
use mathlib.Core.Path.{◌≡◌, ap, ◌∙◌}
use mathlib.Core.List.{List, ◌++◌}
use Prim.Native.Nat.{ℕ, ◌+◌, ◌≤◌}
use native.Mathlib.Omega.{arith}
use lib.ListN.{length, replicate}
use Rattle.fields.proofs.PartLaws.{part-whole, length-overlay, overlay-next, stored-at, copied-to, filled_at_lem}
use Rattle.fields.specs.Numbers.{bytes}
use Rattle.fields.specs.Parts.{overlay, stored_at, copied_to, filled_at}

module _ (p out : List ℕ) (at : ℕ) (e : length p ≡ at) where
  -- a number
  pub stored_next : (k v : ℕ) → at + k ≤ length out → k ≤ 8 → stored_at at k v (overlay 0 p out) ≡ overlay 0 (p ++ bytes k v) out
  stored_next k v h s =
      let long : length (overlay 0 p out) ≡ length out = length-overlay 0 p out (omega arith) in
      stored-at at k v (overlay 0 p out) (omega arith) s ∙ overlay-next 0 p (bytes k v) out at (omega arith) (omega arith)

  -- a whole list
  pub copied_next : (q : List ℕ) → at + length q ≤ length out → copied_to at (length q) q 0 (overlay 0 p out) ≡ overlay 0 (p ++ q) out
  copied_next q h =
      let long : length (overlay 0 p out) ≡ length out = length-overlay 0 p out (omega arith) in
      copied-to at (length q) q 0 (overlay 0 p out) (omega arith) (omega arith)
      ∙ ap (λ (l : List ℕ). overlay at l (overlay 0 p out)) (part-whole q)
      ∙ overlay-next 0 p q out at (omega arith) (omega arith)

  -- one byte, so many times
  pub filled_next : (n b : ℕ) → at + n ≤ length out → filled_at at n b (overlay 0 p out) ≡ overlay 0 (p ++ replicate n b) out
  filled_next n b h =
      let long : length (overlay 0 p out) ≡ length out = length-overlay 0 p out (omega arith) in
      filled_at_lem at n b (overlay 0 p out) (omega arith) ∙ overlay-next 0 p (replicate n b) out at (omega arith) (omega arith)
