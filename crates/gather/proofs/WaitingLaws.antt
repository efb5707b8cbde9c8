-- Waiting bytes with new ones behind them, byte by byte. docs/PORT.md names these laws; no proof cites them.
-- Assumes nothing.
use mathlib.Core.Path.{◌≡◌, ap, ◌∙◌}
use mathlib.Core.List.{List, ◌++◌}
use Prim.Native.Nat.{ℕ, ◌+◌, ◌-◌, ◌≤◌, ◌<◌}
use native.Mathlib.Omega.{arith}
use lib.ListN.{length, get_or, take, length-append, get_or-append, get_or-eq_default}
use lib.Seq.{length-take-le, get_or-take, get_or-append-add}

module _ (g : List ℕ) (w : ℕ) (d : List ℕ) (h : w ≤ length g) where
  pub get_or-waiting : (k : ℕ) → k < w → get_or (take w g ++ d) k 0 ≡ get_or g k 0
  get_or-waiting k i =
      get_or-append (take w g) d 0 k (rw (length-take-le w g h) i) ∙ get_or-take w g k 0 i

  pub get_or-new : (k : ℕ) → w ≤ k → get_or (take w g ++ d) k 0 ≡ get_or d (k - w) 0
  get_or-new k i =
      let e : length (take w g) ≡ w = length-take-le w g h in
      let f : k ≡ length (take w g) + (k - w) = rw e (omega arith) in
      ap (λ (j : ℕ). get_or (take w g ++ d) j 0) f ∙ get_or-append-add (take w g) d (k - w) 0

  pub get_d_past : (k : ℕ) → w + length d ≤ k → get_or (take w g ++ d) k 0 ≡ 0
  get_d_past k i = get_or-eq_default (take w g ++ d) 0 (rw (length-append (take w g) d, length-take-le w g h) i)
