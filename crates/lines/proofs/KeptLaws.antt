-- A byte more of a block's rest, moved to the front. docs/PORT.md names the law; no proof cites it.
-- Assumes nothing.
use mathlib.Core.Path.{◌≡◌, sym, ap, ◌∙◌}
use mathlib.Core.List.{List}
use Prim.Native.Nat.{ℕ, ◌+◌, ◌-◌, ◌≤◌, ◌<◌}
use native.Mathlib.Nat.{zero-add, add_comm}
use native.Mathlib.Omega.{arith}
use lib.ListN.{length, get_or, take, drop, set, length-take, length-drop}
use lib.Seq.{length-take-le, get_or-append-add, get_or-drop}
use Rattle.fields.specs.Parts.{part, overlay}
use Rattle.fields.proofs.PartLaws.{get_d_part, overlay-is, overlay-more}

module _ (at have : ℕ) (b : List ℕ) (h : have ≤ length b) where
  abbrev rest : List ℕ
  rest = part at (have - at) b

  length_rest : length rest ≡ have - at
  unfolding part
  length_rest = simp (length-take, length-drop) (omega arith)

  pub kept_more : (n : ℕ) (m : List ℕ) → n + at < have → m ≡ overlay 0 (take n rest) b → set m n (get_or m (n + at) 0) ≡ overlay 0 (take (n + 1) rest) b
  kept_more n m k e =
      let full : length rest ≡ have - at = length_rest in
      let here : length (take n rest) ≡ n = length-take-le n rest (omega arith) in
      let old : get_or (overlay 0 (take n rest) b) (length (take n rest) + at) 0 ≡ get_or (drop (0 + length (take n rest)) b) at 0 =
      ap (λ (v : List ℕ). get_or v (length (take n rest) + at) 0) (overlay-is 0 (take n rest) b) ∙ get_or-append-add (take n rest) (drop (0 + length (take n rest)) b) at 0 in
      let byte : get_or m (n + at) 0 ≡ get_or rest n 0 =
      ap (λ (v : List ℕ). get_or v (n + at) 0) e
      ∙ ap (λ (j : ℕ). get_or (overlay 0 (take n rest) b) (j + at) 0) (sym here)
      ∙ old
      ∙ ap (λ (j : ℕ). get_or (drop j b) at 0) (zero-add (length (take n rest)) ∙ here)
      ∙ get_or-drop n b at 0
      ∙ ap (λ (j : ℕ). get_or b j 0) (add_comm n at)
      ∙ sym (get_d_part at (have - at) b n (omega arith)) in
      ap (λ (x : ℕ). set m n x) byte
      ∙ ap (λ (v : List ℕ). set v n (get_or rest n 0)) e
      ∙ ap (λ (j : ℕ). set (overlay 0 (take n rest) b) j (get_or rest n 0)) (sym (zero-add n))
      ∙ overlay-more 0 n rest b (omega arith) (omega arith)
