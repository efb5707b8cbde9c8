-- How entries unfold, one at a time: the bound on how many there are does not matter. And how a fact is proved of all of them.
-- Assumes nothing.
use mathlib.Core.Path.{◌≡◌, refl, sym, ap, ◌∙◌}
use mathlib.Core.List.{List, [], ◌∷◌}
use Prim.Native.Nat.{ℕ, zero, suc, ◌+◌, ◌≤◌, ◌<◌}
use native.Mathlib.Omega.{arith}
use lib.Dec.{eqb, ltb}
use lib.ListN.{length, drop, length-drop}
use borrow.Author.Tests.{ltb-true, ltb-false, eq-eqb, ne_eqb, eqb-true, eqb-false}
use Rattle.fields.proofs.Cases.{cases}
use Rattle.addressing.specs.Data.{Entry, Entries, none, stopped, on_top, entries_by, entries_in}

-- a good entry takes some bytes, and not more than are left
pub record Fits {A : Type 0} (e : Entry A) : Type 0 where
  pub some : (l : List ℕ) → 0 < e.size l
  pub within : (l : List ℕ) → e.judge l ≡ 0 → e.size l ≤ length l

module _ {A : Type 0} (e : Entry A) where
  by-none : (k at : ℕ) (l : List ℕ) → length l ≤ 0 → entries_by k e at l ≡ none
  unfolding entries_by
  by-none zero at l h = refl
  by-none (suc k) at [] h = refl
  by-none (suc k) at (b ∷ bs) h = absurd (omega arith)

  by-stop : (k at : ℕ) (l : List ℕ) → 0 < length l → (e.judge l ≡ 0 → ⊥) → entries_by (suc k) e at l ≡ stopped (e.judge l) at
  unfolding entries_by
  by-stop k at [] some h = absurd (omega arith)
  by-stop k at (b ∷ bs) some h = rw (ne_eqb (e.judge (b ∷ bs)) 0 h)

  by-on : (k at : ℕ) (l : List ℕ) → 0 < length l → e.judge l ≡ 0
      → entries_by (suc k) e at l ≡ on_top (e.read at l) (entries_by k e (at + e.size l) (drop (e.size l) l))
  unfolding entries_by
  by-on k at [] some h = absurd (omega arith)
  by-on k at (b ∷ bs) some h = rw (eq-eqb (e.judge (b ∷ bs)) 0 h)

  module _ (fits : Fits e) where
    -- what is left is shorter by the entry
    shorter : (k : ℕ) (l : List ℕ) → e.judge l ≡ 0 → length l ≤ suc k → length (drop (e.size l) l) ≤ k
    shorter k l g h = simp length-drop (omega (arith, fits.some l, fits.within l g))

    -- a bound beyond the bytes changes nothing
    by-any : (k m at : ℕ) (l : List ℕ) → length l ≤ k → length l ≤ m → entries_by k e at l ≡ entries_by m e at l
    by-any zero m at l hk hm = by-none zero at l hk ∙ sym (by-none m at l hk)
    by-any (suc k) zero at l hk hm = by-none (suc k) at l hm ∙ sym (by-none zero at l hm)
    by-any (suc k) (suc m) at l hk hm =
        cases (ltb 0 (length l))
        (λ p. let some : 0 < length l = ltb-true _ _ p in
        cases (eqb (e.judge l) 0)
        (λ t. let g : e.judge l ≡ 0 = eqb-true _ _ t in
        by-on k at l some g
        ∙ ap (on_top (e.read at l)) (by-any k m (at + e.size l) (drop (e.size l) l) (shorter k l g hk) (shorter m l g hm))
        ∙ sym (by-on m at l some g))
        (λ t. by-stop k at l some (eqb-false _ _ t) ∙ sym (by-stop m at l some (eqb-false _ _ t))))
        (λ p. by-none (suc k) at l (ltb-false _ _ p) ∙ sym (by-none (suc m) at l (ltb-false _ _ p)))

    -- ---- none left, a bad entry, or a good one and the rest

    pub entries_none : (at : ℕ) (l : List ℕ) → length l ≤ 0 → entries_in e at l ≡ none
    unfolding entries_in
    entries_none at l h = by-none (length l) at l h

    module _ (at : ℕ) (l : List ℕ) (some : 0 < length l) where
      more : entries_in e at l ≡ entries_by (suc (length l)) e at l
      unfolding entries_in
      more = by-any (length l) (suc (length l)) at l (omega arith) (omega arith)

      pub entries-stop : (e.judge l ≡ 0 → ⊥) → entries_in e at l ≡ stopped (e.judge l) at
      entries-stop h = more ∙ by-stop (length l) at l some h

      pub entries-on : e.judge l ≡ 0 → entries_in e at l ≡ on_top (e.read at l) (entries_in e (at + e.size l) (drop (e.size l) l))
      unfolding entries_in
      entries-on h =
          let rest = drop (e.size l) l in
          let short : length rest ≤ length l = simp length-drop (omega arith) in
          more
          ∙ by-on (length l) at l some h
          ∙ ap (on_top (e.read at l)) (by-any (length l) (length rest) (at + e.size l) rest short (omega arith))

    -- ---- a fact of all entries

    module _ (P : ℕ → List ℕ → Entries A → Type 0)
        (empty : (at : ℕ) (l : List ℕ) → length l ≤ 0 → P at l none)
        (stop : (at : ℕ) (l : List ℕ) → 0 < length l → (e.judge l ≡ 0 → ⊥) → P at l (stopped (e.judge l) at))
        (go : (at : ℕ) (l : List ℕ) (rest : Entries A) → 0 < length l → e.judge l ≡ 0 → P (at + e.size l) (drop (e.size l) l) rest
        → P at l (on_top (e.read at l) rest)) where
      rule-by : (k at : ℕ) (l : List ℕ) → length l ≤ k → P at l (entries_in e at l)
      rule-by zero at l h = rw (entries_none at l h) (empty at l h)
      rule-by (suc k) at l h =
          cases (ltb 0 (length l))
          (λ p. let some : 0 < length l = ltb-true _ _ p in
          cases (eqb (e.judge l) 0)
          (λ t. let g : e.judge l ≡ 0 = eqb-true _ _ t in
          rw (entries-on at l some g) (go at l _ some g (rule-by k (at + e.size l) (drop (e.size l) l) (shorter k l g h))))
          (λ t. rw (entries-stop at l some (eqb-false _ _ t)) (stop at l some (eqb-false _ _ t))))
          (λ p. rw (entries_none at l (ltb-false _ _ p)) (empty at l (ltb-false _ _ p)))

      pub entries-rule : (at : ℕ) (l : List ℕ) → P at l (entries_in e at l)
      entries-rule at l = rule-by (length l) at l (omega arith)
