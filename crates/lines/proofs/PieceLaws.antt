-- The laws of pieces: those of l and m together are those of l, and then those of what l leaves over with m behind it.
-- Assumes nothing.
use mathlib.Core.Path.{◌≡◌, sym, ap, ◌∙◌}
use mathlib.Core.List.{List, [], ◌∷◌, ◌++◌}
use Prim.Native.Nat.{ℕ, zero, suc, ◌+◌, ◌*◌, ◌/◌, ◌≤◌, ◌<◌}
use native.Mathlib.Omega.{arith}
use lib.Dec.{leb}
use lib.ListN.{length, take, drop, length-append, length-drop}
use lib.Seq.{length-take-le, take-append-le, drop-append-le, drop-drop}
use borrow.Author.Tests.{leb-true, leb-false}
use Rattle.fields.specs.Numbers.{Bytes}
use Rattle.fields.proofs.Cases.{cases}
use Rattle.fields.proofs.NumberLaws.{bytes_take, bytes_drop}
use Rattle.lines.specs.Pieces.{pieces_by, pieces, leftover}

-- ---- one piece at a time

module _ (d : List ℕ) where
  one_more : 188 ≤ length d → length d / 188 ≡ suc (length (drop 188 d) / 188)
  one_more h = rw (length-drop 188 d) (omega arith)

  pub pieces_none : length d < 188 → pieces d ≡ []
  unfolding pieces pieces_by
  pieces_none h = let e : length d / 188 ≡ 0 = omega arith in rw e

  pub pieces-cons : 188 ≤ length d → pieces d ≡ take 188 d ∷ pieces (drop 188 d)
  unfolding pieces pieces_by
  pieces-cons h = ap (λ (k : ℕ). pieces_by k d) (one_more h)

  pub leftover-none : length d < 188 → leftover d ≡ d
  unfolding leftover
  leftover-none h = let e : 188 * (length d / 188) ≡ 0 = omega arith in ap (λ (k : ℕ). drop k d) e

  pub leftover-cons : 188 ≤ length d → leftover d ≡ leftover (drop 188 d)
  unfolding leftover
  leftover-cons h =
      let k : ℕ = length (drop 188 d) / 188 in
      let e : 188 * (length d / 188) ≡ 188 + 188 * k = omega (arith, one_more h) in
      ap (λ (n : ℕ). drop n d) e ∙ sym (drop-drop (188 * k) 188 d)

-- what holds of less than a piece, and of a piece and more where it holds behind the piece, holds of all
by-pieces : (P : List ℕ → Type 0) → ((d : List ℕ) → length d < 188 → P d) → ((d : List ℕ) → 188 ≤ length d → P (drop 188 d) → P d) → (k : ℕ) (d : List ℕ) → length d ≤ k → P d
by-pieces P short more zero d h = short d (omega arith)
by-pieces P short more (suc k) d h =
    cases (leb 188 (length d))
    (λ b. let l : 188 ≤ length d = leb-true _ _ b in more d l (by-pieces P short more k (drop 188 d) (rw (length-drop 188 d) (omega arith))))
    (λ b. short d (leb-false _ _ b))

-- ---- of two parts

module _ (m : List ℕ) where
  pub pieces-append : (l : List ℕ) → pieces (l ++ m) ≡ pieces l ++ pieces (leftover l ++ m)
  pieces-append l =
      by-pieces (λ d. pieces (d ++ m) ≡ pieces d ++ pieces (leftover d ++ m))
      (λ d h. rw (pieces_none d h, leftover-none d h))
      (λ d h more.
      pieces-cons (d ++ m) (rw (length-append d m) (omega arith))
      ∙ rw (take-append-le 188 d m h, drop-append-le 188 d m h, more, pieces-cons d h, leftover-cons d h))
      (length l) l (omega arith)

  pub leftover-append : (l : List ℕ) → leftover (l ++ m) ≡ leftover (leftover l ++ m)
  leftover-append l =
      by-pieces (λ d. leftover (d ++ m) ≡ leftover (leftover d ++ m))
      (λ d h. rw (leftover-none d h))
      (λ d h more.
      leftover-cons (d ++ m) (rw (length-append d m) (omega arith)) ∙ rw (drop-append-le 188 d m h, more, leftover-cons d h))
      (length l) l (omega arith)

-- ---- some of them taken

pub leftover-is : (l : List ℕ) → leftover l ≡ drop (188 * length (pieces l)) l
leftover-is l =
    by-pieces (λ d. leftover d ≡ drop (188 * length (pieces d)) d)
    (λ d h. rw (pieces_none d h, leftover-none d h))
    (λ d h more.
    let k : ℕ = length (pieces (drop 188 d)) in
    let e : 188 + 188 * k ≡ 188 * suc k = omega arith in
    leftover-cons d h ∙ more ∙ drop-drop (188 * k) 188 d ∙ ap (λ (n : ℕ). drop n d) e ∙ rw (pieces-cons d h))
    (length l) l (omega arith)

pub pieces-within : (l : List ℕ) → 188 * length (pieces l) ≤ length l
pieces-within l =
    by-pieces (λ d. 188 * length (pieces d) ≤ length d)
    (λ d h. rw (pieces_none d h) (omega arith))
    (λ d h more. rw (pieces-cons d h) (omega (arith, more, length-drop 188 d)))
    (length l) l (omega arith)

pub leftover-short : (l : List ℕ) → length (leftover l) < 188
unfolding leftover
leftover-short l = rw (length-drop (188 * (length l / 188)) l) (omega arith)

abbrev tail_of : List (List ℕ) → List (List ℕ)
tail_of [] = []
tail_of (p ∷ ps) = ps

-- behind the first of them stand the others
pub pieces-from : (gone left : List (List ℕ)) (d : List ℕ) → pieces d ≡ gone ++ left → pieces (drop (188 * length gone) d) ≡ left
pieces-from [] left d e = e
pieces-from (p ∷ gone) left d e =
    cases (leb 188 (length d))
    (λ b.
    let h : 188 ≤ length d = leb-true _ _ b in
    let n : 188 * suc (length gone) ≡ 188 + 188 * length gone = omega arith in
    rw (n, ← drop-drop (188 * length gone) 188 d) (pieces-from gone left (drop 188 d) (ap tail_of (sym (pieces-cons d h) ∙ e))))
    (λ b.
    let z : ◌≡◌ {A = ℕ} 0 (suc (length (gone ++ left))) = ap length (sym (pieces_none d (leb-false _ _ b)) ∙ e) in
    absurd (omega arith))

-- each has 188 bytes
abbrev pub Each : List (List ℕ) → Type 0
Each [] = Unit
Each (p ∷ ps) = (length p ≡ 188) × Bytes p × Each ps

pub each-piece : (l : List ℕ) → Bytes l → Each (pieces l)
each-piece l =
    by-pieces (λ d. Bytes d → Each (pieces d))
    (λ d h b. rw (pieces_none d h) tt)
    (λ d h more b. rw (pieces-cons d h) (length-take-le 188 d h, bytes_take 188 d b, more (bytes_drop 188 d b)))
    (length l) l (omega arith)
