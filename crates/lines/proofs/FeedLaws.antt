-- The laws of feeding a block: a piece that goes, one that stops it, and no piece left; and of keeping its rest.
-- Assumes nothing.
use mathlib.Core.Path.{◌≡◌, refl, sym, ap, ◌∙◌}
use mathlib.Core.Bool.{true, false}
use mathlib.Core.List.{List, ◌∷◌, ◌++◌, append_assoc}
use Prim.Native.Nat.{ℕ, ◌+◌, ◌-◌, ◌≤◌, ◌<◌}
use native.Mathlib.Nat.{zero-add}
use native.Mathlib.Omega.{arith}
use lib.Dec.{leb, ltb}
use lib.ListN.{length, take, drop, length-append, length-take, length-drop}
use lib.Seq.{paste, length-take-le, take_at, drop_at}
use borrow.Author.Tests.{lt-ltb, le-ltb, ltb-false, le-leb, lt-leb}
use Rattle.std.specs.List.{copy_within}
use Rattle.fields.specs.Parts.{part, overlay}
use Rattle.fields.proofs.Cases.{cases, true≢false}
use Rattle.fields.proofs.PartLaws.{part_none, overlay-is, overlay-none}
use Rattle.text.specs.Laid.{Filled}
use Rattle.lines.specs.Pieces.{pieces, kept_of}
use Rattle.lines.specs.Listing.{roomy, Stepped, step_of, fed_told, fed_of}
use Rattle.lines.specs.declared.Listing.{Listing}
use Rattle.lines.proofs.PieceLaws.{pieces_none, pieces-cons}
use Rattle.lines.proofs.StepLaws.{step-full, step-goes}

-- ---- a step that is full leaves all as it was

pub as_it_was : (l : Listing) (t g o lines : List ℕ) (filled : ℕ) (s : Stepped) → s ≡ step_of l t g o lines filled → s.answer.full ≡ true
    → s ≡ record { answer = record { full = true; listing = l; filled = filled }; gathering = g; output = o; lines = lines }
as_it_was l t g o lines filled s e h =
    cases (roomy filled (length o) (length lines))
    (λ y. absurd (true≢false (sym h ∙ ap (λ (z : Stepped). z.answer.full) (e ∙ step-goes l t g o lines filled y))))
    (λ y. e ∙ step-full l t g o lines filled y)

-- ---- the loop, with d left of `have` bytes

module _ (have : ℕ) (d : List ℕ) (l : Listing) (g o lines : List ℕ) (taken filled : ℕ) (k : taken + length d ≡ have) where
  pub feed-ends : length d < 188
      → record { answer = fed_told l have taken filled; gathering = g; output = o; lines = lines } ≡ fed_of (pieces d) l g o lines taken filled
  unfolding fed_of
  feed-ends h = rw (lt-leb 188 (have - taken) (omega arith), pieces_none d h) refl

  -- a piece, and what is behind it
  module _ (p on : List ℕ) (e : d ≡ p ++ on) (n : length p ≡ 188) (s : Stepped) (q : s ≡ step_of l p g o lines filled) where
    cut : pieces d ≡ p ∷ pieces on
    cut =
        rw e (pieces-cons (p ++ on) (rw (length-append p on) (omega arith)) ∙ rw (take_at p on 188 n, drop_at p on 188 n))

    -- it is left
    left : leb 188 (have - taken) ≡ true
    left = le-leb 188 (have - taken) (omega (arith, ap length e, length-append p on))

    -- where it stops, all is as it was
    pub feed-stops : s.answer.full ≡ true
        → record { answer = fed_told s.answer.listing have taken s.answer.filled; gathering = s.gathering; output = s.output; lines = s.lines } ≡ fed_of (pieces d) l g o lines taken filled
    unfolding fed_of
    feed-stops f =
        ap (λ (z : Stepped). record { answer = fed_told z.answer.listing have taken z.answer.filled; gathering = z.gathering; output = z.output; lines = z.lines })
        (as_it_was l p g o lines filled s q f)
        ∙ rw (left, cut, ← q, f)

    pub feed-goes : s.answer.full ≡ false
        → fed_of (pieces on) s.answer.listing s.gathering s.output s.lines (taken + 188) s.answer.filled ≡ fed_of (pieces d) l g o lines taken filled
    unfolding fed_of
    feed-goes f = rw (cut, ← q, f)

-- ---- the rest of a block

-- bytes pasted are an overlay
paste_part : (at n : ℕ) (p l : List ℕ) → n ≤ length p → paste l at p n ≡ overlay at (take n p) l
paste_part at n p l h = rw (overlay-is at (take n p) l, length-take-le n p h, append_assoc (take at l) (take n p) (drop (at + n) l))

module _ (at have : ℕ) (b : List ℕ) where
  pub kept-none : length b < have → record { at = 0; lines = b } ≡ kept_of at have b
  unfolding kept_of
  kept-none h = rw (lt-ltb (length b) have h)

  module _ (h : have ≤ length b) where
    abbrev rest : List ℕ
    rest = part at (have - at) b

    length_rest : length rest ≡ have - at
    unfolding part
    length_rest = simp (length-take, length-drop) (omega arith)

    -- nothing is left there
    pub kept-nothing : have < at → record { at = 0; lines = b } ≡ kept_of at have b
    unfolding kept_of
    kept-nothing k =
        let z : have - at ≡ 0 = omega arith in
        rw (le-ltb (length b) have h, z, part_none at b, overlay-none 0 b)

    pub kept-all : (m : List ℕ) → m ≡ copy_within b at have 0 → record { at = have - at; lines = m } ≡ kept_of at have b
    unfolding kept_of part
    kept-all m e =
        let l : m ≡ overlay 0 (take (have - at) (drop at b)) b =
        e ∙ paste_part 0 (have - at) (drop at b) b (rw (length-drop at b) (omega arith)) in
        rw (le-ltb (length b) have h, length_rest, zero-add (have - at), l)

pub kept_at : (at have : ℕ) (b : List ℕ) (n : ℕ) (m : List ℕ) → have ≤ length b → record { at = n; lines = m } ≡ kept_of at have b → n ≡ have - at
unfolding kept_of
kept_at at have b n m h e =
    let z : (kept_of at have b).at ≡ 0 + length (part at (have - at) b) = rw (le-ltb (length b) have h) refl in
    ap (λ (f : Filled). f.at) e ∙ z ∙ zero-add (length (part at (have - at) b)) ∙ length_rest at have b h

-- what is kept lies in the block
pub kept-within : (at have : ℕ) (b : List ℕ) (n : ℕ) (m : List ℕ) → record { at = n; lines = m } ≡ kept_of at have b → n ≤ length b
unfolding kept_of
kept-within at have b n m e =
    let z : n ≡ (kept_of at have b).at = ap (λ (f : Filled). f.at) e in
    rw z
    (cases (ltb (length b) have)
    (λ h. rw h (omega arith))
    (λ h. rw h (let f : have ≤ length b = ltb-false (length b) have h in omega (arith, length_rest at have b f))))
