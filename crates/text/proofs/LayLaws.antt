-- The laws of text in a lent buffer: with and without room, and one text behind another.
-- Assumes nothing.
use mathlib.Core.Path.{◌≡◌, sym, ap, ◌∙◌}
use mathlib.Core.Bool.{false}
use mathlib.Core.List.{List, [], ◌∷◌, ◌++◌, append_assoc}
use Prim.Native.Nat.{ℕ, suc, ◌+◌, ◌^◌, ◌≤◌, ◌<◌}
use native.Mathlib.Nat.{add-zero}
use native.Mathlib.Numerals.{add-one}
use native.Mathlib.Omega.{arith}
use lib.ListN.{length, get_or, take, drop, set, length-append}
use lib.Seq.{length-take-le, take-suc, set_at}
use borrow.Author.Tests.{le-leb}
use Rattle.fields.specs.Parts.{overlay, inside}
use Rattle.fields.proofs.PartLaws.{length-overlay, overlay-is, overlay-none, overlay-next, take-front}
use Rattle.text.specs.Digits.{digits}
use Rattle.text.specs.Laid.{word, Filled, laid, appended, filled, Appends}
use Rattle.text.specs.declared.Text.{Text}
use Rattle.text.proofs.DigitLaws.{digits-few}

-- ---- with and without room

pub appended-fits : (p : List ℕ) (at : ℕ) (l : List ℕ) → at + length p ≤ length l → appended p at l ≡ laid p at l
unfolding appended
appended-fits p at l h = rw (le-leb (at + length p) (length l) h)

pub appended-not : (p : List ℕ) (at : ℕ) (l : List ℕ) → inside at (length p) l ≡ false → appended p at l ≡ record { at = at; lines = l }
unfolding appended
appended-not p at l h = rw h

-- ---- one text behind another

-- two texts laid one behind the other are one
pub laid_next : (p q : List ℕ) (at : ℕ) (l : List ℕ) (r s : ℕ) (m n : List ℕ) → at ≤ length l
    → record { at = r; lines = m } ≡ laid p at l → record { at = s; lines = n } ≡ laid q r m → record { at = s; lines = n } ≡ laid (p ++ q) at l
laid_next p q at l r s m n h e f =
    let er : r ≡ at + length p = ap (λ (x : Filled). x.at) e in
    let em : m ≡ overlay at p l = ap (λ (x : Filled). x.lines) e in
    let es : s ≡ r + length q = ap (λ (x : Filled). x.at) f in
    let en : n ≡ overlay r q m = ap (λ (x : Filled). x.lines) f in
    let a : s ≡ at + length (p ++ q) = omega (arith, length-append p q) in
    let b : n ≡ overlay at (p ++ q) l = en ∙ ap (overlay r q) em ∙ overlay-next at p q l r (sym er) h in
    λ i. record { at = a i; lines = b i }

pub laid_nil : (at : ℕ) (l : List ℕ) → laid [] at l ≡ record { at = at; lines = l }
laid_nil at l = λ i. record { at = add-zero at i; lines = overlay-none at l i }

-- what was laid, and where
pub laid-at : (p : List ℕ) (at : ℕ) (l : List ℕ) (r : ℕ) (m : List ℕ) → record { at = r; lines = m } ≡ laid p at l → r ≡ at + length p
laid-at p at l r m e = ap (λ (x : Filled). x.at) e

pub laid-lines : (p : List ℕ) (at : ℕ) (l : List ℕ) (r : ℕ) (m : List ℕ) → record { at = r; lines = m } ≡ laid p at l → m ≡ overlay at p l
laid-lines p at l r m e = ap (λ (x : Filled). x.lines) e

-- ---- a text appended to what a buffer is filled with

-- two of them that have room are one
pub appends_next : (p q : List ℕ) (t u v : Text) → t.at + (length p + length q) ≤ length t.lines.now → Appends p t u → Appends q u v → Appends (p ++ q) t v
appends_next p q t u v h a b =
    let l : List ℕ = t.lines.now in
    let e : filled u ≡ laid p t.at l = a.1 ∙ appended-fits p t.at l (omega arith) in
    let n : length u.lines.now ≡ length l = ap (λ (f : Filled). length f.lines) e ∙ length-overlay t.at p l (omega arith) in
    let f : filled v ≡ laid q u.at u.lines.now = b.1 ∙ appended-fits q u.at u.lines.now (omega (arith, ap (λ (f : Filled). f.at) e)) in
    (b.0 ∙ a.0, laid_next p q t.at l u.at v.at u.lines.now v.lines.now (omega arith) e f ∙ sym (appended-fits (p ++ q) t.at l (omega (arith, length-append p q))))

-- ---- words

pub word-length : (n end : ℕ) → length (word n end) ≡ length (digits n) + 1
unfolding word
word-length n end = length-append (digits n) (end ∷ [])

-- a number below ten to the k, and what stands behind it
pub word-few : (k n end : ℕ) → n < 10 ^ k → 0 < k → length (word n end) ≤ k + 1
word-few k n end h p = omega (arith, word-length n end, digits-few k n h p)

-- ---- no proof cites these

-- a text laid at the front is read there
module _ (p l : List ℕ) (r : ℕ) (m : List ℕ) (e : record { at = r; lines = m } ≡ laid p 0 l) where
  pub front_read : take r m ≡ p
  front_read =
      let z : r ≡ length p = omega (arith, laid-at p 0 l r m e) in
      rw (z, laid-lines p 0 l r m e) (take-front p l)

  pub front-within : r ≤ length m
  front-within =
      rw (laid-lines p 0 l r m e, overlay-is 0 p l, length-append p (drop (0 + length p) l)) (omega (arith, laid-at p 0 l r m e))

-- a store before p
pub set_before : (at : ℕ) (p l : List ℕ) (x : ℕ) → at < length l → set (overlay (at + 1) p l) at x ≡ overlay at (x ∷ p) l
set_before at p l x h =
    let e : at + 1 + length p ≡ at + suc (length p) = omega arith in
    rw (overlay-is (at + 1) p l, add-one at, take-suc l at 0 h, append_assoc (take at l) (get_or l at 0 ∷ []) (p ++ drop (suc at + length p) l))
    (set_at (take at l) (get_or l at 0) (p ++ drop (suc at + length p) l) x at (length-take-le at l (omega arith))
    ∙ rw (← add-one at, e) (sym (overlay-is at (x ∷ p) l)))
