-- The laws of parts and overlays.
-- Assumes nothing.
use mathlib.Core.Path.{◌≡◌, refl, sym, ap, ◌∙◌}
use mathlib.Core.List.{List, [], ◌∷◌, ◌++◌, append_assoc, append-nil}
use Prim.Native.Nat.{ℕ, suc, ◌+◌, ◌-◌, ◌*◌, ◌^◌, ◌≤◌, ◌<◌}
use native.Mathlib.Nat.{add-zero, zero-add, add_assoc}
use native.Mathlib.Numerals.{add-one}
use native.Mathlib.Omega.{arith}
use lib.ListN.{length, get_or, set, replicate, take, drop, length-append, length-drop, take-append-drop, drop_of_length-le}
use lib.Seq.{length-take-le, take_all, take_at, drop_at, take-take, take-add, drop-drop, drop-append-add, take-suc, drop-cons, get_or-take, get_or-drop, set_at, take-length}
use borrow.Author.Tests.{le-leb}
use borrow.Rule.Slice.PartMut.{put_mid}
use Rattle.std.proofs.lemmas.List.{drop-take}
use Rattle.fields.proofs.NumberLaws.{bytes_take, bytes_drop, number_append, number_lt}
use Rattle.fields.proofs.FormatLaws.{unpack-halves}
use Rattle.fields.specs.Formats.{span, unpack}
use Rattle.fields.specs.Numbers.{Bytes, number, bytes}
use Rattle.fields.specs.Parts.{part, overlay, number_at, stored_at, copied_to, filled_at}

-- ---- parts

pub length_part : (from n : ℕ) (l : List ℕ) → from + n ≤ length l → length (part from n l) ≡ n
unfolding part
length_part from n l h = length-take-le n (drop from l) (simp length-drop (omega arith))

pub part_bytes : (from n : ℕ) (l : List ℕ) → Bytes l → Bytes (part from n l)
unfolding part
part_bytes from n l h = bytes_take n (drop from l) (bytes_drop from l h)

pub part_none : (from : ℕ) (l : List ℕ) → part from 0 l ≡ []
unfolding part
part_none from l = refl

pub part-whole : (l : List ℕ) → part 0 (length l) l ≡ l
unfolding part
part-whole l = take-length l

pub part-add : (from m n : ℕ) (l : List ℕ) → part from (m + n) l ≡ part from m l ++ part (from + m) n l
unfolding part
part-add from m n l = take-add m n (drop from l) ∙ ap (λ (r : List ℕ). take m (drop from l) ++ take n r) (drop-drop m from l)

-- one element more
pub part-more : (from n : ℕ) (l : List ℕ) → from + n < length l → part from (n + 1) l ≡ part from n l ++ (get_or l (from + n) 0 ∷ [])
unfolding part
part-more from n l h =
    rw (add-one)
    (take-suc (drop from l) n 0 (simp length-drop (omega arith))
    ∙ ap (λ (x : ℕ). take n (drop from l) ++ (x ∷ [])) (get_or-drop from l n 0))

pub part-cons : (from n : ℕ) (l : List ℕ) → from < length l → part from (suc n) l ≡ get_or l from 0 ∷ part (from + 1) n l
unfolding part
part-cons from n l h = rw (add-one from, drop-cons l from 0 h)

-- the parts of lists after each other
pub part-front : (p q : List ℕ) (n : ℕ) → length p ≡ n → part 0 n (p ++ q) ≡ p
unfolding part
part-front p q n e = take_at p q n e

pub part-behind : (p q : List ℕ) (from n : ℕ) → length p ≡ from → part from n (p ++ q) ≡ take n q
unfolding part
part-behind p q from n e = ap (take n) (drop_at p q from e)

pub take_part : (a n m : ℕ) (l : List ℕ) → m ≤ n → take m (part a n l) ≡ part a m l
unfolding part
take_part a n m l h = take-take m n (drop a l) h

pub drop-part : (a n m : ℕ) (l : List ℕ) → m ≤ n → drop m (part a n l) ≡ part (a + m) (n - m) l
unfolding part
drop-part a n m l h =
    let e : n ≡ m + (n - m) = omega arith in
    ap (λ (k : ℕ). drop m (take k (drop a l))) e ∙ rw (drop-take m (n - m) (drop a l), drop-drop m a l)

pub part-part : (a n b m : ℕ) (l : List ℕ) → b + m ≤ n → part b m (part a n l) ≡ part (a + b) m l
unfolding part
part-part a n b m l h =
    let e : n ≡ b + (n - b) = omega arith in
    rw (e, drop-take b (n - b) (drop a l), drop-drop b a l, take-take m (n - b) (drop (a + b) l) (omega arith))

pub get_d_part : (from n : ℕ) (l : List ℕ) (i : ℕ) → i < n → get_or (part from n l) i 0 ≡ get_or l (from + i) 0
unfolding part
get_d_part from n l i h = get_or-take n (drop from l) i 0 h ∙ get_or-drop from l i 0

-- ---- a format in parts

-- the fields of a format whose two halves are whole bytes, over any widths and counts of bytes
pub in_halves : (vs ws : List ℕ) (j k : ℕ) (s : List ℕ) → Bytes s → length s ≡ j + k → span ws ≡ 8 * k
    → unpack (vs ++ ws) (number s) ≡ unpack vs (number (part 0 j s)) ++ unpack ws (number (part j k s))
in_halves vs ws j k s b e w =
    let p : List ℕ = part 0 j s in
    let q : List ℕ = part j k s in
    let two : s ≡ p ++ q = sym (part-whole s) ∙ ap (λ (n : ℕ). part 0 n s) e ∙ part-add 0 j k s ∙ ap (λ (n : ℕ). p ++ part n k s) (zero-add j) in
    let bits : 8 * length q ≡ span ws = ap (λ (n : ℕ). 8 * n) (length_part j k s (omega arith)) ∙ sym w in
    ap (λ (l : List ℕ). unpack (vs ++ ws) (number l)) two
    ∙ ap (unpack (vs ++ ws)) (number_append p q ∙ ap (λ (n : ℕ). number p * 2 ^ n + number q) bits)
    ∙ unpack-halves vs ws (number p) (number q) (rw bits at (number_lt q (part_bytes j k s b)))

-- ---- overlays

pub overlay-is : (at : ℕ) (p l : List ℕ) → overlay at p l ≡ take at l ++ (p ++ drop (at + length p) l)
unfolding overlay
overlay-is at p l = refl

-- what a write to the n elements of a slice from `at` on leaves
pub written-part : (at n : ℕ) (p l : List ℕ) → length p ≡ n → put_mid at (at + n - at) l p ≡ overlay at p l
unfolding overlay
written-part at n p l e =
    let k : at + n - at ≡ length p = omega arith in
    ap (λ (r : List ℕ). take at l ++ (p ++ r)) (ap (λ (i : ℕ). drop i (drop at l)) k ∙ drop-drop (length p) at l)

-- what stands before the end of p
length-head : (at : ℕ) (p l : List ℕ) → at ≤ length l → length (take at l ++ p) ≡ at + length p
length-head at p l h = length-append (take at l) p ∙ ap (λ (k : ℕ). k + length p) (length-take-le at l h)

pub length-overlay : (at : ℕ) (p l : List ℕ) → at + length p ≤ length l → length (overlay at p l) ≡ length l
unfolding overlay
length-overlay at p l h = simp (length-append, length-take-le at l (omega arith), length-drop) (omega arith)

pub overlay-none : (at : ℕ) (l : List ℕ) → overlay at [] l ≡ l
unfolding overlay
overlay-none at l = ap (λ (k : ℕ). take at l ++ drop k l) (add-zero at) ∙ take-append-drop at l

-- a list laid at the front is read there
pub take-front : (p l : List ℕ) → take (length p) (overlay 0 p l) ≡ p
unfolding overlay
take-front p l = take_at p (drop (0 + length p) l) (length p) refl

-- a list laid over all of another
pub overlay-whole : (p l : List ℕ) → length p ≡ length l → overlay 0 p l ≡ p
unfolding overlay
overlay-whole p l e =
    let k : length l ≤ 0 + length p = omega arith in
    ap (λ (m : List ℕ). p ++ m) (drop_of_length-le l k) ∙ append-nil p

pub take-overlay : (at : ℕ) (p l : List ℕ) → at ≤ length l → take (at + length p) (overlay at p l) ≡ take at l ++ p
unfolding overlay
take-overlay at p l h =
    rw (← append_assoc) (take_at (take at l ++ p) (drop (at + length p) l) (at + length p) (length-head at p l h))

pub drop-overlay : (at : ℕ) (p l : List ℕ) (n : ℕ) → at ≤ length l → drop (at + length p + n) (overlay at p l) ≡ drop (at + length p + n) l
unfolding overlay
drop-overlay at p l n h =
    rw (← append_assoc, ← length-head at p l h)
    (drop-append-add (take at l ++ p) (drop (length (take at l ++ p)) l) n
    ∙ drop-drop n (length (take at l ++ p)) l)

-- two lists laid back to back are one
pub overlay-next : (at : ℕ) (p q l : List ℕ) (next : ℕ) → at + length p ≡ next → at ≤ length l → overlay next q (overlay at p l) ≡ overlay at (p ++ q) l
overlay-next at p q l next e h =
    rw (← e, overlay-is (at + length p) q (overlay at p l), take-overlay at p l h, drop-overlay at p l (length q) h, overlay-is at (p ++ q) l, length-append p q, ← add_assoc at (length p) (length q))
    (simp append_assoc)

-- a store behind p
pub set-overlay : (at : ℕ) (p l : List ℕ) (x : ℕ) → at + length p < length l → set (overlay at p l) (at + length p) x ≡ overlay at (p ++ (x ∷ [])) l
set-overlay at p l x h =
    rw (overlay-is at p l, overlay-is at (p ++ (x ∷ [])) l, length-append p (x ∷ []), ← append_assoc (take at l) p (drop (at + length p) l), drop-cons l (at + length p) 0 h)
    (set_at (take at l ++ p) (get_or l (at + length p) 0) (drop (suc (at + length p)) l) x (at + length p) (length-head at p l (omega arith))
    ∙ rw (← add_assoc, add-one) (simp append_assoc))

-- the turn of a loop that lays p down, one element after the other
pub overlay-more : (at i : ℕ) (p l : List ℕ) → i < length p → at + i < length l → set (overlay at (take i p) l) (at + i) (get_or p i 0) ≡ overlay at (take (i + 1) p) l
overlay-more at i p l h k =
    let e : length (take i p) ≡ i = length-take-le i p (omega arith) in
    (rw e at (set-overlay at (take i p) l (get_or p i 0) (rw e k)))
    ∙ ap (λ (q : List ℕ). overlay at q l) (sym (take-suc p i 0 h) ∙ ap (λ (m : ℕ). take m p) (sym (add-one i)))

-- a list laid where it stands already
pub overlay-same : (p l : List ℕ) → take (length p) l ≡ p → overlay 0 p l ≡ l
overlay-same p l e =
    overlay-is 0 p l
    ∙ ap (λ (k : ℕ). p ++ drop k l) (zero-add (length p))
    ∙ ap (λ (q : List ℕ). q ++ drop (length p) l) (sym e)
    ∙ take-append-drop (length p) l

-- ---- what the functions do where all is in range, and where not

pub number-at : (at n : ℕ) (l : List ℕ) → at + n ≤ length l → n ≤ 8 → number_at at n l ≡ number (part at n l)
unfolding number_at
number-at at n l h k = simp (le-leb _ _ h, le-leb _ _ k)

pub stored-at : (at n v : ℕ) (l : List ℕ) → at + n ≤ length l → n ≤ 8 → stored_at at n v l ≡ overlay at (bytes n v) l
unfolding stored_at
stored-at at n v l h k = simp (le-leb _ _ h, le-leb _ _ k)

pub copied-to : (at n : ℕ) (s : List ℕ) (from : ℕ) (l : List ℕ) → from + n ≤ length s → at + n ≤ length l → copied_to at n s from l ≡ overlay at (part from n s) l
unfolding copied_to
copied-to at n s from l h k = simp (le-leb _ _ h, le-leb _ _ k)

-- the first n of them, all, and the last n laid at the front
pub copied-front : (at n : ℕ) (s l : List ℕ) → n ≤ length s → at + n ≤ length l → copied_to at n s 0 l ≡ overlay at (take n s) l
unfolding part
copied-front at n s l h k = copied-to at n s 0 l (omega arith) k

pub copied-whole : (at : ℕ) (s l : List ℕ) → at + length s ≤ length l → copied_to at (length s) s 0 l ≡ overlay at s l
copied-whole at s l k = copied-front at (length s) s l (omega arith) k ∙ ap (λ (p : List ℕ). overlay at p l) (take-length s)

pub copied-end : (n : ℕ) (s l : List ℕ) → n ≤ length s → n ≤ length l → copied_to 0 n s (length s - n) l ≡ overlay 0 (drop (length s - n) s) l
unfolding part
copied-end n s l h k =
    copied-to 0 n s (length s - n) l (omega arith) (omega arith)
    ∙ ap (λ (p : List ℕ). overlay 0 p l) (take_all n (drop (length s - n) s) (simp length-drop (omega arith)))

pub filled_at_lem : (at n b : ℕ) (l : List ℕ) → at + n ≤ length l → filled_at at n b l ≡ overlay at (replicate n b) l
unfolding filled_at
filled_at_lem at n b l h = simp (le-leb _ _ h)
