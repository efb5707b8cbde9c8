-- The laws of packets back to back: how a cut unfolds, that nothing is lost by it, and what its packets are.
-- Assumes nothing.
use Rattle.std.proofs.Common.{◌≡◌, ℕ, zero, suc, ◌<◌, ◌≤◌, Bool, true, false, leb, List, [], ◌∷◌, ◌++◌, length, take, drop, sym, refl, ap, ◌∙◌, append_assoc, append-nil, suc-ne-zero, arith, length-append, length-drop, take-append-drop, length-take-le, take_at, drop_at, le-leb, leb-false, leb-true}
use borrow.Author.Tests.{lt-leb}
use Rattle.crc.specs.Crc.{crc_holds}
use Rattle.fields.proofs.Cases.{cases}
use Rattle.packet.proofs.LayoutLaws.{size-least, size-take, size-append}
use Rattle.packet.specs.Layout.{size_of}
use Rattle.packet.specs.Cut.{Whole, AllWhole, Cut, stop, more, cut_by, cut, joined, judge_of, judged_number}
use Rattle.std.specs.Prelude.{Ok, Err}
use Rattle.packet.specs.declared.Flaw.TheVariants.{Short, Bad}

-- ---- with a bound on the packets, case by case

by-short : (k : ℕ) (l : List ℕ) → length l < size_of l → cut_by k l ≡ stop l false
unfolding cut_by
by-short zero l h = refl
by-short (suc k) l h = simp (lt-leb (size_of l) (length l) h)

by-bad : (k : ℕ) (l : List ℕ) → size_of l ≤ length l → crc_holds (take (size_of l) l) ≡ false → cut_by (suc k) l ≡ stop l true
unfolding cut_by
by-bad k l h b = simp (le-leb (size_of l) (length l) h, b)

by-good : (k : ℕ) (l : List ℕ) → size_of l ≤ length l → crc_holds (take (size_of l) l) ≡ true
    → cut_by (suc k) l ≡ more (take (size_of l) l) (cut_by k (drop (size_of l) l))
unfolding cut_by
by-good k l h b = simp (le-leb (size_of l) (length l) h, b)

left : (l : List ℕ) (k : ℕ) → size_of l ≤ length l → length l ≤ suc k → length (drop (size_of l) l) ≤ k
left l k h b = simp length-drop (omega (arith, size-least l))

-- a bound beyond the bytes changes nothing
by-any : (k m : ℕ) (l : List ℕ) → length l ≤ k → length l ≤ m → cut_by k l ≡ cut_by m l
by-any zero m l hk hm = by-short zero l (omega (arith, size-least l)) ∙ sym (by-short m l (omega (arith, size-least l)))
by-any (suc k) zero l hk hm = by-short (suc k) l (omega (arith, size-least l)) ∙ sym (by-short zero l (omega (arith, size-least l)))
by-any (suc k) (suc m) l hk hm =
    cases (leb (size_of l) (length l))
    (λ t. let h : size_of l ≤ length l = leb-true _ _ t in
    cases (crc_holds (take (size_of l) l))
    (λ g. by-good k l h g ∙ ap (more (take (size_of l) l)) (by-any k m (drop (size_of l) l) (left l k h hk) (left l m h hm)) ∙ sym (by-good m l h g))
    (λ g. by-bad k l h g ∙ sym (by-bad m l h g)))
    (λ t. by-short (suc k) l (leb-false _ _ t) ∙ sym (by-short (suc m) l (leb-false _ _ t)))

-- ---- how a cut unfolds

pub cut_short : (l : List ℕ) → length l < size_of l → cut l ≡ stop l false
unfolding cut
cut_short l h = by-short (length l) l h

pub cut-bad : (l : List ℕ) → size_of l ≤ length l → crc_holds (take (size_of l) l) ≡ false → cut l ≡ stop l true
unfolding cut
cut-bad l h b = by-any (length l) (suc (length l)) l (omega arith) (omega arith) ∙ by-bad (length l) l h b

pub cut-good : (l : List ℕ) → size_of l ≤ length l → crc_holds (take (size_of l) l) ≡ true
    → cut l ≡ more (take (size_of l) l) (cut (drop (size_of l) l))
unfolding cut
cut-good l h b =
    by-any (length l) (suc (length l)) l (omega arith) (omega arith)
    ∙ by-good (length l) l h b
    ∙ ap (more (take (size_of l) l))
    (by-any (length l) (length (drop (size_of l) l)) (drop (size_of l) l) (simp length-drop (omega arith)) (omega arith))

pub cut-nil : cut [] ≡ stop [] false
cut-nil = cut_short [] (omega (arith, size-least []))

-- ---- what `judge` says of the first packet is how the cut goes on

pub judged-short : (l : List ℕ) → length l < size_of l → judge_of l ≡ Err Short
unfolding judge_of
judged-short l h = simp (lt-leb (size_of l) (length l) h)

pub judged-bad : (l : List ℕ) → size_of l ≤ length l → crc_holds (take (size_of l) l) ≡ false → judge_of l ≡ Err Bad
unfolding judge_of
judged-bad l h b = simp (le-leb (size_of l) (length l) h, b)

pub judged-good : (l : List ℕ) → size_of l ≤ length l → crc_holds (take (size_of l) l) ≡ true → judge_of l ≡ Ok (size_of l)
unfolding judge_of
judged-good l h b = simp (le-leb (size_of l) (length l) h, b)

-- what a cut leaves does not begin with a good packet
rest-by : (k : ℕ) (l : List ℕ) → length l ≤ k → judged_number (judge_of (cut_by k l).rest) ≡ 0 → ⊥
rest-by zero l h e =
    suc-ne-zero 12 (rw (by-short zero l (omega (arith, size-least l)), judged-short l (omega (arith, size-least l))) at e)
rest-by (suc k) l h e =
    cases (leb (size_of l) (length l))
    (λ t. let b : size_of l ≤ length l = leb-true _ _ t in
    cases (crc_holds (take (size_of l) l))
    (λ g. rest-by k (drop (size_of l) l) (left l k b h) (rw (by-good k l b g) at e))
    (λ g. suc-ne-zero 13 (rw (by-bad k l b g, judged-bad l b g) at e)))
    (λ t. suc-ne-zero 12 (rw (by-short (suc k) l (leb-false _ _ t), judged-short l (leb-false _ _ t)) at e))

pub rest-judged : (l : List ℕ) → judged_number (judge_of (cut l).rest) ≡ 0 → ⊥
unfolding cut
rest-judged l e = rest-by (length l) l (omega arith) e

-- ---- what the packets are

-- the first packet of a cut is whole
pub first-whole : (l : List ℕ) → size_of l ≤ length l → crc_holds (take (size_of l) l) ≡ true → Whole (take (size_of l) l)
first-whole l h g =
    record {
      size = length-take-le (size_of l) l h ∙ sym (size-take (size_of l) l (omega (arith, size-least l)));
      crc = g;
    }

-- a whole packet in front is cut off
pub cut-whole : (p l : List ℕ) → Whole p → cut (p ++ l) ≡ more p (cut l)
cut-whole p l w =
    let s : size_of (p ++ l) ≡ length p = size-append p l (omega (arith, w.size, size-least p)) ∙ sym w.size in
    let t : take (size_of (p ++ l)) (p ++ l) ≡ p = rw s (take_at p l (length p) refl) in
    let d : drop (size_of (p ++ l)) (p ++ l) ≡ l = rw s (drop_at p l (length p) refl) in
    cut-good (p ++ l) (rw s (simp length-append (omega arith))) (rw t w.crc) ∙ rw (t, d)

-- every packet of a cut is whole, and the bytes are its packets and then its rest
pub record Cuts (l : List ℕ) (c : Cut) : Type 0 where
  pub whole : AllWhole c.packets
  pub bytes : joined c.packets ++ c.rest ≡ l

stops : (l : List ℕ) (b : Bool) → Cuts l (stop l b)
unfolding joined
stops l b = record { whole = tt; bytes = refl }

goes_on : (p l : List ℕ) (c : Cut) → Whole p → Cuts l c → Cuts (p ++ l) (more p c)
unfolding joined
goes_on p l c w d =
    record { whole = (w, d.whole); bytes = append_assoc p (joined c.packets) c.rest ∙ ap (λ (m : List ℕ). p ++ m) d.bytes }

by-cuts : (k : ℕ) (l : List ℕ) → Cuts l (cut_by k l)
by-cuts zero l = unfold cut_by in stops l false
by-cuts (suc k) l =
    cases (leb (size_of l) (length l))
    (λ t. let h : size_of l ≤ length l = leb-true _ _ t in
    cases (crc_holds (take (size_of l) l))
    (λ g. rw (by-good k l h g)
    (rw (take-append-drop (size_of l) l) at (goes_on (take (size_of l) l) (drop (size_of l) l) (cut_by k (drop (size_of l) l)) (first-whole l h g) (by-cuts k (drop (size_of l) l)))))
    (λ g. rw (by-bad k l h g) (stops l true)))
    (λ t. rw (by-short (suc k) l (leb-false _ _ t)) (stops l false))

pub cut-cuts : (l : List ℕ) → Cuts l (cut l)
unfolding cut
cut-cuts l = by-cuts (length l) l

-- whole packets in front are all cut off
abbrev pub after : List (List ℕ) → Cut → Cut
after [] c = c
after (p ∷ ps) c = more p (after ps c)

pub cut-joined : (ps : List (List ℕ)) (l : List ℕ) → AllWhole ps → cut (joined ps ++ l) ≡ after ps (cut l)
unfolding joined
cut-joined [] l w = refl
cut-joined (p ∷ ps) l w =
    ap cut (append_assoc p (joined ps) l) ∙ cut-whole p (joined ps ++ l) w.0 ∙ ap (more p) (cut-joined ps l w.1)

-- and bytes behind them that are no whole packet are the rest
pub cut-behind : (ps : List (List ℕ)) (l : List ℕ) → AllWhole ps → length l < size_of l → cut (joined ps ++ l) ≡ record { packets = ps; rest = l; bad = false }
unfolding joined
cut-behind [] l w h = cut_short l h
cut-behind (p ∷ ps) l w h =
    ap cut (append_assoc p (joined ps) l) ∙ cut-whole p (joined ps ++ l) w.0 ∙ ap (more p) (cut-behind ps l w.1 h)

-- whole packets one after another are cut into just these
pub cut_all : (ps : List (List ℕ)) → AllWhole ps → cut (joined ps) ≡ record { packets = ps; rest = []; bad = false }
cut_all ps w = ap cut (sym (append-nil (joined ps))) ∙ cut-behind ps [] w (omega (arith, size-least []))

-- ---- packets one after another

pub joined-one : (p : List ℕ) → joined (p ∷ []) ≡ p
unfolding joined
joined-one p = append-nil p

pub joined-append : (ps qs : List (List ℕ)) → joined (ps ++ qs) ≡ joined ps ++ joined qs
unfolding joined
joined-append [] qs = refl
joined-append (p ∷ ps) qs = rw (joined-append ps qs) (sym (append_assoc p (joined ps) (joined qs)))
