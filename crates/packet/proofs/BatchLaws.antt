-- How packets back to back are judged, packet by packet, and what those without a fault are: whole packets one after another.
-- Assumes nothing.
use Rattle.std.proofs.Common.{◌≡◌, ℕ, ◌<◌, ◌≤◌, false, cond, eqb, leb, map, List, [], ◌∷◌, ◌++◌, length, take, drop, sym, refl, ap, ◌∙◌, append-nil, arith, ne_eqb, eqb-true, leb-false, leb-true}
use Rattle.crc.specs.Crc.{crc_holds}
use Rattle.fields.proofs.Cases.{cases}
use Rattle.packet.proofs.LayoutLaws.{size-least}
use Rattle.packet.proofs.CutLaws.{cut-nil, cut_short, cut-bad, cut-good, cut_all, rest-judged, judged-short, judged-bad, judged-good, cut-cuts}
use Rattle.packet.specs.Layout.{size_of}
use Rattle.packet.specs.Cut.{AllWhole, cut, joined, judge_of, judged_number, batch_fault, flaw_in, parts_of}
use Rattle.std.specs.Prelude.{Result, Ok, Err}
use Rattle.std.specs.Result.{ok_prefix}
use Rattle.packet.specs.declared.Flaw.{Flaw}

pub fault-nil : batch_fault [] ≡ 0
unfolding batch_fault
fault-nil = rw cut-nil

-- whole packets have none
pub fault-none : (ps : List (List ℕ)) → AllWhole ps → batch_fault (joined ps) ≡ 0
unfolding batch_fault
fault-none ps w = rw (cut_all ps w)

-- what the judgement of the first packet makes of the batch
abbrev pub fault_by : Result ℕ Flaw → List ℕ → ℕ
fault_by (Err f) l = judged_number (Err f)
fault_by (Ok n) l = batch_fault (drop n l)

-- a good packet lies in the bytes
abbrev pub Lies : Result ℕ Flaw → List ℕ → Type 0
Lies (Err f) l = Unit
Lies (Ok n) l = (10 ≤ n) × (n ≤ length l)

pub record JudgedAs (l : List ℕ) : Type 0 where
  pub fault : batch_fault l ≡ fault_by (judge_of l) l
  pub lies : Lies (judge_of l) l

pub judged-as : (l : List ℕ) → 0 < length l → JudgedAs l
unfolding batch_fault
judged-as l n =
    cases (leb (size_of l) (length l))
    (λ t. let h : size_of l ≤ length l = leb-true _ _ t in
    cases (crc_holds (take (size_of l) l))
    (λ g. record { fault = rw (judged-good l h g, cut-good l h g); lies = rw (judged-good l h g) (size-least l, h) })
    (λ g. record { fault = rw (cut-bad l h g, judged-bad l h g, ne_eqb (length l) 0 (λ e. omega arith)); lies = rw (judged-bad l h g) tt }))
    (λ t. let h : length l < size_of l = leb-false _ _ t in
    record { fault = rw (cut_short l h, judged-short l h, ne_eqb (length l) 0 (λ e. omega arith)); lies = rw (judged-short l h) tt })

none : (l : List ℕ) → length l ≡ 0 → l ≡ []
none [] e = refl
none (x ∷ l) e = absurd (omega arith)

-- without a fault
pub record Sound (batch : List ℕ) : Type 0 where
  pub whole : AllWhole (cut batch).packets
  pub bytes : joined (cut batch).packets ≡ batch

pub sound : (batch : List ℕ) → batch_fault batch ≡ 0 → Sound batch
unfolding batch_fault
sound batch h =
    let c = cut-cuts batch in
    let left : eqb (length (cut batch).rest) 0 ≡ false → ⊥ = λ t. rest-judged batch (rw t at h) in
    let e : (cut batch).rest ≡ [] = cases (eqb (length (cut batch).rest) 0) (λ t. none _ (eqb-true _ _ t)) (λ t. absurd (left t)) in
    record {
      whole = c.whole;
      bytes = sym (append-nil (joined (cut batch).packets)) ∙ (rw e at c.bytes);
    }

-- ---- part by part

pub parts-nil : parts_of [] ≡ []
unfolding parts_of
parts-nil = rw cut-nil

-- what the judgement of the first packet makes of the parts
abbrev pub parts_by : Result ℕ Flaw → List ℕ → List (Result (List ℕ) Flaw)
parts_by (Err f) l = Err f ∷ []
parts_by (Ok n) l = Ok (take n l) ∷ parts_of (drop n l)

pub parts-judged : (l : List ℕ) → 0 < length l → parts_of l ≡ parts_by (judge_of l) l
unfolding parts_of
parts-judged l n =
    cases (leb (size_of l) (length l))
    (λ t. let h : size_of l ≤ length l = leb-true _ _ t in
    cases (crc_holds (take (size_of l) l))
    (λ g. rw (judged-good l h g, cut-good l h g))
    (λ g. rw (cut-bad l h g, judged-bad l h g, ne_eqb (length l) 0 (λ e. omega arith))))
    (λ t. let h : length l < size_of l = leb-false _ _ t in
    rw (cut_short l h, judged-short l h, ne_eqb (length l) 0 (λ e. omega arith)))

-- the first flaw is what is wrong with them
abbrev pub fault_in : List (Result (List ℕ) Flaw) → ℕ
fault_in [] = 0
fault_in (Ok p ∷ ps) = fault_in ps
fault_in (Err f ∷ ps) = judged_number (Err f)

behind-good : (ps : List (List ℕ)) (qs : List (Result (List ℕ) Flaw)) → fault_in (map Ok ps ++ qs) ≡ fault_in qs
behind-good [] qs = refl
behind-good (p ∷ ps) qs = behind-good ps qs

by-flaw : (j : Result ℕ Flaw) → fault_in (flaw_in j) ≡ judged_number j
by-flaw (Err f) = refl
by-flaw (Ok n) = refl

pub fault_parts : (l : List ℕ) → fault_in (parts_of l) ≡ batch_fault l
unfolding parts_of batch_fault
fault_parts l =
    let r : List ℕ = (cut l).rest in
    behind-good (cut l).packets (cond (eqb (length r) 0) [] (flaw_in (judge_of r)))
    ∙ cases (eqb (length (cut l).rest) 0) (λ b. rw b refl) (λ b. rw b (by-flaw (judge_of (cut l).rest)))

-- and the good packets are those of the cut
before-flaw : (ps : List (List ℕ)) (qs : List (Result (List ℕ) Flaw)) → ok_prefix qs ≡ [] → ok_prefix (map Ok ps ++ qs) ≡ ps
before-flaw [] qs e = e
before-flaw (p ∷ ps) qs e = ap (λ (x : List (List ℕ)). p ∷ x) (before-flaw ps qs e)

no-good : (j : Result ℕ Flaw) → ok_prefix (flaw_in j) ≡ []
no-good (Err f) = refl
no-good (Ok n) = refl

pub parts-good : (l : List ℕ) → ok_prefix (parts_of l) ≡ (cut l).packets
unfolding parts_of
parts-good l =
    before-flaw (cut l).packets _ (cases (eqb (length (cut l).rest) 0) (λ b. rw b refl) (λ b. rw b (no-good (judge_of (cut l).rest))))

-- so a good part is the first packet of the cut, and where none is left, or a flaw comes, the cut has none
pub parts-same : (l m : List ℕ) → parts_of l ≡ parts_of m → (cut l).packets ≡ (cut m).packets
parts-same l m e = sym (parts-good l) ∙ ap ok_prefix e ∙ parts-good m

pub parts-next : (l m p : List ℕ) → parts_of l ≡ Ok p ∷ parts_of m → (cut l).packets ≡ p ∷ (cut m).packets
parts-next l m p e = sym (parts-good l) ∙ ap ok_prefix e ∙ ap (λ (x : List (List ℕ)). p ∷ x) (parts-good m)

pub parts-end : (l : List ℕ) → parts_of l ≡ [] → (cut l).packets ≡ []
parts-end l e = sym (parts-good l) ∙ ap ok_prefix e

pub parts-flaw : (l : List ℕ) (f : Flaw) (qs : List (Result (List ℕ) Flaw)) → parts_of l ≡ Err f ∷ qs → (cut l).packets ≡ []
parts-flaw l f qs e = sym (parts-good l) ∙ ap ok_prefix e
