-- The laws of lines: how long one is, and how the lines of packets that stand back to back go on.
-- Assumes nothing.
use mathlib.Core.Path.{◌≡◌, refl, sym, ap, ◌∙◌}
use mathlib.Core.Bool.{Bool, true, false}
use mathlib.Core.List.{List, [], ◌∷◌}
use Prim.Native.Nat.{ℕ, ◌+◌, ◌*◌, ◌≤◌, ◌<◌}
use native.Mathlib.Omega.{arith}
use lib.Dec.{eqb, lit<}
use lib.ListN.{length, length-append}
use borrow.Author.Tests.{eq-eqb, ne_eqb, eqb-true, eqb-false, le-ltb}
use Rattle.crc.specs.Crc.{crc_holds}
use Rattle.fields.specs.Formats.{unpack, Fit}
use Rattle.fields.specs.Parts.{number_at, overlay}
use Rattle.fields.proofs.Cases.{cases}
use Rattle.fields.proofs.FormatLaws.{unpack-fit}
use Rattle.fields.proofs.PartLaws.{length-overlay}
use Rattle.std.specs.Prelude.{Result, Ok, Err}
use Rattle.refusals.specs.Refusals.{number_of}
use Rattle.refusals.specs.declared.Refusal.{Refusal}
use Rattle.refusals.proofs.NumberLaws.{number-not-0}
use Rattle.refusals.specs.Checks.{Check, ◌when◌, holds, number, first}
use Rattle.packet.specs.Layout.{header, size_of, reserved_type, pad_set}
use Rattle.packet.specs.Read.{field, header_of, payload_of, reserved_set, read_checks, no_header, read_of, Packet, packet_told}
use Rattle.packet.specs.Cut.{Whole, cut, joined}
use Rattle.packet.specs.declared.Header.{Header}
use Rattle.packet.proofs.LayoutLaws.{size-least}
use Rattle.packet.proofs.RoundTrips.{read-shows, read-accepted, read-refused}
use Rattle.text.specs.Laid.{space, newline, word, laid, appended}
use Rattle.lines.specs.Lines.{fields_line, refused_word, refused_line, line_by, line_of, lines_of}
use Rattle.text.proofs.LayLaws.{appended-fits, laid-at, laid-lines, laid_next, laid_nil, word-few}

-- ---- the two kinds of line

pub by-refusal : (p : Packet) → (p.refusal ≡ 0 → ⊥) → line_by p ≡ refused_line p.refusal
unfolding line_by
by-refusal p h = rw (ne_eqb p.refusal 0 h)

pub by-fields : (p : Packet) → p.refusal ≡ 0 → line_by p ≡ fields_line p.header
unfolding line_by
by-fields p h = rw (eq-eqb p.refusal 0 h)

-- what reading gave
pub told_refused : (p : Result Header Refusal) (e : Refusal) → p ≡ Err e → refused_line (number_of e) ≡ line_by (packet_told p)
told_refused p e q = rw (q, by-refusal (packet_told (Err e)) (number-not-0 e)) refl

pub told_fields : (p : Result Header Refusal) (h : Header) → p ≡ Ok h → fields_line h ≡ line_by (packet_told p)
told_fields p h q = rw (q, by-fields (packet_told (Ok h)) refl) refl

-- ---- how long a line is

-- the numbers of checks are below m
abbrev Under : ℕ → List Check → Type 0
Under m [] = 0 < m
Under m (c ∷ l) = (number c < m) × Under m l

first_under : (m : ℕ) (l : List Check) → Under m l → first l < m
first_under m [] u = u
first_under m (c ∷ l) u = cases (holds c) (λ t. rw t u.0) (λ t. rw t (first_under m l u.1))

refusal-under : (s : List ℕ) → first (read_checks s) < 100
unfolding read_checks
refusal-under s = first_under 100 (read_checks s) (lit< tt, (lit< tt, (lit< tt, (lit< tt, (lit< tt, (lit< tt, lit< tt))))))

refused-few : (n : ℕ) → n < 100 → length (refused_line n) ≤ 11
unfolding refused_line
refused-few n h = rw (length-append refused_word (word n newline)) (omega (arith, word-few 2 n newline h (lit< tt)))

fields-few : (h : Header) → h.kind < 256 → h.count < 256 → h.frame < 16 → h.stream < 8 → h.bits < 65536 → length (fields_line h) ≤ 19
unfolding fields_line
fields-few h a b c d e =
    simp length-append
    (omega (arith, word-few 3 h.kind space (omega arith) (lit< tt), word-few 3 h.count space (omega arith) (lit< tt), word-few 2 h.frame space (omega arith) (lit< tt), word-few 1 h.stream space (omega arith) (lit< tt), word-few 5 h.bits newline (omega arith) (lit< tt)))

header-few : (s : List ℕ) → length (fields_line (header_of s)) ≤ 19
unfolding header_of unpack
header-few s =
    let f : Fit header (unpack header (number_at 0 6 s)) = unpack-fit header (number_at 0 6 s) in
    fields-few (header_of s) f.0 f.1.0 f.1.1.0 f.1.1.1.1.0 f.1.1.1.1.1.0

-- at most 19 bytes
pub line-few : (s : List ℕ) → length (line_of s) ≤ 19
line-few s =
    cases (eqb (first (read_checks s)) 0)
    (λ t. let z : first (read_checks s) ≡ 0 = eqb-true _ _ t in
    rw (read-accepted s z, by-fields (record { refusal = 0; header = header_of s }) refl) (header-few s))
    (λ t. let z = eqb-false (first (read_checks s)) 0 t in
    rw ((read-refused s z).0, by-refusal (record { refusal = first (read_checks s); header = no_header }) z)
    (omega (arith, refused-few (first (read_checks s)) (refusal-under s))))

-- ---- a packet by its own length is read with 14 exactly where its CRC is wrong

module _ (s : List ℕ) (long : 10 ≤ length s) (size : length s ≡ size_of s) where
  read-bad : crc_holds s ≡ false → (read_of s).refusal ≡ 14
  unfolding read_checks
  read-bad b = read-shows s ∙ simp (le-ltb (length s) 10 long, eq-eqb (length s) (size_of s) size, b)

  other : (a b c : Bool) → first (20 when a ∷ 21 when b ∷ 22 when c ∷ []) ≡ 14 → ⊥
  other true b c e = let z : ◌≡◌ {A = ℕ} 20 14 = e in omega arith
  other false true c e = let z : ◌≡◌ {A = ℕ} 21 14 = e in omega arith
  other false false true e = let z : ◌≡◌ {A = ℕ} 22 14 = e in omega arith
  other false false false e = let z : ◌≡◌ {A = ℕ} 0 14 = e in omega arith

  read-good : crc_holds s ≡ true → (read_of s).refusal ≡ 14 → ⊥
  unfolding read_checks
  read-good g e =
      other (reserved_set s) (reserved_type (field 0 s)) (pad_set (field 5 s) (payload_of s))
      (simp (le-ltb (length s) 10 long, eq-eqb (length s) (size_of s) size, g) at (sym (read-shows s) ∙ e))

  pub bad-of : (read_of s).refusal ≡ 14 → crc_holds s ≡ false
  bad-of e = cases (crc_holds s) (λ g. absurd (read-good g e)) (λ b. b)

  pub good_of : ((read_of s).refusal ≡ 14 → ⊥) → crc_holds s ≡ true
  good_of h = cases (crc_holds s) (λ g. g) (λ b. absurd (h (read-bad b)))

-- ---- the lines of packets back to back, as a loop finds them

abbrev pub lines_from : List ℕ → List ℕ
lines_from l = lines_of (cut l).packets

-- nothing is left
pub nothing_left : (l : List ℕ) (w : ℕ) (m : List ℕ) → lines_from l ≡ [] → record { at = w; lines = m } ≡ laid (lines_from l) w m
nothing_left l w m e = rw e (sym (laid_nil w m))

pub no-lines : (l : List ℕ) → (cut l).packets ≡ [] → lines_from l ≡ []
unfolding lines_of
no-lines l e = rw e

-- ---- a turn of the loop

module _ (p : List ℕ) (ps : List (List ℕ)) (whole : Whole p) (w : ℕ) (m : List ℕ) (room : w + 2 * length (joined (p ∷ ps)) ≤ length m)
    (v : ℕ) (n : List ℕ) (f : record { at = v; lines = n } ≡ appended (line_of p) w m) where
  abbrev x : List ℕ
  x = line_of p

  long : length (joined (p ∷ ps)) ≡ length p + length (joined ps)
  unfolding joined
  long = length-append p (joined ps)

  x-few : length x ≤ 2 * length p
  x-few = omega (arith, line-few p, whole.size, size-least p)

  x-laid : record { at = v; lines = n } ≡ laid x w m
  x-laid = f ∙ appended-fits x w m (omega (arith, x-few, long))

  pub left-room : v + 2 * length (joined ps) ≤ length n
  left-room =
      let k : length n ≡ length m = ap length (laid-lines x w m v n x-laid) ∙ length-overlay w x m (omega (arith, x-few, long)) in
      omega (arith, x-few, long, laid-at x w m v n x-laid)

  pub left-good : laid (lines_of ps) v n ≡ laid (lines_of (p ∷ ps)) w m
  unfolding lines_of
  left-good =
      let r : List ℕ = lines_of ps in
      laid_next x r w m v (v + length r) n (overlay v r n) (omega (arith, x-few, long)) x-laid refl
