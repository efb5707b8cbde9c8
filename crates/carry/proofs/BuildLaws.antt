-- How a transport packet is built: header, field, pointer and bytes laid one after the other over bytes of 0xFF.
-- Assumes nothing.
use mathlib.Core.Path.{◌≡◌, refl, sym, ap, ap₂, ◌∙◌}
use mathlib.Core.List.{List, [], ◌∷◌, ◌++◌, append_assoc}
use Prim.Native.Nat.{ℕ, zero, suc, ◌+◌, ◌-◌, ◌≤◌, ◌<◌}
use native.Mathlib.Nat.{zero-add, add-zero}
use native.Mathlib.Omega.{arith}
use lib.ListN.{length, drop, set, replicate, length-append, length-replicate, replicate-append-replicate}
use Rattle.fields.specs.Formats.{pack}
use Rattle.fields.specs.Numbers.{bytes}
use Rattle.fields.specs.Parts.{overlay, stored_at, copied_to}
use Rattle.fields.proofs.NumberLaws.{length-bytes}
use Rattle.fields.proofs.PartLaws.{overlay-is, overlay-none, overlay-next, overlay-whole, set-overlay, stored-at, copied-whole}
use Rattle.transport.specs.Header.{header}
use Rattle.transport.specs.Load.{Load, plain, start, adaptation, control_for, head_bytes, transport_of}
use Rattle.transport.proofs.LoadLaws.{length-adaptation}
use Rattle.std.specs.Prelude.{Option, Some, None}
use Rattle.carry.specs.OnBytes.{load_with}
use Rattle.carry.specs.Building.{blank, field_head, Held}

-- ---- a byte set

pub set-byte : (at v : ℕ) (l : List ℕ) → at < length l → set l at v ≡ overlay at (v ∷ []) l
set-byte at v l h = ap₂ (λ (k : List ℕ) (n : ℕ). set k n v) (sym (overlay-none at l)) (sym (add-zero at)) ∙ set-overlay at [] l v (omega arith)

-- ---- 0xFF over 0xFF

replicate-drop : (k n : ℕ) (x : ℕ) → drop k (replicate (k + n) x) ≡ replicate n x
replicate-drop zero n x = ap (λ (m : ℕ). replicate m x) (zero-add n)
replicate-drop (suc k) n x = ap (λ (m : ℕ). drop (suc k) (replicate m x)) (eq k n) ∙ replicate-drop k n x
  where
    eq : (a b : ℕ) → suc a + b ≡ suc (a + b)
    eq a b = omega arith

replicate-split : (m n : ℕ) (x : ℕ) → replicate (m + n) x ≡ replicate m x ++ replicate n x
replicate-split m n x = sym (replicate-append-replicate m n x)

-- bytes of 0xFF behind p are there already
ones-laid : (p : List ℕ) (n : ℕ) → length p + n ≤ 188 → overlay 0 (p ++ replicate n 0xFF) blank ≡ overlay 0 p blank
ones-laid p n h =
    let k : ℕ = 188 - (length p + n) in
    let e : length p + (n + (188 - (length p + n))) ≡ 188 = omega arith in
    let d : drop (length p) blank ≡ replicate n 0xFF ++ replicate k 0xFF =
    ap (λ (m : ℕ). drop (length p) (replicate m 0xFF)) (sym e) ∙ replicate-drop (length p) (n + k) 0xFF ∙ replicate-split n k 0xFF in
    let f : drop (length p + n) blank ≡ replicate k 0xFF =
    let g : length p + n + (188 - (length p + n)) ≡ 188 = omega arith in
    ap (λ (m : ℕ). drop (length p + n) (replicate m 0xFF)) (sym g) ∙ replicate-drop (length p + n) k 0xFF in
    overlay-is 0 (p ++ replicate n 0xFF) blank
    ∙ ap (λ (m : ℕ). (p ++ replicate n 0xFF) ++ drop m blank) (zero-add (length (p ++ replicate n 0xFF)) ∙ length-append p (replicate n 0xFF) ∙ ap (λ (j : ℕ). length p + j) (length-replicate n 0xFF))
    ∙ ap (λ (l : List ℕ). (p ++ replicate n 0xFF) ++ l) f
    ∙ append_assoc p (replicate n 0xFF) (replicate k 0xFF)
    ∙ sym (overlay-is 0 p blank ∙ ap (λ (m : ℕ). p ++ drop m blank) (zero-add (length p)) ∙ ap (λ (l : List ℕ). p ++ l) d)

-- ---- the field

field-parts : (room : ℕ) → adaptation room ≡ field_head room ++ replicate (room - 2) 0xFF
field-parts zero = refl
field-parts (suc zero) = refl
field-parts (suc (suc n)) = ap (λ (k : ℕ). suc n ∷ 0x00 ∷ replicate k 0xFF) (less n)
  where
    less : (k : ℕ) → k ≡ suc (suc k) - 2
    less k = omega arith

length-field : (room : ℕ) → length (field_head room) + (room - 2) ≡ room
length-field zero = refl
length-field (suc zero) = refl
length-field (suc (suc n)) = omega arith

pub field-none : (t : List ℕ) → overlay 4 (field_head 0) t ≡ t
field-none t = overlay-none 4 t

pub field-one : (t : List ℕ) → length t ≡ 188 → set t 4 (1 - 1) ≡ overlay 4 (field_head 1) t
field-one t e = set-byte 4 0 t (omega arith)

pub field-more : (room : ℕ) (t : List ℕ) → length t ≡ 188 → 2 ≤ room → set (set t 4 (room - 1)) 5 0 ≡ overlay 4 (field_head room) t
field-more zero t e a = absurd (omega arith)
field-more (suc zero) t e a = absurd (omega arith)
field-more (suc (suc n)) t e a =
    let v : suc (suc n) - 1 ≡ suc n = omega arith in
    ap (λ (k : ℕ). set (set t 4 k) 5 0) v
    ∙ ap (λ (l : List ℕ). set l 5 0) (set-byte 4 (suc n) t (omega arith))
    ∙ set-overlay 4 (suc n ∷ []) t 0 (omega arith)

-- ---- the header, and then the field

module _ (pid begins count room : ℕ) (h : room ≤ 183) where
  abbrev number : ℕ
  number = pack header (0x47 ∷ 0 ∷ begins ∷ 0 ∷ pid ∷ 0 ∷ control_for room ∷ count ∷ [])

  pub head-laid : overlay 4 (field_head room) (stored_at 0 4 number blank) ≡ overlay 0 (head_bytes pid begins count room) blank
  unfolding head_bytes
  head-laid =
      let four : length (bytes 4 number) ≡ 4 = length-bytes 4 number in
      ap (overlay 4 (field_head room)) (stored-at 0 4 number blank (omega arith) (omega arith))
      ∙ overlay-next 0 (bytes 4 number) (field_head room) blank 4 (omega (arith, four)) (omega arith)
      ∙ sym (ones-laid (bytes 4 number ++ field_head room) (room - 2) (simp length-append (omega (arith, four, length-field room))))
      ∙ ap (λ (l : List ℕ). overlay 0 l blank) (append_assoc (bytes 4 number) (field_head room) (replicate (room - 2) 0xFF) ∙ ap (λ (l : List ℕ). bytes 4 number ++ l) (sym (field-parts room)))

  pub length-head : length (head_bytes pid begins count room) ≡ 4 + room
  unfolding head_bytes
  length-head = length-append (bytes 4 number) (adaptation room) ∙ ap₂ ◌+◌ (length-bytes 4 number) (length-adaptation room)

  -- what fills the packet behind its head
  pub behind-head : (d : List ℕ) → 4 + room + length d ≡ 188 → overlay (4 + room) d (overlay 0 (head_bytes pid begins count room) blank) ≡ head_bytes pid begins count room ++ d
  behind-head d e =
      overlay-next 0 (head_bytes pid begins count room) d blank (4 + room) (omega (arith, length-head)) (omega arith)
      ∙ overlay-whole (head_bytes pid begins count room ++ d) blank (length-append (head_bytes pid begins count room) d ∙ omega (arith, length-head))

-- ---- the whole packet

-- a packet whose bytes are still to come
abbrev pub Ready : ℕ → ℕ → Load → List ℕ → Type 0
Ready pid count (plain d) t = t ≡ overlay 0 (head_bytes pid 0 count (184 - length d)) blank
Ready pid count (start n d) t = t ≡ set (overlay 0 (head_bytes pid 1 count (183 - length d)) blank) (187 - length d) n

module _ (pid count : ℕ) (t d : List ℕ) where
  plain-built : 1 ≤ length d → length d ≤ 184 → Ready pid count (plain d) t → overlay (188 - length d) d t ≡ transport_of pid count (plain d)
  unfolding transport_of
  plain-built a b r =
      let k : 188 - length d ≡ 4 + (184 - length d) = omega arith in
      ap (λ (n : ℕ). overlay n d t) k
      ∙ ap (overlay (4 + (184 - length d)) d) r
      ∙ behind-head pid 0 count (184 - length d) (omega arith) d (omega arith)

  start-built : (n : ℕ) → length d ≤ 183 → Ready pid count (start n d) t → overlay (188 - length d) d t ≡ transport_of pid count (start n d)
  unfolding transport_of
  start-built n b r =
      let h : List ℕ = head_bytes pid 1 count (183 - length d) in
      let lh : length (head_bytes pid 1 count (183 - length d)) ≡ 4 + (183 - length d) = length-head pid 1 count (183 - length d) (omega arith) in
      let k : 187 - length d ≡ 0 + length (head_bytes pid 1 count (183 - length d)) = omega (arith, lh) in
      let lp : length (head_bytes pid 1 count (183 - length d) ++ (n ∷ [])) ≡ 188 - length d = length-append (head_bytes pid 1 count (183 - length d)) (n ∷ []) ∙ omega (arith, lh) in
      ap (overlay (188 - length d) d) (r ∙ ap (λ (j : ℕ). set (overlay 0 h blank) j n) k ∙ set-overlay 0 h blank n (omega (arith, lh)))
      ∙ overlay-next 0 (h ++ (n ∷ [])) d blank (188 - length d) (zero-add (length (h ++ (n ∷ []))) ∙ lp) (omega arith)
      ∙ overlay-whole ((h ++ (n ∷ [])) ++ d) blank (length-append (h ++ (n ∷ [])) d ∙ omega (arith, lp))
      ∙ append_assoc h (n ∷ []) d

-- what is written last is the load's bytes
pub built : (pid count : ℕ) (o : Option ℕ) (d : List ℕ) → Held (load_with o d) → (t : List ℕ) → length t ≡ 188 → Ready pid count (load_with o d) t
    → copied_to (188 - length d) (length d) d 0 t ≡ transport_of pid count (load_with o d)
built pid count None d h t e r = copied-whole (188 - length d) d t (omega (arith, h.0, h.1, e)) ∙ plain-built pid count t d h.0 h.1 r
built pid count (Some n) d h t e r = copied-whole (188 - length d) d t (omega (arith, h, e)) ∙ start-built pid count t d n h r
