-- What a reader finds in a transport packet of the writer's.
-- Assumes nothing.
use mathlib.Core.Path.{◌≡◌, refl, sym, ap, ap₂, ◌∙◌}
use mathlib.Core.Bool.{false, not}
use mathlib.Core.List.{List, [], ◌∷◌, ◌++◌, append_assoc}
use Prim.Native.Nat.{ℕ, zero, suc, ◌+◌, ◌-◌, ◌≤◌, ◌<◌}
use native.Mathlib.Nat.{add-zero}
use native.Mathlib.Omega.{arith}
use lib.Dec.{eqb, lit<}
use lib.ListN.{length, get_or, take, drop, length-append, length-replicate}
use lib.Seq.{take_at, drop_at, drop-drop, get_or_at, get_or-append-add}
use borrow.Author.Tests.{le-ltb, lt-leb, eq-eqb}
use Rattle.fields.specs.Formats.{pack, Fit}
use Rattle.fields.specs.Numbers.{number, bytes}
use Rattle.fields.proofs.FormatLaws.{pack-lt, unpack-pack}
use Rattle.fields.proofs.NumberLaws.{number-bytes, length-bytes}
use Rattle.transport.specs.Header.{header, header_field, start_bit_of, count_of, payload_at, pointer_of, carried_at, carried_by}
use Rattle.transport.specs.Tests.{sync_wrong, error_marked, another_pid, scrambled, no_payload, field_long, pointer_beyond}
use Rattle.transport.specs.Load.{Load, plain, start, load_bytes, adaptation, control_for, head_bytes, transport_of}

-- ---- the adaptation field

pub length-adaptation : (room : ℕ) → length (adaptation room) ≡ room
length-adaptation zero = refl
length-adaptation (suc zero) = refl
length-adaptation (suc (suc n)) = ap (λ (k : ℕ). suc (suc k)) (length-replicate n 0xFF)

-- its first byte is its length but one
field-length : (n : ℕ) (l : List ℕ) → get_or (adaptation (suc n) ++ l) 0 0 ≡ n
field-length zero l = refl
field-length (suc n) l = refl

control-lt : (room : ℕ) → control_for room < 4
control-lt zero = lit< tt
control-lt (suc n) = lit< tt

-- ---- a header in front of anything

four-taken : (t : List ℕ) → 4 ≤ length t → get_or t 0 0 ∷ get_or t 1 0 ∷ get_or t 2 0 ∷ get_or t 3 0 ∷ [] ≡ take 4 t
four-taken [] h = absurd (omega arith)
four-taken (a ∷ []) h = absurd (omega arith)
four-taken (a ∷ b ∷ []) h = absurd (omega arith)
four-taken (a ∷ b ∷ c ∷ []) h = absurd (omega arith)
four-taken (a ∷ b ∷ c ∷ d ∷ t) h = refl

abbrev values : ℕ → ℕ → ℕ → ℕ → List ℕ
values pid begins count room = 0x47 ∷ 0 ∷ begins ∷ 0 ∷ pid ∷ 0 ∷ control_for room ∷ count ∷ []

module _ (pid begins count room : ℕ) (rest : List ℕ) where
  abbrev four : List ℕ
  four = bytes 4 (pack header (values pid begins count room))

  abbrev t : List ℕ
  t = head_bytes pid begins count room ++ rest

  parts : t ≡ four ++ (adaptation room ++ rest)
  unfolding head_bytes
  parts = append_assoc four (adaptation room) rest

  length-four : length four ≡ 4
  length-four = length-bytes 4 _

  pub length-head : length t ≡ 4 + room + length rest
  length-head = ap length parts ∙ simp (length-append, length-four, length-adaptation) (omega arith)

  behind : drop (4 + room) t ≡ rest
  unfolding head_bytes
  behind = drop_at (four ++ adaptation room) rest (4 + room) (length-append four (adaptation room) ∙ ap₂ ◌+◌ length-four (length-adaptation room))

  module _ (hp : pid < 8192) (hb : begins < 2) (hc : count < 16) where
    fit : Fit header (values pid begins count room)
    fit = (lit< tt, (lit< tt, (hb, (lit< tt, (hp, (lit< tt, (control-lt room, (hc, tt))))))))

    number-head : number (get_or t 0 0 ∷ get_or t 1 0 ∷ get_or t 2 0 ∷ get_or t 3 0 ∷ []) ≡ pack header (values pid begins count room)
    number-head =
        ap number (four-taken t (rw length-head (omega arith)) ∙ ap (take 4) parts ∙ take_at four (adaptation room ++ rest) 4 length-four)
        ∙ number-bytes 4 (pack header (values pid begins count room)) (pack-lt header (values pid begins count room) fit)

    pub head-field : (i : ℕ) → header_field i t ≡ get_or (values pid begins count room) i 0
    unfolding header_field
    head-field i = rw (number-head, unpack-pack header (values pid begins count room) fit)

    pub first-behind : (n : ℕ) → room ≡ suc n → get_or t 4 0 ≡ n
    first-behind n e =
        ap (λ (l : List ℕ). get_or l 4 0) parts
        ∙ ap (λ (k : ℕ). get_or (four ++ (adaptation room ++ rest)) k 0) (sym (add-zero 4) ∙ ap (λ (k : ℕ). k + 0) (sym length-four))
        ∙ get_or-append-add four (adaptation room ++ rest) 0 0
        ∙ ap (λ (k : ℕ). get_or (adaptation k ++ rest) 0 0) e
        ∙ field-length n rest

    pub head-payload : payload_at t ≡ 4 + room
    unfolding payload_at
    head-payload = go room refl
      where
        go : (r : ℕ) → room ≡ r → payload_at t ≡ 4 + room
        go zero e = rw (head-field 6, e)
        go (suc n) e = rw (head-field 6, first-behind n e, e) (omega arith)

    pub head-field-short : room ≤ 183 → field_long t ≡ false
    unfolding field_long
    head-field-short h = go room refl
      where
        go : (r : ℕ) → room ≡ r → field_long t ≡ false
        go zero e = rw (head-field 6, e)
        go (suc n) e = rw (head-field 6, first-behind n e, e) (le-ltb 182 n (omega arith))

    pub head-has-payload : no_payload t ≡ false
    head-has-payload = go room refl
      where
        go : (r : ℕ) → room ≡ r → no_payload t ≡ false
        go zero e = rw (head-field 6, e)
        go (suc n) e = rw (head-field 6, e)

-- ---- the packets of the writer's

-- what a load may hold: a byte at least, and a pointer that aims at one of its bytes
pub data Sound : Load → Type 0 where
  sound-plain : {d : List ℕ} → 1 ≤ length d → length d ≤ 184 → Sound (plain d)
  sound-start : {n : ℕ} {d : List ℕ} → n < length d → length d ≤ 183 → Sound (start n d)

abbrev pub begins : Load → ℕ
begins (plain d) = 0
begins (start n d) = 1

pub transport-length : (pid count : ℕ) (l : Load) → Sound l → length (transport_of pid count l) ≡ 188
unfolding transport_of
transport-length pid count (plain d) (sound-plain a b) = length-head pid 0 count (184 - length d) d ∙ omega arith
transport-length pid count (start n d) (sound-start a b) = length-head pid 1 count (183 - length d) (n ∷ d) ∙ omega arith

-- the pointer is the payload's first byte
pointed-at : (pid begins count room n : ℕ) (d : List ℕ) → get_or (head_bytes pid begins count room ++ (n ∷ d)) (4 + room) 0 ≡ n
pointed-at pid begins count room n d =
    get_or_at (head_bytes pid begins count room) n d 0 (4 + room) (omega (arith, simp length-append at (length-head pid begins count room [])))

pub pointer_is : (pid count n : ℕ) (d : List ℕ) → pid < 8192 → count < 16 → pointer_of (transport_of pid count (start n d)) ≡ n
unfolding transport_of
pointer_is pid count n d hp hc =
    rw (head-payload pid 1 count (183 - length d) (n ∷ d) hp (lit< tt) hc) (pointed-at pid 1 count (183 - length d) n d)

-- what a reader finds in one, and that no check of 5 to 11 holds of it
pub record Found (pid count : ℕ) (l : Load) : Type 0 where
  pub sync : sync_wrong (transport_of pid count l) ≡ false
  pub error : error_marked (transport_of pid count l) ≡ false
  pub same-pid : another_pid pid (transport_of pid count l) ≡ false
  pub plainly : scrambled (transport_of pid count l) ≡ false
  pub payload : no_payload (transport_of pid count l) ≡ false
  pub room : field_long (transport_of pid count l) ≡ false
  pub aims : pointer_beyond (transport_of pid count l) ≡ false
  pub counted : count_of (transport_of pid count l) ≡ count
  pub begun : start_bit_of (transport_of pid count l) ≡ begins l
  pub carries : carried_by (transport_of pid count l) ≡ load_bytes l

pub found : (pid count : ℕ) (l : Load) → pid < 8192 → count < 16 → Sound l → Found pid count l
unfolding transport_of pointer_beyond carried_by carried_at
found pid count (plain d) hp hc (sound-plain a b) =
    let k : ℕ = 184 - length d in
    let at = head-field pid 0 count k d hp (lit< tt) hc in
    record {
      sync = ap (λ (x : ℕ). not (eqb x 0x47)) (at 0);
      error = ap (λ (x : ℕ). eqb x 1) (at 1);
      same-pid = ap (λ (x : ℕ). not (eqb x pid)) (at 4) ∙ ap not (eq-eqb pid pid refl);
      plainly = ap (λ (x : ℕ). not (eqb x 0)) (at 5);
      payload = head-has-payload pid 0 count k d hp (lit< tt) hc;
      room = head-field-short pid 0 count k d hp (lit< tt) hc (omega arith);
      aims = rw (at 2);
      counted = at 7;
      begun = at 2;
      carries = rw (at 2, head-payload pid 0 count k d hp (lit< tt) hc) (behind pid 0 count k d);
    }
found pid count (start n d) hp hc (sound-start a b) =
    let k : ℕ = 183 - length d in
    let at = head-field pid 1 count k (n ∷ d) hp (lit< tt) hc in
    let p = head-payload pid 1 count k (n ∷ d) hp (lit< tt) hc in
    let q = pointed-at pid 1 count k n d in
    record {
      sync = ap (λ (x : ℕ). not (eqb x 0x47)) (at 0);
      error = ap (λ (x : ℕ). eqb x 1) (at 1);
      same-pid = ap (λ (x : ℕ). not (eqb x pid)) (at 4) ∙ ap not (eq-eqb pid pid refl);
      plainly = ap (λ (x : ℕ). not (eqb x 0)) (at 5);
      payload = head-has-payload pid 1 count k (n ∷ d) hp (lit< tt) hc;
      room = head-field-short pid 1 count k (n ∷ d) hp (lit< tt) hc (omega arith);
      aims = rw (at 2, p, q) (lt-leb 188 (4 + k + 1 + n) (omega arith));
      counted = at 7;
      begun = at 2;
      carries = rw (at 2, p, ← drop-drop 1 (4 + k) (head_bytes pid 1 count k ++ (n ∷ d))) (ap (drop 1) (behind pid 1 count k (n ∷ d)));
    }
