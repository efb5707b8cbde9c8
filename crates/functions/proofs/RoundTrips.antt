-- The two round trips of a function's body, for every kind: reading what was written gives the function, and writing what
-- was read gives the body.
-- Assumes nothing.
use mathlib.Core.Path.{◌≡◌, refl, sym, ap, ◌∙◌}
use mathlib.Core.Bool.{Bool, true, false, ◌&&◌}
use mathlib.Core.List.{List, [], ◌∷◌}
use Prim.Native.Nat.{ℕ, zero, suc, ◌≤◌}
use native.Mathlib.Omega.{arith}
use lib.Dec.{ltb}
use lib.ListN.{length, get_or, take, get_or-eq_default}
use borrow.Author.Tests.{le-ltb, ltb-false, ne_eqb}
use Rattle.fields.specs.Formats.{pack, unpack, Fit, too_wide}
use Rattle.fields.specs.Numbers.{Bytes, number, bytes}
use Rattle.fields.specs.Parts.{overlay}
use Rattle.fields.proofs.FormatLaws.{unpack-fit, not-too-wide, fit-not-wide}
use Rattle.fields.proofs.NumberLaws.{number-bytes, length-bytes}
use Rattle.fields.proofs.PartLaws.{take-front}
use Rattle.refusals.specs.Checks.{first}
use Rattle.refusals.proofs.CheckLaws.{first-zero}
use Rattle.functions.proofs.Accepted.{Readable, readable, writable, read-shows, read-accepted, write-shows, write-accepted}
use Rattle.functions.proofs.BodyLaws.{signed_back, fields_back, number_small, number-forth, signed-forth, signed-within, fields-forth, one_byte}
use Rattle.functions.proofs.KindLaws.{sized, set-bit, bit-set, carried-is}
use Rattle.functions.specs.Tags.{Size, any, bodies, cell, bandwidth, body_long, unlike, body_wrong, value_reserved, bandwidth_reserved}
use Rattle.functions.specs.Function.{tag_of, field, is_set, known, function_of, cell_fields, bandwidth_fields, carries, body_of}
use Rattle.functions.specs.Read.{read_checks, function_read}
use Rattle.functions.specs.Write.{unfit, reserved, write_checks, Writable, write_of}
use Rattle.functions.specs.declared.Function.{Function}
use Rattle.functions.specs.declared.Function.TheVariants.{TimeOffset, FrequencyOffset, Power, Private, Cell, Enable, Bandwidth, Passed}

-- ---- reading what was written

-- a body is read as f
record Back (f : Function) (body : List ℕ) : Type 0 where
  pub size : body_wrong (tag_of f) (length body) ≡ false
  pub free : bandwidth_reserved (tag_of f) (get_or body 0 0) ≡ false
  pub same : function_of (tag_of f) body ≡ f

-- a bandwidth's value is in its body's one byte
value-first : (value : ℕ) (wait : Bool) (body : List ℕ) → length body ≡ 1 → unpack bandwidth (number body) ≡ bandwidth_fields value wait
    → bandwidth_reserved 6 (get_or body 0 0) ≡ value_reserved value
unfolding bandwidth_reserved
value-first value wait body h e =
    ap (λ (n : ℕ). value_reserved (get_or (unpack bandwidth n) 0 0)) (sym (one_byte body h)) ∙ ap (λ (l : List ℕ). value_reserved (get_or l 0 0)) e

back : (f : Function) (carried out : List ℕ) → Writable f carried out → Back f (body_of f carried)
unfolding body_wrong bandwidth_reserved function_of body_of unfit reserved
back (TimeOffset t) carried out w =
    record { size = ap (body_wrong 0) (length-bytes 2 _); free = refl; same = ap TimeOffset (signed_back 2 t (omega arith) w.fit) }
back (FrequencyOffset f) carried out w =
    record { size = ap (body_wrong 1) (length-bytes 3 _); free = refl; same = ap FrequencyOffset (signed_back 3 f (omega arith) w.fit) }
back (Power p) carried out w =
    record {
      size = ap (body_wrong 2) (length-bytes 2 _);
      free = refl;
      same = ap Power (number-bytes 2 p (not-too-wide (16 ∷ []) (p ∷ []) refl w.fit).0);
    }
back Private carried out w = record { size = refl; free = refl; same = refl }
back (Cell id wait rest) carried out w =
    let fit : Fit cell (cell_fields id wait rest) = not-too-wide cell (cell_fields id wait rest) refl w.fit in
    record {
      size = ap (body_wrong 4) (length-bytes 3 _);
      free = refl;
      same =
          ap (λ (l : List ℕ). Cell (get_or l 0 0) (is_set (get_or l 1 0)) (get_or l 2 0)) (fields_back cell (cell_fields id wait rest) 3 refl fit)
          ∙ ap (λ (b : Bool). Cell id b rest) (set-bit wait);
    }
back Enable carried out w = record { size = refl; free = refl; same = refl }
back (Bandwidth value wait) carried out w =
    let fs = bandwidth_fields value wait in
    let fit : Fit bandwidth fs = not-too-wide bandwidth fs refl w.fit in
    let e = fields_back bandwidth fs 1 refl fit in
    record {
      size = ap (body_wrong 6) (length-bytes 1 _);
      free = value-first value wait _ (length-bytes 1 _) e ∙ w.free;
      same =
          ap (λ (l : List ℕ). Bandwidth (get_or l 0 0) (is_set (get_or l 1 0))) e
          ∙ ap (Bandwidth value) (set-bit wait);
    }
back (Passed tag) carried out w =
    let h : 7 ≤ tag = ltb-false tag 7 w.fit in
    record {
      size = ap (λ (s : Size). unlike s (length carried)) (get_or-eq_default bodies any h);
      free = ap (λ (b : Bool). b && value_reserved (get_or (unpack bandwidth (get_or carried 0 0)) 0 0)) (ne_eqb tag 6 (λ e. omega arith));
      same = get_or-eq_default (known carried) (Passed tag) h;
    }

pub record ReadsBack (f : Function) (carried body : List ℕ) : Type 0 where
  pub function : function_read (tag_of f) body ≡ record { refusal = 0; function = f }
  pub bytes : carries f ≡ true → body ≡ carried

reads : (f : Function) (carried out : List ℕ) → Writable f carried out → ReadsBack f carried (body_of f carried)
unfolding read_checks
reads f carried out w =
    let body = body_of f carried in
    let b : Back f body = back f carried out w in
    record {
      function =
          read-accepted (tag_of f) body (first-zero (read_checks (tag_of f) body) (w.short, (b.size, (b.free, tt))))
          ∙ ap (λ (g : Function). record { refusal = 0; function = g }) b.same;
      bytes = carried-is f carried;
    }

-- THE FIRST ROUND TRIP: where a write is accepted, its bytes are read under the function's tag as the function
pub read-written : (f : Function) (carried out : List ℕ) → (write_of f carried out).answer.refusal ≡ 0
    → ReadsBack f carried (take (write_of f carried out).answer.bytes (write_of f carried out).out)
read-written f carried out e =
    let z : first (write_checks f carried (length out)) ≡ 0 = sym (write-shows f carried out) ∙ e in
    rw (write-accepted f carried out z, take-front (body_of f carried) out) (reads f carried out (writable f carried out z))

-- ---- writing what was read

-- f has the tag, and is written as the body
record Forth (t : ℕ) (body : List ℕ) (f : Function) : Type 0 where
  pub tag : tag_of f ≡ t
  pub fit : unfit f ≡ false
  pub free : reserved f ≡ false
  pub same : body_of f body ≡ body

cell_same : (n : ℕ) → cell_fields (get_or (unpack cell n) 0 0) (is_set (get_or (unpack cell n) 1 0)) (get_or (unpack cell n) 2 0) ≡ unpack cell n
unfolding unpack
cell_same n =
    ap (λ (x : ℕ). get_or (unpack cell n) 0 0 ∷ x ∷ get_or (unpack cell n) 2 0 ∷ []) (bit-set (get_or (unpack cell n) 1 0) (unpack-fit cell n).1.0)

bandwidth-same : (n : ℕ) → bandwidth_fields (get_or (unpack bandwidth n) 0 0) (is_set (get_or (unpack bandwidth n) 1 0)) ≡ unpack bandwidth n
unfolding unpack
bandwidth-same n =
    ap (λ (x : ℕ). get_or (unpack bandwidth n) 0 0 ∷ x ∷ []) (bit-set (get_or (unpack bandwidth n) 1 0) (unpack-fit bandwidth n).1.0)

forth : (tag : ℕ) (body : List ℕ) → Bytes body → Readable tag body → Forth tag body (function_of tag body)
unfolding bandwidth_reserved function_of body_of unfit reserved
forth zero body b r =
    let n = sized 0 2 (length body) refl r.size in
    record { tag = refl; fit = signed-within 2 body n b (omega arith); free = refl; same = signed-forth 2 body n b }
forth (suc zero) body b r =
    let n = sized 1 3 (length body) refl r.size in
    record { tag = refl; fit = signed-within 3 body n b (omega arith); free = refl; same = signed-forth 3 body n b }
forth (suc (suc zero)) body b r =
    let n = sized 2 2 (length body) refl r.size in
    record {
      tag = refl;
      fit = fit-not-wide (16 ∷ []) (number body ∷ []) (number_small 2 body n b, tt);
      free = refl;
      same = number-forth 2 body n b;
    }
forth (suc (suc (suc zero))) body b r = record { tag = refl; fit = refl; free = refl; same = refl }
forth (suc (suc (suc (suc zero)))) body b r =
    let n = sized 4 3 (length body) refl r.size in
    let e = cell_same (number body) in
    record {
      tag = refl;
      fit = ap (too_wide cell) e ∙ fit-not-wide cell (unpack cell (number body)) (unpack-fit cell (number body));
      free = refl;
      same = ap (λ (l : List ℕ). bytes 3 (pack cell l)) e ∙ fields-forth 3 body n b cell refl;
    }
forth (suc (suc (suc (suc (suc zero))))) body b r = record { tag = refl; fit = refl; free = refl; same = refl }
forth (suc (suc (suc (suc (suc (suc zero)))))) body b r =
    let n = sized 6 1 (length body) refl r.size in
    let e = bandwidth-same (number body) in
    record {
      tag = refl;
      fit = ap (too_wide bandwidth) e ∙ fit-not-wide bandwidth (unpack bandwidth (number body)) (unpack-fit bandwidth (number body));
      free = sym (value-first (field bandwidth 0 body) (is_set (field bandwidth 1 body)) body n (sym e)) ∙ r.free;
      same = ap (λ (l : List ℕ). bytes 1 (pack bandwidth l)) e ∙ fields-forth 1 body n b bandwidth refl;
    }
forth (suc (suc (suc (suc (suc (suc (suc tag))))))) body b r =
    record { tag = refl; fit = le-ltb (suc (suc (suc (suc (suc (suc (suc tag))))))) 7 (omega arith); free = refl; same = refl }

pub record WritesBack (t : ℕ) (body out : List ℕ) (f : Function) : Type 0 where
  pub tag : tag_of f ≡ t
  pub bytes : write_of f body out ≡ record { answer = record { refusal = 0; bytes = length body }; out = overlay 0 body out }

-- THE SECOND ROUND TRIP: what is read from a tag and a body has the tag, and is written as the same body
pub written_read : (tag : ℕ) (body out : List ℕ) → Bytes body → (function_read tag body).refusal ≡ 0 → length body ≤ length out
    → WritesBack tag body out (function_read tag body).function
unfolding write_checks
written_read tag body out b e h =
    let z : first (read_checks tag body) ≡ 0 = sym (read-shows tag body) ∙ e in
    let r : Readable tag body = readable tag body z in
    let f = function_of tag body in
    let w : Forth tag body f = forth tag body b r in
    rw (read-accepted tag body z)
    (record {
      tag = w.tag;
      bytes =
          write-accepted f body out
          (first-zero (write_checks f body (length out)) (
            w.fit,
            (
              ap (λ (l : List ℕ). body_long (length l)) w.same ∙ r.short,
              (w.free, (ap (λ (l : List ℕ). ltb (length out) (length l)) w.same ∙ le-ltb _ _ h, tt)),
            ),
          ))
          ∙ rw w.same;
    })
