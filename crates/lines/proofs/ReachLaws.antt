-- Runs in any order: what a program that reads, feeds and keeps the rest has reached, and what is printed where it ends.
-- Assumes nothing.
use mathlib.Core.Path.{◌≡◌, refl, sym, ap, ap₂, subst, ◌∙◌}
use mathlib.Core.Bool.{Bool, false}
use mathlib.Core.List.{List, [], ◌∷◌, ◌++◌, append_assoc, append-nil}
use Prim.Native.Nat.{ℕ, ◌+◌, ◌-◌, ◌*◌, ◌≤◌, ◌<◌}
use native.Mathlib.Nat.{zero-add}
use native.Mathlib.Omega.{arith}
use lib.ListN.{length, take, drop, replicate, length-replicate}
use lib.Seq.{length-take-le, take-add}
use borrow.Author.Tests.{le-ltb}
use Rattle.fields.specs.Numbers.{Bytes}
use Rattle.fields.specs.Parts.{part, overlay}
use Rattle.fields.proofs.Cases.{cases, true≢false}
use Rattle.fields.proofs.NumberLaws.{bytes-append, bytes_drop}
use Rattle.fields.proofs.PartLaws.{drop-part, take-front}
use Rattle.text.specs.Laid.{Filled}
use Rattle.lines.specs.Lines.{head_line}
use Rattle.lines.specs.Pieces.{pieces, leftover, kept_of}
use Rattle.lines.specs.Listing.{start_listing, Stepped, step_of, Feeding, fed_of}
use Rattle.lines.specs.Theorems.{listing_of, listing_of_bytes, Run, feed_on, wrote_on, brought, ended, Ample, Ran, begins, reads, feeds, opened, Reached, Ends}
use Rattle.lines.specs.declared.Listing.{Listing}
use Rattle.lines.proofs.PieceLaws.{pieces_none, leftover-none, pieces-within, pieces-append, leftover-append, each-piece}
use Rattle.lines.proofs.CallSound.{Sound}
use Rattle.lines.proofs.Told.{Told, told, told-append, Went, fed-went}
use Rattle.lines.proofs.RunLaws.{After, pieces-next, leftover-next, room_next, bytes-front, bytes_back, start-sound, after-prints, zeros-bytes}

-- ---- how the program begins and ends

pub reach-start : (g o lines : List ℕ) (l : Listing) → l ≡ start_listing → Reached (opened g o lines) l g o lines []
reach-start g o lines l e =
    subst (λ (x : Listing). Reached (opened g o lines) x g o lines []) (sym e) (record { bytes = []; written = head_line; ran = begins })

module _ (from : Run) (l : Listing) (g o lines rest : List ℕ) (k : Reached from l g o lines rest) where
  pub ends-short : (whole : Bool) → length rest < 188 → Ends from l g o lines whole
  ends-short whole h = record { rest = rest; reached = k; short = λ e. h }

  pub ends-broken : Ends from l g o lines false
  ends-broken = record { rest = rest; reached = k; short = λ e. absurd (true≢false (sym e)) }

-- ---- a turn of the program

module _ (from : Run) (l : Listing) (g o lines rest : List ℕ) (k : Reached from l g o lines rest) where
  pub reach-read : (chunk : List ℕ) → Reached from l g o lines (rest ++ chunk)
  reach-read chunk = record { bytes = k.bytes ++ chunk; written = k.written; ran = reads k.bytes _ chunk k.ran }

  pub reach-fed : (f : Feeding) → f ≡ fed_of (pieces rest) l g o lines 0 0
      → Reached from f.answer.listing f.gathering f.output f.lines (drop f.answer.taken rest)
  reach-fed f e =
      subst (λ (x : Feeding). Reached from x.answer.listing x.gathering x.output x.lines (drop x.answer.taken rest)) (sym e)
      (record { bytes = k.bytes; written = _; ran = feeds k.bytes _ k.ran })

-- what is kept is what waits
pub kept-front : (at have : ℕ) (b : List ℕ) (n : ℕ) (m : List ℕ) → at ≤ have → have ≤ length b → record { at = n; lines = m } ≡ kept_of at have b → take n m ≡ drop at (take have b)
unfolding kept_of part
kept-front at have b n m h w e =
    let p : List ℕ = part at (have - at) b in
    let z : n ≡ 0 + length p = ap (λ (f : Filled). f.at) e ∙ rw (le-ltb (length b) have w) refl in
    let y : m ≡ overlay 0 p b = ap (λ (f : Filled). f.lines) e ∙ rw (le-ltb (length b) have w) refl in
    ap₂ (λ (j : ℕ) (x : List ℕ). take j x) (z ∙ zero-add (length p)) y
    ∙ take-front p b
    ∙ ap (λ (j : ℕ). part j (have - at) b) (sym (zero-add at))
    ∙ sym (drop-part 0 have at b h)

-- no more is taken than there is
taken-most : (ps : List (List ℕ)) (l : Listing) (g o lines : List ℕ) (taken filled : ℕ) → (fed_of ps l g o lines taken filled).answer.taken ≤ taken + 188 * length ps
unfolding fed_of
taken-most [] l g o lines taken filled = omega arith
taken-most (p ∷ ps) l g o lines taken filled =
    let s : Stepped = step_of l p g o lines filled in
    cases s.answer.full
    (λ h. rw h (omega arith))
    (λ h. rw h (omega (arith, taken-most ps s.answer.listing s.gathering s.output s.lines (taken + 188) s.answer.filled)))

module _ (d : List ℕ) (l : Listing) (g o lines : List ℕ) (f : Feeding) (e : f ≡ fed_of (pieces d) l g o lines 0 0) where
  pub fed-within : f.answer.taken ≤ length d
  fed-within =
      let n : 188 * length (pieces d) ≤ length d = pieces-within d in
      rw e (omega (arith, taken-most (pieces d) l g o lines 0 0))

-- as the program's loop has it: the first `have` bytes of a block wait
module _ (from : Run) (l : Listing) (g o lines b : List ℕ) (have : ℕ) (k : Reached from l g o lines (take have b)) where
  pub reach-more : (c : List ℕ) (more : ℕ) → have ≤ more → take have c ≡ take have b → Reached from l g o lines (take more c)
  reach-more c more h e =
      let n : have + (more - have) ≡ more = omega arith in
      let t : take have b ++ take (more - have) (drop have c) ≡ take more c =
      ap (λ (x : List ℕ). x ++ take (more - have) (drop have c)) (sym e) ∙ sym (take-add have (more - have) c) ∙ ap (λ (j : ℕ). take j c) n in
      subst (λ (x : List ℕ). Reached from l g o lines x) t (reach-read from l g o lines (take have b) k (take (more - have) (drop have c)))

  module _ (w : have ≤ length b) (f : Feeding) (e : f ≡ fed_of (pieces (take have b)) l g o lines 0 0) (n : ℕ) (m : List ℕ) (q : record { at = n; lines = m } ≡ kept_of f.answer.taken have b) where
    within : f.answer.taken ≤ have
    within = omega (arith, fed-within (take have b) l g o lines f e, length-take-le have b w)

    pub reach-kept : Reached from f.answer.listing f.gathering f.output f.lines (take n m)
    reach-kept =
        subst (λ (x : List ℕ). Reached from f.answer.listing f.gathering f.output f.lines x) (sym (kept-front f.answer.taken have b n m within w q))
        (reach-fed from l g o lines (take have b) k f e)

-- ---- what is printed after any run

-- between two turns: some pieces of the bytes are gone, and those that wait are the others
record Between (g d : List ℕ) (e : Run) : Type 0 where
  gone : List (List ℕ)
  cut : pieces d ≡ gone ++ pieces e.rest
  left : leftover d ≡ leftover e.rest
  bytes : Bytes e.rest
  listing : e.listing ≡ (told gone start_listing g).listing
  gathering : e.gathering ≡ (told gone start_listing g).gathering
  written : e.written ≡ head_line ++ (told gone start_listing g).text
  sound : Sound e.listing.reader e.gathering e.output
  room : 2 * length e.output ≤ length e.lines

module _ (g d : List ℕ) (e : Run) (b : Between g d e) where
  between-read : (chunk : List ℕ) → Bytes chunk → Between g (d ++ chunk) (brought chunk e)
  between-read chunk bc =
      record {
        gone = b.gone;
        cut = pieces-append chunk d
            ∙ ap₂ (λ (ps : List (List ℕ)) (l : List ℕ). ps ++ pieces (l ++ chunk)) b.cut b.left
            ∙ append_assoc b.gone (pieces e.rest) (pieces (leftover e.rest ++ chunk))
            ∙ ap (λ (ps : List (List ℕ)). b.gone ++ ps) (sym (pieces-append chunk e.rest));
        left = leftover-append chunk d ∙ ap (λ (l : List ℕ). leftover (l ++ chunk)) b.left ∙ sym (leftover-append chunk e.rest);
        bytes = bytes-append e.rest chunk b.bytes bc;
        listing = b.listing;
        gathering = b.gathering;
        written = b.written;
        sound = b.sound;
        room = b.room;
      }

  between-fed : Between g d (wrote_on e (feed_on e))
  between-fed =
      let w : Went (pieces e.rest) e.listing e.gathering e.output e.lines 0 0 (feed_on e) =
      fed-went (pieces e.rest) (each-piece e.rest b.bytes) e.listing e.gathering e.output e.lines 0 0 b.sound (omega arith) in
      let before : Told = told b.gone start_listing g in
      let more : Told = told w.gone e.listing e.gathering in
      let x : told w.gone before.listing before.gathering ≡ more = λ i. told w.gone (sym b.listing i) (sym b.gathering i) in
      let whole : told (b.gone ++ w.gone) start_listing g ≡ record { listing = more.listing; gathering = more.gathering; text = before.text ++ more.text } =
      told-append b.gone w.gone start_listing g ∙ ap (λ (t : Told). record { listing = t.listing; gathering = t.gathering; text = before.text ++ t.text }) x in
      record {
        gone = b.gone ++ w.gone;
        cut = b.cut
            ∙ ap (λ (ps : List (List ℕ)). b.gone ++ ps) w.all
            ∙ sym (append_assoc b.gone w.gone w.left)
            ∙ ap (λ (ps : List (List ℕ)). (b.gone ++ w.gone) ++ ps) (sym (pieces-next e w));
        left = b.left ∙ sym (leftover-next e w);
        bytes = bytes_drop (feed_on e).answer.taken e.rest b.bytes;
        listing = w.listing ∙ sym (ap (λ (t : Told). t.listing) whole);
        gathering = w.gathering ∙ sym (ap (λ (t : Told). t.gathering) whole);
        written = ap₂ (λ (l m : List ℕ). l ++ m) b.written w.text
            ∙ append_assoc head_line before.text more.text
            ∙ sym (ap (λ (t : Told). head_line ++ t.text) whole);
        sound = w.sound;
        room = room_next e w b.room;
      }

  -- where no piece is left
  between-after : length e.rest < 188 → After g d e
  between-after h =
      let all : b.gone ≡ pieces d =
      sym (append-nil b.gone) ∙ ap (λ (ps : List (List ℕ)). b.gone ++ ps) (sym (pieces_none e.rest h)) ∙ sym b.cut in
      let t : told b.gone start_listing g ≡ told (pieces d) start_listing g = ap (λ (ps : List (List ℕ)). told ps start_listing g) all in
      record {
        listing = b.listing ∙ ap (λ (x : Told). x.listing) t;
        gathering = b.gathering ∙ ap (λ (x : Told). x.gathering) t;
        written = b.written ∙ ap (λ (x : Told). head_line ++ x.text) t;
        rest = sym (b.left ∙ leftover-none e.rest h);
        sound = b.sound;
        room = b.room;
      }

module _ (g o lines : List ℕ) (bytes : Bytes g) (ample : Ample g o lines) where
  between-ran : (d : List ℕ) (e : Run) → Ran (opened g o lines) d e → Bytes d → Between g d e
  between-ran d e begins b =
      record {
        gone = [];
        cut = refl;
        left = refl;
        bytes = b;
        listing = refl;
        gathering = refl;
        written = sym (append-nil head_line);
        sound = start-sound g o lines bytes ample;
        room = ample.lays;
      }
  between-ran d e (reads d' e' chunk r) b = between-read g d' e' (between-ran d' e' r (bytes-front d' chunk b)) chunk (bytes_back d' chunk b)
  between-ran d e (feeds d' e' r) b = between-fed g d' e' (between-ran d' e' r b)

-- after the header, any run, and the totals where no piece is left: 01's listing of all bytes that were read
pub run-prints : (output lines d : List ℕ) (e : Run) → 8385 ≤ length output → 2 * length output ≤ length lines → Bytes d
    → Ran (opened (replicate 8202 0) output lines) d e → length e.rest < 188 → (ended e).written ≡ listing_of_bytes d
unfolding listing_of_bytes listing_of
run-prints output lines d e h k b r short =
    let g : List ℕ = replicate 8202 0 in
    after-prints g d e (between-after g d e (between-ran g output lines (zeros-bytes 8202) (record { gathers = rw (length-replicate {A = ℕ} 8202 0) (omega arith); hands = h; lays = k }) d e r b) short)
