-- A whole listing: whatever the reads bring, and wherever the lines are written out between, what is printed is the listing of
-- all bytes.
-- Assumes nothing.
use mathlib.Core.Path.{◌≡◌, refl, sym, ap, ap₂, subst, ◌∙◌}
use mathlib.Core.Bool.{true, false}
use mathlib.Core.List.{List, [], ◌∷◌, ◌++◌, append_assoc, append-nil}
use Prim.Native.Nat.{ℕ, zero, suc, ◌+◌, ◌*◌, ◌/◌, ◌^◌, ◌≤◌, ◌<◌}
use native.Mathlib.Nat.{add-zero, zero-add, add_assoc}
use native.Mathlib.Omega.{arith}
use lib.Dec.{lit<}
use lib.ListN.{length, get_or, take, drop, replicate, length-append, length-replicate}
use lib.Seq.{drop-drop, take-append_seam, drop-append_seam}
use borrow.Author.Tests.{le-leb}
use Rattle.fields.specs.Numbers.{Bytes}
use Rattle.fields.specs.Parts.{overlay}
use Rattle.fields.proofs.Cases.{cases}
use Rattle.fields.proofs.NumberLaws.{bytes-append, bytes_take, bytes_drop}
use Rattle.fields.proofs.PartLaws.{length-overlay, take-front}
use Rattle.refusals.specs.Checks.{◌when◌, first}
use Rattle.transport.specs.Header.{count_of}
use Rattle.transport.specs.Tests.{pid_outside, transport_checks}
use Rattle.gather.specs.State.{repeats}
use Rattle.gather.specs.Gather.{Outcome, gather_of}
use Rattle.gather.specs.Calls.{calls_of, lent, handed_by, handed_all, marks_all}
use Rattle.gather.proofs.StateLaws.{fresh-fit}
use Rattle.gather.proofs.CallLaws.{call-number}
use Rattle.text.specs.Laid.{space, newline, appended}
use Rattle.text.proofs.LayLaws.{appended-fits, word-few}
use Rattle.lines.specs.Lines.{head_line, line_of, lines_of, last_line}
use Rattle.lines.specs.Pieces.{pieces, leftover}
use Rattle.lines.specs.Listing.{listed_pid, start_listing, capped, bit, after_of, roomy}
use Rattle.lines.specs.Theorems.{losses, text_of, listing_of, listing_of_bytes, Run, feed_on, wrote_on, fed_up, brought, took, took_all, all_bytes, begun, ended, Ample}
use Rattle.lines.specs.declared.Listing.{Listing}
use Rattle.lines.proofs.PieceLaws.{pieces_none, leftover-none, pieces-append, leftover-append, leftover-is, pieces-from, each-piece}
use Rattle.lines.proofs.StepLaws.{capped_same}
use Rattle.lines.proofs.CallSound.{Sound, only-carriage}
use Rattle.lines.proofs.Told.{Told, called, told, told-append, Went, fed-went}

-- ---- what pieces tell, in the words of the reader's calls

lines-append : (ps qs : List (List ℕ)) → lines_of (ps ++ qs) ≡ lines_of ps ++ lines_of qs
unfolding lines_of
lines-append [] qs = refl
lines-append (p ∷ ps) qs = ap (λ (l : List ℕ). line_of p ++ l) (lines-append ps qs) ∙ sym (append_assoc (line_of p) (lines_of ps) (lines_of qs))

capped-add : (n m : ℕ) → capped (capped n + m) ≡ capped (n + m)
unfolding capped
capped-add n m = omega arith

abbrev pub answers_to : List (List ℕ) → Listing → List ℕ → List Outcome
answers_to ps l g = calls_of l.reader g (lent (λ n. replicate 8385 0) ps)

record Tells (ps : List (List ℕ)) (l : Listing) (g : List ℕ) (n m : ℕ) : Type 0 where
  packets : (told ps l g).listing.packets ≡ capped (n + length (handed_all (answers_to ps l g)))
  gaps : (told ps l g).listing.gaps ≡ capped (m + losses (marks_all (answers_to ps l g)))
  text : (told ps l g).text ≡ lines_of (handed_all (answers_to ps l g))

tells : (ps : List (List ℕ)) (l : Listing) (g : List ℕ) (n m : ℕ) → l.packets ≡ capped n → l.gaps ≡ capped m → Tells ps l g n m
unfolding losses lines_of
tells [] l g n m p q = record { packets = p ∙ ap capped (sym (add-zero n)); gaps = q ∙ ap capped (sym (add-zero m)); text = refl }
tells (t ∷ ps) l g n m p q =
    let a : Outcome = called l g t in
    let next : Listing = after_of l a.answer in
    let more : List Outcome = answers_to ps next a.gathering in
    let pn : next.packets ≡ capped (n + length (handed_by a)) =
    ap (λ (k : ℕ). capped (k + a.answer.packets)) p ∙ capped-add n a.answer.packets ∙ ap (λ (k : ℕ). capped (n + k)) (call-number l.reader t g (replicate 8385 0)) in
    let qn : next.gaps ≡ capped (m + bit a.answer.marks.loss) =
    ap (λ (k : ℕ). capped (k + bit a.answer.marks.loss)) q ∙ capped-add m (bit a.answer.marks.loss) in
    let r : Tells ps next a.gathering (n + length (handed_by a)) (m + bit a.answer.marks.loss) = tells ps next a.gathering _ _ pn qn in
    let x : n + length (handed_by a) + length (handed_all more) ≡ n + length (handed_by a ++ handed_all more) = omega (arith, length-append (handed_by a) (handed_all more)) in
    record {
      packets = r.packets ∙ ap capped x;
      gaps = r.gaps ∙ ap capped (add_assoc m (bit a.answer.marks.loss) (losses (marks_all more)));
      text = ap (λ (l : List ℕ). lines_of (handed_by a) ++ l) r.text ∙ sym (lines-append (handed_by a) (handed_all more));
    }

-- ---- feeding until it is not full

-- all pieces that waited are told, and the cut one waits
record Emptied (r e : Run) : Type 0 where
  listing : e.listing ≡ (told (pieces r.rest) r.listing r.gathering).listing
  gathering : e.gathering ≡ (told (pieces r.rest) r.listing r.gathering).gathering
  written : e.written ≡ r.written ++ (told (pieces r.rest) r.listing r.gathering).text
  rest : e.rest ≡ leftover r.rest
  sound : Sound e.listing.reader e.gathering e.output
  room : 2 * length e.output ≤ length e.lines

emptied-none : (r : Run) → Sound r.listing.reader r.gathering r.output → 2 * length r.output ≤ length r.lines → pieces r.rest ≡ [] → Emptied r r
emptied-none r k room e =
    let t : told (pieces r.rest) r.listing r.gathering ≡ record { listing = r.listing; gathering = r.gathering; text = [] } =
    ap (λ (ps : List (List ℕ)). told ps r.listing r.gathering) e in
    record {
      listing = sym (ap (λ (x : Told). x.listing) t);
      gathering = sym (ap (λ (x : Told). x.gathering) t);
      written = sym (ap (λ (x : Told). r.written ++ x.text) t ∙ append-nil r.written);
      rest = sym (leftover-is r.rest ∙ ap (λ (ps : List (List ℕ)). drop (188 * length ps) r.rest) e);
      sound = k;
      room = room;
    }

some-gone : (ps : List (List ℕ)) → (ps ≡ [] → ⊥) → 0 < length ps
some-gone [] h = absurd (h refl)
some-gone (p ∷ ps) h = omega arith

module _ (r : Run) (d : Went (pieces r.rest) r.listing r.gathering r.output r.lines 0 0 (feed_on r)) where
  abbrev pub next : Run
  next = wrote_on r (feed_on r)

  rest-next : next.rest ≡ drop (188 * length d.gone) r.rest
  rest-next = ap (λ (n : ℕ). drop n r.rest) (d.bytes ∙ zero-add (188 * length d.gone))

  pub pieces-next : pieces next.rest ≡ d.left
  pieces-next = ap pieces rest-next ∙ pieces-from d.gone d.left r.rest d.all

  pub leftover-next : leftover next.rest ≡ leftover r.rest
  leftover-next =
      let n : 188 * length (pieces r.rest) ≡ 188 * length d.gone + 188 * length d.left =
      omega (arith, ap length d.all, length-append d.gone d.left) in
      leftover-is next.rest
      ∙ ap₂ (λ (ps : List (List ℕ)) (l : List ℕ). drop (188 * length ps) l) pieces-next rest-next
      ∙ drop-drop (188 * length d.left) (188 * length d.gone) r.rest
      ∙ ap (λ (k : ℕ). drop k r.rest) (sym n)
      ∙ sym (leftover-is r.rest)

  abbrev later : Told
  later = told (pieces next.rest) next.listing next.gathering

  -- what was gone is told, and then what is left
  told-next : told (pieces r.rest) r.listing r.gathering ≡ record { listing = later.listing; gathering = later.gathering; text = (told d.gone r.listing r.gathering).text ++ later.text }
  told-next =
      let g : List ℕ = (told d.gone r.listing r.gathering).gathering in
      let x : told d.left (told d.gone r.listing r.gathering).listing g ≡ later =
      λ i. told (sym pieces-next i) (sym d.listing i) (sym d.gathering i) in
      ap (λ (ps : List (List ℕ)). told ps r.listing r.gathering) d.all
      ∙ told-append d.gone d.left r.listing r.gathering
      ∙ ap (λ (t : Told). record { listing = t.listing; gathering = t.gathering; text = (told d.gone r.listing r.gathering).text ++ t.text }) x

  emptied-next : (e : Run) → Emptied next e → Emptied r e
  emptied-next e m =
      record {
        listing = m.listing ∙ sym (ap (λ (t : Told). t.listing) told-next);
        gathering = m.gathering ∙ sym (ap (λ (t : Told). t.gathering) told-next);
        written = m.written
            ∙ ap (λ (x : List ℕ). (r.written ++ x) ++ later.text) d.text
            ∙ append_assoc r.written (told d.gone r.listing r.gathering).text later.text
            ∙ sym (ap (λ (t : Told). r.written ++ t.text) told-next);
        rest = m.rest ∙ leftover-next;
        sound = m.sound;
        room = m.room;
      }

  pub room_next : 2 * length r.output ≤ length r.lines → 2 * length next.output ≤ length next.lines
  room_next h = omega (arith, d.space, d.room)

  -- where the lines were full they had room for one piece at least
  fewer : 2 * length r.output ≤ length r.lines → (feed_on r).answer.full ≡ true → length d.left < length (pieces r.rest)
  unfolding roomy
  fewer h f =
      let some : 0 < length d.gone = some-gone d.gone (λ e. d.stops f e (le-leb (0 + 2 * length r.output) (length r.lines) (omega arith))) in
      omega (arith, ap length d.all, length-append d.gone d.left)

fed-up : (k : ℕ) (r : Run) → Bytes r.rest → Sound r.listing.reader r.gathering r.output → 2 * length r.output ≤ length r.lines → length (pieces r.rest) < k → Emptied r (fed_up k r)
unfolding fed_up
fed-up zero r b s room h = absurd (omega arith)
fed-up (suc k) r b s room h =
    let d : Went (pieces r.rest) r.listing r.gathering r.output r.lines 0 0 (feed_on r) =
    fed-went (pieces r.rest) (each-piece r.rest b) r.listing r.gathering r.output r.lines 0 0 s (omega arith) in
    cases (feed_on r).answer.full
    (λ f. rw f (emptied-next r d (fed_up k (next r d)) (fed-up k (next r d) (bytes_drop (feed_on r).answer.taken r.rest b) d.sound (room_next r d room) (rw (pieces-next r d) (omega (arith, fewer r d room f))))))
    (λ f. rw f (emptied-next r d (next r d) (emptied-none (next r d) d.sound (room_next r d room) (pieces-next r d ∙ d.ends f))))

-- ---- whatever the reads bring

-- after the bytes d
pub record After (g d : List ℕ) (r : Run) : Type 0 where
  pub listing : r.listing ≡ (told (pieces d) start_listing g).listing
  pub gathering : r.gathering ≡ (told (pieces d) start_listing g).gathering
  pub written : r.written ≡ head_line ++ (told (pieces d) start_listing g).text
  pub rest : r.rest ≡ leftover d
  pub sound : Sound r.listing.reader r.gathering r.output
  pub room : 2 * length r.output ≤ length r.lines

pub bytes-front : (l m : List ℕ) → Bytes (l ++ m) → Bytes l
bytes-front l m b i = subst (λ (x : List ℕ). get_or x i 0 < 256) (take-append_seam l m) (bytes_take (length l) (l ++ m) b i)

pub bytes_back : (l m : List ℕ) → Bytes (l ++ m) → Bytes m
bytes_back l m b i = subst (λ (x : List ℕ). get_or x i 0 < 256) (drop-append_seam l m) (bytes_drop (length l) (l ++ m) b i)

module _ (g d : List ℕ) (r : Run) (a : After g d r) (c : List ℕ) (b : Bytes (d ++ c)) where
  rest-bytes : Bytes (r.rest ++ c)
  unfolding leftover
  rest-bytes = bytes-append r.rest c (rw a.rest (bytes_drop (188 * (length d / 188)) d (bytes-front d c b))) (bytes_back d c b)

  after-took : After g (d ++ c) (took c r)
  after-took =
      let m : Emptied (brought c r) (took c r) = fed-up (suc (length (pieces (r.rest ++ c)))) (brought c r) rest-bytes a.sound a.room (omega arith) in
      let before : Told = told (pieces d) start_listing g in
      let more : Told = told (pieces (r.rest ++ c)) r.listing r.gathering in
      let x : told (pieces (leftover d ++ c)) before.listing before.gathering ≡ more =
      λ i. told (pieces (sym a.rest i ++ c)) (sym a.listing i) (sym a.gathering i) in
      let whole : told (pieces (d ++ c)) start_listing g ≡ record { listing = more.listing; gathering = more.gathering; text = before.text ++ more.text } =
      ap (λ (ps : List (List ℕ)). told ps start_listing g) (pieces-append c d)
      ∙ told-append (pieces d) (pieces (leftover d ++ c)) start_listing g
      ∙ ap (λ (t : Told). record { listing = t.listing; gathering = t.gathering; text = before.text ++ t.text }) x in
      record {
        listing = m.listing ∙ sym (ap (λ (t : Told). t.listing) whole);
        gathering = m.gathering ∙ sym (ap (λ (t : Told). t.gathering) whole);
        written = m.written
            ∙ ap (λ (l : List ℕ). l ++ more.text) a.written
            ∙ append_assoc head_line before.text more.text
            ∙ sym (ap (λ (t : Told). head_line ++ t.text) whole);
        rest = m.rest ∙ ap (λ (l : List ℕ). leftover (l ++ c)) a.rest ∙ sym (leftover-append c d);
        sound = m.sound;
        room = m.room;
      }

after-all : (g : List ℕ) (cs : List (List ℕ)) (d : List ℕ) (r : Run) → After g d r → Bytes (d ++ all_bytes cs) → After g (d ++ all_bytes cs) (took_all cs r)
after-all g [] d r a b = rw (append-nil d) a
after-all g (c ∷ cs) d r a b =
    let e : (d ++ c) ++ all_bytes cs ≡ d ++ (c ++ all_bytes cs) = append_assoc d c (all_bytes cs) in
    let all : Bytes ((d ++ c) ++ all_bytes cs) = rw e b in
    rw (← e) (after-all g cs (d ++ c) (took c r) (after-took g d r a c (bytes-front (d ++ c) (all_bytes cs) all)) all)

-- ---- the first line and the last

capped-under : (n : ℕ) → capped n < 10 ^ 20
unfolding capped
capped-under n = omega arith

capped-zero : 0 ≡ capped 0
unfolding capped
capped-zero = refl

last-few : (n m : ℕ) → length (last_line (capped n) (capped m)) ≤ 55
unfolding last_line
last-few n m =
    simp length-append
    (omega (arith, word-few 20 (capped n) space (capped-under n) (lit< tt), word-few 20 (capped m) newline (capped-under m) (lit< tt)))

-- a text at the front of the lines
front-shown : (p lines : List ℕ) → take (0 + length p) (overlay 0 p lines) ≡ p
front-shown p lines = ap (λ (k : ℕ). take k (overlay 0 p lines)) (zero-add (length p)) ∙ take-front p lines

printed-fits : (p lines : List ℕ) → length p ≤ length lines → take (appended p 0 lines).at (appended p 0 lines).lines ≡ p
printed-fits p lines h = rw (appended-fits p 0 lines (omega arith)) (front-shown p lines)

listed-inside : pid_outside listed_pid ≡ false
unfolding pid_outside
listed-inside = refl

module _ (g d : List ℕ) (e : Run) (a : After g d e) where
  abbrev all : List Outcome
  all = answers_to (pieces d) start_listing g

  told-all : Tells (pieces d) start_listing g 0 0
  told-all = tells (pieces d) start_listing g 0 0 capped-zero capped-zero

  after-shows : e.written ≡ head_line ++ lines_of (handed_all all)
  after-shows = a.written ∙ ap (λ (l : List ℕ). head_line ++ l) told-all.text

  -- the totals behind it
  pub after-prints : (ended e).written ≡ text_of all
  unfolding text_of
  after-prints =
      let n : ℕ = length (handed_all all) in
      let m : ℕ = losses (marks_all all) in
      let p : e.listing.packets ≡ capped n = ap (λ (l : Listing). l.packets) a.listing ∙ told-all.packets ∙ ap capped (zero-add n) in
      let q : e.listing.gaps ≡ capped m = ap (λ (l : Listing). l.gaps) a.listing ∙ told-all.gaps ∙ ap capped (zero-add m) in
      let last : take (appended (last_line e.listing.packets e.listing.gaps) 0 e.lines).at (appended (last_line e.listing.packets e.listing.gaps) 0 e.lines).lines ≡ last_line (capped n) (capped m) =
      rw (p, q) (printed-fits (last_line (capped n) (capped m)) e.lines (omega (arith, last-few n m, a.room, a.sound.space))) in
      ap₂ (λ (x y : List ℕ). x ++ y) after-shows last ∙ append_assoc head_line (lines_of (handed_all all)) (last_line (capped n) (capped m))

module _ (g o lines : List ℕ) (bytes : Bytes g) (ample : Ample g o lines) where
  pub start-sound : Sound start_listing.reader g o
  start-sound = record { fit = fresh-fit listed_pid listed-inside; bytes = bytes; room = ample.gathers; space = ample.hands }

  after_none : After g [] (begun g o lines)
  unfolding head_line
  after_none =
      let fits : 0 + length head_line ≤ length lines = omega (arith, ample.hands, ample.lays) in
      let t : told (pieces []) start_listing g ≡ record { listing = start_listing; gathering = g; text = [] } =
      ap (λ (ps : List (List ℕ)). told ps start_listing g) (pieces_none [] (omega arith)) in
      record {
        listing = sym (ap (λ (x : Told). x.listing) t);
        gathering = sym (ap (λ (x : Told). x.gathering) t);
        written = printed-fits head_line lines (omega (arith, fits)) ∙ sym (ap (λ (x : Told). head_line ++ x.text) t ∙ append-nil head_line);
        rest = sym (leftover-none [] (omega arith));
        sound = start-sound;
        room = rw (appended-fits head_line 0 lines fits, length-overlay 0 head_line lines fits) ample.lays;
      }

  module _ (cs : List (List ℕ)) (b : Bytes (all_bytes cs)) where
    abbrev end : Run
    end = took_all cs (begun g o lines)

    abbrev answers : List Outcome
    answers = answers_to (pieces (all_bytes cs)) start_listing g

    after : After g (all_bytes cs) end
    after = after-all g cs [] (begun g o lines) after_none b

    -- after each read the lines of all that it brought are written out
    pub lines-at-once : end.written ≡ head_line ++ lines_of (handed_all answers)
    lines-at-once = after-shows g (all_bytes cs) end after

    -- no call is refused but for what the transport packet is: a state as 38 says, a piece not of 188 bytes or a short
    -- buffer there is none
    pub only-packets-refused : (p : List ℕ) → length p ≡ 188 → Bytes p
        → (gather_of end.listing.reader p end.gathering end.output).answer.refusal ≡ first (transport_checks end.listing.reader.pid p ++ (12 when repeats end.listing.reader.last (count_of p) ∷ []))
    only-packets-refused p whole bp = only-carriage end.listing.reader p end.gathering end.output after.sound whole bp

    -- THE LISTING: the header, a line for each packet handed out, and the totals
    pub listing-printed : (ended end).written ≡ text_of answers
    listing-printed = after-prints g (all_bytes cs) end after

pub zeros-bytes : (n : ℕ) → Bytes (replicate n 0)
zeros-bytes zero i = lit< tt
zeros-bytes (suc n) zero = lit< tt
zeros-bytes (suc n) (suc i) = zeros-bytes n i

-- with buffers as a program begins: 01's listing of all bytes, however the reads cut them
pub program-prints : (cs : List (List ℕ)) → Bytes (all_bytes cs) → (output lines : List ℕ) → 8385 ≤ length output → 2 * length output ≤ length lines
    → (ended (took_all cs (begun (replicate 8202 0) output lines))).written ≡ listing_of_bytes (all_bytes cs)
unfolding listing_of_bytes listing_of
program-prints cs b output lines h k =
    listing-printed (replicate 8202 0) output lines (zeros-bytes 8202) (record { gathers = rw (length-replicate {A = ℕ} 8202 0) (omega arith); hands = h; lays = k }) cs b

-- ---- the totals are exact below two to the 64

pub totals-exact : (answers : List Outcome) → length (handed_all answers) < 2 ^ 64 → losses (marks_all answers) < 2 ^ 64
    → text_of answers ≡ head_line ++ (lines_of (handed_all answers) ++ last_line (length (handed_all answers)) (losses (marks_all answers)))
unfolding text_of
totals-exact answers p q = rw (capped_same (length (handed_all answers)) p, capped_same (losses (marks_all answers)) q)
