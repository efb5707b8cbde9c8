-- What pieces tell, one after another, whatever the reader's output holds; feeding them gives the same, up to where the lines
-- are full.
-- Assumes nothing.
use mathlib.Core.Path.{◌≡◌, refl, sym, ap, ap₂, ◌∙◌}
use mathlib.Core.Bool.{true, false}
use mathlib.Core.List.{List, [], ◌∷◌, ◌++◌, append_assoc, append-nil}
use Prim.Native.Nat.{ℕ, suc, ◌+◌, ◌*◌, ◌≤◌}
use native.Mathlib.Omega.{arith}
use lib.ListN.{length, take, replicate, length-append, length-drop, length-replicate}
use lib.Seq.{length-take-le}
use Rattle.fields.specs.Numbers.{Bytes}
use Rattle.fields.specs.Parts.{overlay}
use Rattle.fields.proofs.Cases.{cases, true≢false}
use Rattle.fields.proofs.PartLaws.{overlay-is, take-overlay}
use Rattle.gather.specs.Gather.{Outcome, gather_of}
use Rattle.gather.specs.Calls.{handed_by}
use Rattle.gather.specs.Gather.{Gathered}
use Rattle.gather.proofs.CallLaws.{Alike, call-alike}
use Rattle.lines.specs.Lines.{lines_of}
use Rattle.lines.specs.Listing.{after_of, roomy, Feeding, fed_of}
use Rattle.lines.specs.declared.Listing.{Listing}
use Rattle.lines.proofs.PieceLaws.{Each}
use Rattle.lines.proofs.CallSound.{Sound, output-as-long, sound-on}
use Rattle.lines.proofs.StepLaws.{step-full, step-goes}

-- ---- what pieces tell

pub record Told : Type 0 where
  pub listing : Listing
  pub gathering : List ℕ
  pub text : List ℕ

-- the reader's call, with an output of zeros
abbrev pub called : Listing → List ℕ → List ℕ → Outcome
called l g p = gather_of l.reader p g (replicate 8385 0)

abbrev pub told : List (List ℕ) → Listing → List ℕ → Told
told [] l g = record { listing = l; gathering = g; text = [] }
told (p ∷ ps) l g =
    let o = called l g p in
    let more = told ps (after_of l o.answer) o.gathering in
    record { listing = more.listing; gathering = more.gathering; text = lines_of (handed_by o) ++ more.text }

abbrev behind : Told → List (List ℕ) → Told
behind t qs =
    let more = told qs t.listing t.gathering in
    record { listing = more.listing; gathering = more.gathering; text = t.text ++ more.text }

pub told-append : (ps qs : List (List ℕ)) (l : Listing) (g : List ℕ) → told (ps ++ qs) l g ≡ behind (told ps l g) qs
told-append [] qs l g = refl
told-append (p ∷ ps) qs l g =
    let o : Outcome = called l g p in
    let next : Told = told ps (after_of l o.answer) o.gathering in
    ap (λ (t : Told). record { listing = t.listing; gathering = t.gathering; text = lines_of (handed_by o) ++ t.text }) (told-append ps qs (after_of l o.answer) o.gathering)
    ∙ ap (λ (x : List ℕ). record { listing = (behind next qs).listing; gathering = (behind next qs).gathering; text = x }) (sym (append_assoc (lines_of (handed_by o)) next.text (told qs next.listing next.gathering).text))

-- ---- feeding them

-- some of the pieces are gone, and told; the others are left, and none where it is not full
pub record Went (ps : List (List ℕ)) (l : Listing) (g o lines : List ℕ) (taken filled : ℕ) (f : Feeding) : Type 0 where
  pub gone : List (List ℕ)
  pub left : List (List ℕ)
  pub all : ps ≡ gone ++ left
  pub listing : f.answer.listing ≡ (told gone l g).listing
  pub gathering : f.gathering ≡ (told gone l g).gathering
  pub text : take f.answer.filled f.lines ≡ take filled lines ++ (told gone l g).text
  pub bytes : f.answer.taken ≡ taken + 188 * length gone
  pub sound : Sound f.answer.listing.reader f.gathering f.output
  pub space : length f.output ≡ length o
  pub room : length lines ≤ length f.lines
  pub ends : f.answer.full ≡ false → left ≡ []
  pub stops : f.answer.full ≡ true → (gone ≡ [] → roomy filled (length o) (length lines) ≡ true → ⊥)

longer : (at : ℕ) (p l : List ℕ) → at ≤ length l → (length l ≤ length (overlay at p l)) × (at + length p ≤ length (overlay at p l))
longer at p l h =
    rw (overlay-is at p l) (simp (length-append, length-take-le at l h, length-drop) (omega arith, omega arith))

no-piece : (p : List ℕ) (ps : List (List ℕ)) → p ∷ ps ≡ [] → ⊥
no-piece p ps e = let z : ◌≡◌ {A = ℕ} (suc (length ps)) 0 = ap length e in omega arith

module _ (l : Listing) (g o lines : List ℕ) (taken filled : ℕ) (k : Sound l.reader g o) where
  went-none : Went [] l g o lines taken filled (fed_of [] l g o lines taken filled)
  unfolding fed_of
  went-none =
      record {
        gone = [];
        left = [];
        all = refl;
        listing = refl;
        gathering = refl;
        text = sym (append-nil (take filled lines));
        bytes = omega arith;
        sound = k;
        space = refl;
        room = omega arith;
        ends = λ e. refl;
        stops = λ e. absurd (true≢false (sym e));
      }

  went-full : (p : List ℕ) (ps : List (List ℕ)) → roomy filled (length o) (length lines) ≡ false → Went (p ∷ ps) l g o lines taken filled (fed_of (p ∷ ps) l g o lines taken filled)
  unfolding fed_of
  went-full p ps h =
      rw (step-full l p g o lines filled h)
      (record {
        gone = [];
        left = p ∷ ps;
        all = refl;
        listing = refl;
        gathering = refl;
        text = sym (append-nil (take filled lines));
        bytes = omega arith;
        sound = k;
        space = refl;
        room = omega arith;
        ends = λ e. absurd (true≢false e);
        stops = λ e z y. true≢false (sym y ∙ h);
      })

  module _ (w : filled ≤ length lines) (p : List ℕ) (whole : length p ≡ 188) (bp : Bytes p) (ps : List (List ℕ)) where
    abbrev call : Outcome
    call = gather_of l.reader p g o

    abbrev laid_text : List ℕ
    laid_text = lines_of (handed_by call)

    same : Alike call (called l g p)
    same = call-alike l.reader p g o (replicate 8385 0) k.space (rw (length-replicate {A = ℕ} 8385 0) (omega arith))

    abbrev onward : Feeding
    onward = fed_of ps (after_of l call.answer) call.gathering call.output (overlay filled laid_text lines) (taken + 188) (filled + length laid_text)

    fed-on : roomy filled (length o) (length lines) ≡ true → fed_of (p ∷ ps) l g o lines taken filled ≡ onward
    unfolding fed_of
    fed-on h = rw (step-goes l p g o lines filled h)

    -- the piece is told as the call on it tells
    told-on : (qs : List (List ℕ)) → told (p ∷ qs) l g ≡ (let more = told qs (after_of l call.answer) call.gathering in record { listing = more.listing; gathering = more.gathering; text = laid_text ++ more.text })
    told-on qs =
        ap (λ (t : Told). record { listing = t.listing; gathering = t.gathering; text = lines_of (handed_by (called l g p)) ++ t.text })
        (ap₂ (λ (a : Gathered) (m : List ℕ). told qs (after_of l a) m) (sym same.answer) (sym same.gathering))
        ∙ ap (λ (ls : List (List ℕ)). record { listing = (told qs (after_of l call.answer) call.gathering).listing; gathering = (told qs (after_of l call.answer) call.gathering).gathering; text = lines_of ls ++ (told qs (after_of l call.answer) call.gathering).text }) (sym same.handed)

    went_on : roomy filled (length o) (length lines) ≡ true
        → Went ps (after_of l call.answer) call.gathering call.output (overlay filled laid_text lines) (taken + 188) (filled + length laid_text) onward
        → Went (p ∷ ps) l g o lines taken filled (fed_of (p ∷ ps) l g o lines taken filled)
    went_on h d =
        rw (fed-on h)
        (record {
          gone = p ∷ d.gone;
          left = d.left;
          all = ap (λ (qs : List (List ℕ)). p ∷ qs) d.all;
          listing = d.listing ∙ sym (ap (λ (t : Told). t.listing) (told-on d.gone));
          gathering = d.gathering ∙ sym (ap (λ (t : Told). t.gathering) (told-on d.gone));
          text = d.text
              ∙ ap (λ (x : List ℕ). x ++ (told d.gone (after_of l call.answer) call.gathering).text) (take-overlay filled laid_text lines w)
              ∙ append_assoc (take filled lines) laid_text (told d.gone (after_of l call.answer) call.gathering).text
              ∙ ap (λ (x : List ℕ). take filled lines ++ x) (sym (ap (λ (t : Told). t.text) (told-on d.gone)));
          bytes = omega (arith, d.bytes);
          sound = d.sound;
          space = d.space ∙ output-as-long l.reader p g o k whole bp;
          room = omega (arith, d.room, (longer filled laid_text lines w).0);
          ends = d.ends;
          stops = λ e z y. no-piece p d.gone z;
        })

pub fed-went : (ps : List (List ℕ)) → Each ps → (l : Listing) (g o lines : List ℕ) (taken filled : ℕ) → Sound l.reader g o → filled ≤ length lines
    → Went ps l g o lines taken filled (fed_of ps l g o lines taken filled)
fed-went [] each l g o lines taken filled k w = went-none l g o lines taken filled k
fed-went (p ∷ ps) each l g o lines taken filled k w =
    cases (roomy filled (length o) (length lines))
    (λ h.
    let a : Outcome = gather_of l.reader p g o in
    let x : List ℕ = lines_of (handed_by a) in
    went_on l g o lines taken filled k w p each.0 each.1 ps h
    (fed-went ps each.2 (after_of l a.answer) a.gathering a.output (overlay filled x lines) (taken + 188) (filled + length x) (sound-on l.reader p g o k each.0 each.1) (longer filled x lines w).1))
    (λ h. went-full l g o lines taken filled k p ps h)
