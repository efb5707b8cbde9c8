-- The laws of the stage up to the start: what joins, what is stored, and what is handed out.
-- Assumes nothing.
use mathlib.Core.Path.{◌≡◌, refl, sym, ap, ◌∙◌}
use mathlib.Core.Bool.{true, false}
use mathlib.Core.List.{List, [], ◌∷◌, ◌++◌, append-nil}
use Prim.Native.Nat.{ℕ, ◌+◌, ◌-◌, ◌≤◌, ◌<◌}
use native.Mathlib.Nat.{zero-add, suc-ne-zero}
use native.Mathlib.Omega.{arith}
use lib.Dec.{leb}
use lib.ListN.{length, take, drop, length-append, length-drop}
use lib.Seq.{length-take-le, take_all, take-append-add}
use borrow.Author.Tests.{eq-eqb, ne_eqb, eqb-true, leb-true, leb-false}
use Rattle.crc.specs.Crc.{crc_holds}
use Rattle.fields.specs.Numbers.{Bytes}
use Rattle.fields.specs.Parts.{overlay}
use Rattle.fields.proofs.Cases.{cases}
use Rattle.fields.proofs.PartLaws.{overlay-is, overlay-none, take-overlay}
use Rattle.packet.specs.Layout.{size_of}
use Rattle.packet.specs.Cut.{joined}
use Rattle.packet.proofs.LayoutLaws.{size-least, size-most, size-append}
use Rattle.packet.proofs.CutLaws.{judged-short, judged-bad, judged-good, joined-one}
use Rattle.gather.specs.Rules.{none, Hand, crc_fails, waits, hands_out, strays, joining, up_to_start}
use Rattle.gather.specs.Gather.{joiners}
use Rattle.gather.specs.Phases.{Numbers, misfits_in, crc_fails_in, waits_in, hands_out_in, numbers, hand_of, Entered, Ready, InHand, led_of}
use Rattle.gather.specs.Theorems.{Front, nothing, finished-one}

-- ---- waiting bytes with new ones behind them

-- a buffer stays as long
pub longer : (at : ℕ) (p l : List ℕ) → at ≤ length l → length l ≤ length (overlay at p l)
longer at p l h = rw (overlay-is at p l) (simp (length-append, length-take-le at l h, length-drop) (omega arith))

pub length-zero : (l : List ℕ) → length l ≡ 0 → l ≡ []
length-zero [] e = refl
length-zero (x ∷ l) e = absurd (suc-ne-zero (length l) e)

-- an unfinished packet's own length lies behind it, whatever joins
pub size-beyond : (w d : List ℕ) → length w < size_of w → length w < size_of (w ++ d)
size-beyond w d h =
    cases (leb 6 (length w))
    (λ t. rw (size-append w d (leb-true _ _ t)) h)
    (λ t. omega (arith, size-least (w ++ d), leb-false 6 (length w) t))

-- ---- the stage, case by case

module _ (d : List ℕ) (h : Hand) where
  pub passes : h.step ≡ false → up_to_start d h ≡ h
  unfolding up_to_start
  passes s = rw s

  pub passes-joiners : h.step ≡ false → joiners d h ≡ []
  unfolding joiners
  passes-joiners s = rw s

  module _ (s : h.step ≡ true) where
    pub strays-in : h.waiting ≡ [] → up_to_start d h ≡ strays d h
    unfolding up_to_start
    strays-in z = rw (s, z)

    pub none-joins : h.waiting ≡ [] → joiners d h ≡ []
    unfolding joiners
    none-joins z = rw (s, z)

    module _ (z : none h.waiting ≡ false) where
      pub joins-in : up_to_start d h ≡ joining d h
      unfolding up_to_start
      joins-in = rw (s, z)

      pub some-join : joiners d h ≡ take (size_of (h.waiting ++ d) - length h.waiting) d
      unfolding joiners
      some-join = rw (s, z)

      pub joins-short : length (h.waiting ++ d) < size_of (h.waiting ++ d) → up_to_start d h ≡ waits (h.waiting ++ d) h
      unfolding joining
      joins-short k = joins-in ∙ rw (judged-short (h.waiting ++ d) k)

      module _ (k : size_of (h.waiting ++ d) ≤ length (h.waiting ++ d)) where
        pub joins-bad : crc_holds (take (size_of (h.waiting ++ d)) (h.waiting ++ d)) ≡ false → up_to_start d h ≡ crc_fails h
        unfolding joining
        joins-bad c = joins-in ∙ rw (judged-bad (h.waiting ++ d) k c)

        pub joins-good : crc_holds (take (size_of (h.waiting ++ d)) (h.waiting ++ d)) ≡ true
            → up_to_start d h ≡ strays (drop (size_of (h.waiting ++ d)) (h.waiting ++ d)) (hands_out (take (size_of (h.waiting ++ d)) (h.waiting ++ d) ∷ []) h)
        unfolding joining
        joins-good c = joins-in ∙ rw (judged-good (h.waiting ++ d) k c)

-- what holds of each case holds of the stage
module _ (d : List ℕ) (h : Hand) where
  abbrev pub joint : List ℕ
  joint = h.waiting ++ d

  pub stage_cases : (P : Hand → Type 0)
      → (h.step ≡ false → P h)
      → (h.step ≡ true → h.waiting ≡ [] → P (strays d h))
      → (h.step ≡ true → none h.waiting ≡ false → length joint < size_of joint → P (waits joint h))
      → P (crc_fails h)
      → (size_of joint ≤ length joint → crc_holds (take (size_of joint) joint) ≡ true → P (strays (drop (size_of joint) joint) (hands_out (take (size_of joint) joint ∷ []) h)))
      → P (up_to_start d h)
  stage_cases P passed strayed short bad good =
      cases h.step
      (λ s. cases (none h.waiting)
      (λ z. let w : h.waiting ≡ [] = length-zero h.waiting (eqb-true _ _ z) in rw (strays-in d h s w) (strayed s w))
      (λ z. cases (leb (size_of joint) (length joint))
      (λ k. cases (crc_holds (take (size_of joint) joint))
      (λ c. rw (joins-good d h s z (leb-true _ _ k) c) (good (leb-true _ _ k) c))
      (λ c. rw (joins-bad d h s z (leb-true _ _ k) c) bad))
      (λ k. rw (joins-short d h s z (leb-false _ _ k)) (short s z (leb-false _ _ k)))))
      (λ s. rw (passes d h s) (passed s))

-- ---- the same for the code

-- a record of numbers by three of them
pub numbered : (e : Numbers) (w b p : ℕ) → e.waiting ≡ w → e.bytes ≡ b → e.packets ≡ p
    → e ≡ record { in_step = e.in_step; waiting = w; bytes = b; packets = p; marks = e.marks }
numbered e w b p h i j = rw (← h, ← i, ← j)

-- what the buffers hold where nothing joins and nothing is handed out
laid_none : (e : Numbers) (g o : List ℕ) (held : Numbers)
    → ◌≡◌ {A = InHand} (record { held = held; gathering = g; output = o }) (record { held = held; gathering = overlay e.waiting [] g; output = overlay 0 [] o })
laid_none e g o held = rw (overlay-none e.waiting g, overlay-none 0 o)

-- d joins, and `size` is the packet's own length
pub record Joins (b : InHand) (d : List ℕ) (size : ℕ) : Type 0 where
  pub ready : Ready b
  pub in-step : b.held.in_step ≡ true
  pub some : 0 < b.held.waiting
  pub own : size ≡ size_of (take b.held.waiting b.gathering ++ d)
  pub small : size ≤ 8202

module _ (b : InHand) (d : List ℕ) where
  abbrev e : Numbers
  e = b.held

  abbrev g : List ℕ
  g = b.gathering

  abbrev o : List ℕ
  o = b.output

  module _ (ready : Ready b) where
    abbrev h : Hand
    h = hand_of e g

    abbrev left : Entered e g
    left = ready.entered

    mine : e ≡ numbers h
    unfolding joined
    mine = numbered e (length (take e.waiting g)) 0 0 (sym (length-take-le e.waiting g (omega (arith, left.few, ready.roomy)))) left.bytes left.packets

    pub led-passed : e.in_step ≡ false → b ≡ led_of d b
    unfolding led_of joined
    led-passed s =
        rw (passes d h s, passes-joiners d h s) (laid_none e g o e ∙ ap (λ (x : Numbers). record { held = x; gathering = overlay e.waiting [] g; output = overlay 0 [] o }) mine)

    module _ (s : e.in_step ≡ true) (z : e.waiting ≡ 0) where
      empty : take e.waiting g ≡ []
      empty = ap (λ (n : ℕ). take n g) z

      pub led-nothing : none d ≡ true → b ≡ led_of d b
      unfolding led_of joined
      led-nothing n =
          rw (strays-in d h s empty, none-joins d h s empty, n) (laid_none e g o e ∙ ap (λ (x : Numbers). record { held = x; gathering = overlay e.waiting [] g; output = overlay 0 [] o }) mine)

      pub led-strays : none d ≡ false → record { held = misfits_in e; gathering = g; output = o } ≡ led_of d b
      unfolding led_of joined
      led-strays n =
          rw (strays-in d h s empty, none-joins d h s empty, n) (laid_none e g o (misfits_in e) ∙ rw (left.bytes, left.packets))

  module _ (size : ℕ) (j : Joins b d size) where
    abbrev w : ℕ
    w = e.waiting

    abbrev all : List ℕ
    all = take w g ++ d

    abbrev en : Entered e g
    en = j.ready.entered

    fits : w < length g
    fits = omega (arith, en.few, j.ready.roomy)

    long-w : length (take w g) ≡ w
    long-w = length-take-le w g (omega (arith, fits))

    long : length all ≡ w + length d
    long = length-append (take w g) d ∙ rw long-w

    pub beyond : w < size
    beyond = rw (← j.own, long-w) at (size-beyond (take w g) d (rw long-w en.short))

    waiting : none (take w g) ≡ false
    waiting = ne_eqb (length (take w g)) 0 (λ z. omega (arith, j.some, long-w, z))

    joining-bytes : joiners d (hand_of e g) ≡ take (size - w) d
    joining-bytes = some-join d (hand_of e g) j.in-step waiting ∙ rw (← j.own, long-w)

    pub led-waits : w + length d < size → (after : List ℕ) → after ≡ overlay w d g
        → record { held = waits_in (w + length d) e; gathering = after; output = o } ≡ led_of d b
    unfolding led_of joined
    led-waits k after f =
        rw (joins-short d (hand_of e g) j.in-step waiting (rw (long, ← j.own) k), joining-bytes, take_all (size - w) d (omega arith), overlay-none 0 o, long, f, en.bytes, en.packets)

    module _ (k : size ≤ w + length d) (after : List ℕ) (f : after ≡ overlay w (take (size - w) d) g) where
      -- the packet stands in the gathering buffer
      pub stands : take size after ≡ take size all
      stands =
          let l : length (take (size - w) d) ≡ size - w = length-take-le (size - w) d (omega arith) in
          let m : w + (size - w) ≡ size = omega (arith, beyond) in
          ap (take size) f
          ∙ (rw (l, m) at (take-overlay w (take (size - w) d) g (omega (arith, fits))))
          ∙ sym (rw (long-w, m) at (take-append-add (take w g) d (size - w)))

      pub packet-long : length (take size all) ≡ size
      packet-long = length-take-le size all (rw long k)

      finished : size_of all ≤ length all
      finished = rw (long, ← j.own) k

      pub led-fails : crc_holds (take size all) ≡ false → record { held = crc_fails_in e; gathering = after; output = o } ≡ led_of d b
      unfolding led_of joined
      led-fails c =
          rw (joins-bad d (hand_of e g) j.in-step waiting finished (rw (← j.own) c), joining-bytes, overlay-none 0 o, f, en.bytes, en.packets)

      module _ (c : crc_holds (take size all) ≡ true) (out : List ℕ) (l : out ≡ overlay 0 (take size all) o) where
        handed : led_of d b ≡ record { held = numbers (strays (drop size all) (hands_out (take size all ∷ []) (hand_of e g))); gathering = after; output = overlay 0 (joined (strays (drop size all) (hands_out (take size all ∷ []) (hand_of e g))).packets) o }
        unfolding led_of
        handed = rw (joins-good d (hand_of e g) j.in-step waiting finished (rw (← j.own) c), joining-bytes, f, ← j.own)

        pub led-over : size < w + length d → record { held = misfits_in (hands_out_in size e); gathering = after; output = out } ≡ led_of d b
        led-over m =
            sym (handed ∙ rw (ne_eqb (length (drop size all)) 0 (λ z. omega (arith, z, length-drop size all, long)), joined-one (take size all), packet-long, l, en.bytes, en.packets, zero-add size))

        pub led-even : w + length d ≤ size → record { held = hands_out_in size e; gathering = after; output = out } ≡ led_of d b
        led-even m =
            sym (handed ∙ rw (eq-eqb (length (drop size all)) 0 (omega (arith, length-drop size all, long)), joined-one (take size all), packet-long, l, en.bytes, en.packets, zero-add size))

-- ---- what the stage hands out

module _ (d : List ℕ) (h : Hand) (p : h.packets ≡ []) where
  over-keeps : (l : List ℕ) (k : Hand) → (strays l k).packets ≡ k.packets
  over-keeps l k = cases (none l) (λ b. rw b) (λ b. rw b)

  pub front : Front h.waiting d (up_to_start d h).packets
  front =
      stage_cases d h (λ k. Front h.waiting d k.packets)
      (λ s. rw p nothing)
      (λ s w. rw (over-keeps d h, p) nothing)
      (λ s z k. rw p nothing)
      (rw p nothing)
      (λ k c. rw (over-keeps (drop (size_of (joint d h)) (joint d h)) (hands_out (take (size_of (joint d h)) (joint d h) ∷ []) h), p) (finished-one k c))

-- so it fits the output
pub record Small (ps : List (List ℕ)) : Type 0 where
  pub number : length ps ≤ 1
  pub bytes : length (joined ps) ≤ 8202

pub front-small : {w d : List ℕ} {ps : List (List ℕ)} → Bytes (w ++ d) → Front w d ps → Small ps
unfolding joined
front-small {w} {d} b nothing = record { number = omega arith; bytes = omega arith }
front-small {w} {d} b (finished-one k c) =
    record {
      number = omega arith;
      bytes = rw (append-nil (take (size_of (w ++ d)) (w ++ d)), length-take-le (size_of (w ++ d)) (w ++ d) k) (size-most (w ++ d) b);
    }
