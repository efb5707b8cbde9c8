-- The laws of the stage from the start on: how it goes by the first packet's judgement, and what it does to numbers.
-- Assumes nothing.
use mathlib.Core.Path.{◌≡◌}
use mathlib.Core.List.{List}
use Prim.Native.Nat.{ℕ, ◌+◌, ◌≤◌}
use native.Mathlib.Nat.{add-zero, add_assoc}
use native.Mathlib.Numerals.{one-add}
use native.Mathlib.Omega.{arith}
use lib.ListN.{length, take, drop, length-append}
use lib.Seq.{length-take-le}
use Rattle.fields.specs.Parts.{overlay}
use Rattle.fields.proofs.PartLaws.{overlay-none, overlay-next}
use Rattle.packet.specs.Cut.{judge_of, cut, joined}
use Rattle.std.specs.Prelude.{Result, Ok, Err}
use Rattle.packet.specs.declared.Flaw.{Flaw}
use Rattle.packet.specs.declared.Flaw.TheVariants.{Short, Bad}
use Rattle.packet.proofs.LayoutLaws.{size-least}
use Rattle.packet.proofs.CutLaws.{cut_short, cut-bad, cut-good}
use Rattle.gather.specs.Phases.{Numbers, crc_fails_in, waits_in, hands_out_in, InHand, followed_of}
use Rattle.gather.proofs.JudgeLaws.{says}

-- l, by what the code was told of it
module _ (l : List ℕ) (j : Result ℕ Flaw) (e : j ≡ judge_of l) (b : InHand) where
  abbrev h : Numbers
  h = b.held

  abbrev g : List ℕ
  g = b.gathering

  abbrev o : List ℕ
  o = b.output

  pub followed-short : j ≡ Err Short → record { held = waits_in (length l) h; gathering = g; output = o } ≡ followed_of l b
  unfolding followed_of joined
  followed-short f =
      rw (cut_short l (says l j (Err Short) e f), add-zero h.bytes, add-zero h.packets, overlay-none h.bytes o)

  pub followed-bad : j ≡ Err Bad → record { held = crc_fails_in h; gathering = g; output = o } ≡ followed_of l b
  unfolding followed_of joined
  followed-bad f =
      let s = says l j (Err Bad) e f in
      rw (cut-bad l s.0 s.1, add-zero h.bytes, add-zero h.packets, overlay-none h.bytes o)

  module _ (n : ℕ) (f : j ≡ Ok n) where
    -- a good packet lies in it
    pub lies : (10 ≤ n) × (n ≤ length l)
    lies =
        let s = says l j (Ok n) e f in
        omega (arith, s.0, s.1, size-least l)

    pub followed-good : h.bytes + n ≤ length o → (next : InHand) (after : List ℕ)
        → next ≡ record { held = hands_out_in n h; gathering = g; output = after }
        → after ≡ overlay h.bytes (take n l) o
        → followed_of (drop n l) next ≡ followed_of l b
    unfolding followed_of joined
    followed-good room next after q c =
        let s = says l j (Ok n) e f in
        let t : length (take n l) ≡ n = length-take-le n l (rw s.0 at s.1) in
        rw (cut-good l s.1 s.2, s.0, length-append (take n l) (joined (cut (drop n l)).packets), t, q, c)
        (rw (overlay-next h.bytes (take n l) (joined (cut (drop n l)).packets) o (h.bytes + n) (rw t) (omega arith), add_assoc h.bytes n (length (joined (cut (drop n l)).packets)), add_assoc h.packets 1 (length (cut (drop n l)).packets), one-add (length (cut (drop n l)).packets)))
