-- What a judgement says of the bytes that it was made of.
-- Assumes nothing.
use mathlib.Core.Path.{◌≡◌, refl, sym, ◌∙◌}
use mathlib.Core.Bool.{true, false}
use mathlib.Core.List.{List}
use Prim.Native.Nat.{ℕ, ◌≤◌, ◌<◌}
use lib.Dec.{leb}
use lib.ListN.{length, take}
use borrow.Author.Tests.{leb-true, leb-false}
use Rattle.fields.proofs.Cases.{cases}
use Rattle.crc.specs.Crc.{crc_holds}
use Rattle.packet.specs.Layout.{size_of}
use Rattle.packet.specs.Cut.{judge_of}
use Rattle.std.specs.Prelude.{Result, Ok, Err}
use Rattle.packet.specs.declared.Flaw.{Flaw}
use Rattle.packet.specs.declared.Flaw.TheVariants.{Short, Bad}
use Rattle.packet.proofs.CutLaws.{judged-short, judged-bad, judged-good}

-- ---- judgements

-- what each says of the length and of the CRC
abbrev pub Says : Result ℕ Flaw → List ℕ → Type 0
Says (Err Short) l = length l < size_of l
Says (Err Bad) l = (size_of l ≤ length l) × (crc_holds (take (size_of l) l) ≡ false)
Says (Ok n) l = (size_of l ≡ n) × (size_of l ≤ length l) × (crc_holds (take (size_of l) l) ≡ true)

judged-says : (l : List ℕ) → Says (judge_of l) l
judged-says l =
    cases (leb (size_of l) (length l))
    (λ t. let h : size_of l ≤ length l = leb-true _ _ t in
    cases (crc_holds (take (size_of l) l))
    (λ g. rw (judged-good l h g) (refl, h, g))
    (λ g. rw (judged-bad l h g) (h, g)))
    (λ t. let h : length l < size_of l = leb-false _ _ t in rw (judged-short l h) h)

pub says : (l : List ℕ) (j k : Result ℕ Flaw) → j ≡ judge_of l → j ≡ k → Says k l
says l j k e f = rw (sym e ∙ f) at (judged-says l)
