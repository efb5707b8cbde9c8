-- A format of whole bytes, over any widths, any counts of bytes and any place: its two round trips through bytes; and in two
-- halves of whole bytes, its fields lie in two parts of the bytes, and it is laid as the bytes of two numbers.
-- Assumes nothing.
use mathlib.Core.Path.{◌≡◌, sym, ap, ◌∙◌}
use mathlib.Core.List.{List, ◌++◌}
use Prim.Native.Nat.{ℕ, ◌+◌, ◌*◌, ◌^◌, ◌≤◌, ◌<◌}
use native.Mathlib.Omega.{arith}
use lib.ListN.{length, replicate, replicate-append-replicate}
use Rattle.fields.proofs.FormatLaws.{pack-lt, pack-unpack, unpack-pack, unpack-halves, pack-append}
use Rattle.fields.proofs.NumberLaws.{span-bytes, number_append, number_lt, number-bytes, bytes-number}
use Rattle.fields.proofs.PartLaws.{length_part, part_bytes, part-add}
use Rattle.fields.specs.Formats.{span, pack, unpack, Fit}
use Rattle.fields.specs.Numbers.{Bytes, number, bytes}
use Rattle.fields.specs.Parts.{part}

-- ---- the round trips

pub unpack-bytes : (ws fs : List ℕ) (k : ℕ) → span ws ≡ 8 * k → Fit ws fs → unpack ws (number (bytes k (pack ws fs))) ≡ fs
unpack-bytes ws fs k w fit =
    ap (unpack ws) (number-bytes k (pack ws fs) (rw w at (pack-lt ws fs fit))) ∙ unpack-pack ws fs fit

pub pack-bytes : (ws l : List ℕ) (k : ℕ) → Bytes l → length l ≡ k → span ws ≡ 8 * k → bytes k (pack ws (unpack ws (number l))) ≡ l
pack-bytes ws l k b e w =
    let small : number l < 2 ^ span ws = rw (e, ← w) at (number_lt l b) in
    ap (bytes k) (pack-unpack ws (number l) small) ∙ ap (λ (n : ℕ). bytes n (number l)) (sym e) ∙ bytes-number l b

-- ---- two halves

pub unpack-parts : (vs ws : List ℕ) (at j k : ℕ) (s : List ℕ) → Bytes s → at + (j + k) ≤ length s → span ws ≡ 8 * k
    → unpack (vs ++ ws) (number (part at (j + k) s)) ≡ unpack vs (number (part at j s)) ++ unpack ws (number (part (at + j) k s))
unpack-parts vs ws at j k s b h w =
    let p : List ℕ = part at j s in
    let q : List ℕ = part (at + j) k s in
    let bits : 8 * length q ≡ span ws = ap (λ (n : ℕ). 8 * n) (length_part (at + j) k s (omega arith)) ∙ sym w in
    ap (λ (l : List ℕ). unpack (vs ++ ws) (number l)) (part-add at j k s)
    ∙ ap (unpack (vs ++ ws)) (number_append p q ∙ ap (λ (n : ℕ). number p * 2 ^ n + number q) bits)
    ∙ unpack-halves vs ws (number p) (number q) (rw bits at (number_lt q (part_bytes (at + j) k s b)))

pub pack-parts : (vs ws fs gs : List ℕ) (j k : ℕ) → length vs ≡ length fs → Fit ws gs → span ws ≡ 8 * k
    → bytes (j + k) (pack (vs ++ ws) (fs ++ gs)) ≡ bytes j (pack vs fs) ++ bytes k (pack ws gs)
unfolding bytes
pack-parts vs ws fs gs j k e fit w =
    let bits : span ws ≡ span (replicate k 8) = w ∙ sym (span-bytes k) in
    ap (λ (l : List ℕ). unpack l (pack (vs ++ ws) (fs ++ gs))) (sym (replicate-append-replicate j k 8))
    ∙ ap (unpack (replicate j 8 ++ replicate k 8)) (pack-append vs ws fs gs e ∙ ap (λ (n : ℕ). pack vs fs * 2 ^ n + pack ws gs) bits)
    ∙ unpack-halves (replicate j 8) (replicate k 8) (pack vs fs) (pack ws gs) (rw bits at (pack-lt ws gs fit))
