-- The CRC behind its bytes makes the register end at zero, and no other four bytes do. By the key law four bytes are added
-- to the whole register: equal digits cancel, and since feeding can be undone only equal ones leave nothing.
-- Assumes nothing.
use mathlib.Core.Path.{◌≡◌, sym, ap, ap₂, ◌∙◌}
use mathlib.Core.Bool.{true}
use mathlib.Core.List.{List, ◌++◌, append_assoc}
use Prim.Native.Nat.{ℕ, ◌+◌, ◌^◌, ◌≤◌, ◌<◌}
use native.Mathlib.Nat.{mul-one}
use native.Mathlib.Omega.{arith}
use lib.Dec.{lit<}
use lib.ListN.{length, take, drop, length-append, length-drop, take-append-drop}
use lib.Bits.{bit_xor, xor_lt, xor_self}
use borrow.Author.Tests.{le-leb, eqb-true, eq-eqb}
use Rattle.fields.specs.Numbers.{Bytes, number, bytes}
use Rattle.fields.specs.Parts.{overlay}
use Rattle.fields.proofs.NumberLaws.{bytes-are, bytes-append, bytes_drop, length-bytes, number_lt, number-bytes, bytes-number}
use Rattle.fields.proofs.PartLaws.{length-overlay, overlay-next, take-front}
use Rattle.crc.specs.Crc.{run, all_ones, crc_of, crc_holds}
use Rattle.crc.specs.Sealed.{sealed, sealed_at}
use Rattle.crc.specs.Tables.{zeros}
use Rattle.crc.proofs.XorLaws.{xor-zero}
use Rattle.crc.proofs.FeedLaws.{zeros-none}
use Rattle.crc.proofs.TopLaws.{zeros-zero}
use Rattle.crc.proofs.RunLaws.{run-lt, run-append, run-top}

-- four bytes are added to all 32 stages
pub run-four : (r : ℕ) (t : List ℕ) → r < 2 ^ 32 → Bytes t → length t ≡ 4 → run r t ≡ zeros 32 (bit_xor r (number t))
run-four r t hr ht e = rw (e, mul-one (number t)) at (run-top 0 r t (omega arith) hr ht)

pub run-own : (r : ℕ) → r < 2 ^ 32 → run r (bytes 4 r) ≡ 0
run-own r h =
    rw (run-four r (bytes 4 r) h (bytes-are 4 r) (length-bytes 4 r), number-bytes 4 r h, xor_self r) (zeros-none 32)

pub run_only : (r : ℕ) (l t : List ℕ) → r < 2 ^ 32 → Bytes t → length t ≡ 4 → run r (l ++ t) ≡ 0 → t ≡ bytes 4 (run r l)
run_only r l t hr ht e z =
    let s : ℕ = run r l in
    let hs : s < 2 ^ 32 = run-lt r l hr in
    let ht' : number t < 2 ^ 32 = rw e at (number_lt t ht) in
    let empty : zeros 32 (bit_xor s (number t)) ≡ 0 = sym (run-four s t hs ht e) ∙ sym (run-append r l t) ∙ z in
    let equal : s ≡ number t = xor-zero s (number t) (zeros-zero 32 (bit_xor s (number t)) (xor_lt 32 s (number t) hs ht') empty) in
    sym (bytes-number t ht) ∙ ap₂ bytes e (sym equal)

-- ---- the same of the CRC

pub crc-lt : (l : List ℕ) → crc_of l < 2 ^ 32
unfolding crc_of
crc-lt l = run-lt all_ones l (lit< tt)

pub crc-own : (l : List ℕ) → crc_of (l ++ bytes 4 (crc_of l)) ≡ 0
unfolding crc_of
crc-own l = run-append all_ones l (bytes 4 (crc_of l)) ∙ run-own (crc_of l) (crc-lt l)

pub crc-only : (l t : List ℕ) → Bytes t → length t ≡ 4 → crc_of (l ++ t) ≡ 0 → t ≡ bytes 4 (crc_of l)
unfolding crc_of
crc-only l t = run_only all_ones l t (lit< tt)

-- ---- bytes with their CRC behind them

pub length-sealed : (l : List ℕ) → length (sealed l) ≡ length l + 4
unfolding sealed
length-sealed l = length-append l (bytes 4 (crc_of l)) ∙ ap (λ (k : ℕ). length l + k) (length-bytes 4 (crc_of l))

pub bytes-sealed : (l : List ℕ) → Bytes l → Bytes (sealed l)
unfolding sealed
bytes-sealed l b = bytes-append l (bytes 4 (crc_of l)) b (bytes-are 4 (crc_of l))

pub sealed-append : (l m : List ℕ) → sealed (l ++ m) ≡ l ++ (m ++ bytes 4 (crc_of (l ++ m)))
unfolding sealed
sealed-append l m = append_assoc l m (bytes 4 (crc_of (l ++ m)))

-- the CRC holds over them
pub holds-own : (l : List ℕ) → crc_holds (sealed l) ≡ true
unfolding crc_holds sealed
holds-own l = eq-eqb (crc_of (l ++ bytes 4 (crc_of l))) 0 (crc-own l)

-- and over no bytes with any other four at their end
pub holds-only : (n : ℕ) (s : List ℕ) → Bytes s → length s ≡ n + 4 → crc_holds s ≡ true → sealed (take n s) ≡ s
unfolding crc_holds sealed
holds-only n s b e h =
    let two : take n s ++ drop n s ≡ s = take-append-drop n s in
    let four : length (drop n s) ≡ 4 = length-drop n s ∙ omega arith in
    let zero : crc_of (take n s ++ drop n s) ≡ 0 = ap crc_of two ∙ eqb-true (crc_of s) 0 h in
    ap (λ (t : List ℕ). take n s ++ t) (sym (crc-only (take n s) (drop n s) (bytes_drop n s b) four zero)) ∙ two

-- `seal` where there is room, and behind what was laid at the front
pub sealed-at : (n : ℕ) (l : List ℕ) → n + 4 ≤ length l → sealed_at n l ≡ overlay n (bytes 4 (crc_of (take n l))) l
unfolding sealed_at
sealed-at n l h = rw (le-leb (n + 4) (length l) h)

pub sealed-next : (p out : List ℕ) (n : ℕ) → length p ≡ n → n + 4 ≤ length out → sealed_at n (overlay 0 p out) ≡ overlay 0 (sealed p) out
unfolding sealed
sealed-next p out n e h =
    let long : length (overlay 0 p out) ≡ length out = length-overlay 0 p out (omega arith) in
    let front : take n (overlay 0 p out) ≡ p = rw (← e) (take-front p out) in
    sealed-at n (overlay 0 p out) (omega arith)
    ∙ ap (λ (l : List ℕ). overlay n (bytes 4 (crc_of l)) (overlay 0 p out)) front
    ∙ overlay-next 0 p (bytes 4 (crc_of p)) out n (omega arith) (omega arith)
