-- A digit of four bits may be looked up in a table, however many digits stand behind it, and a list that equals what the rule
-- computes keeps the rule. The first holds because feeding is linear and low digits only move up; the second is an induction on
-- the list.
-- Assumes nothing.
use mathlib.Core.Path.{◌≡◌, refl, sym, ap, ap₂, ◌∙◌}
use mathlib.Core.List.{List, [], ◌∷◌}
use Prim.Native.Nat.{ℕ, zero, suc, ◌+◌, ◌*◌, ◌/◌, ◌%◌, ◌^◌, ◌≤◌, ◌<◌}
use native.Mathlib.Nat.{add-zero, add-suc, suc-add, div-eq_of_lt, div-one, lt_of_le_of_lt}
use native.Mathlib.Omega.{arith}
use lib.ListN.{length, get_or, take, drop, take-append-drop}
use lib.Seq.{take-add}
use lib.Pow.{shr-shr, shr_le}
use lib.Bits.{bit_xor, xor_lt, xor_shifted, xor_comm, xor_zero_r}
use Rattle.std.specs.List.{fold}
use Rattle.std.specs.Simd.{first_chunks}
use Rattle.fields.specs.Numbers.{Bytes, number}
use Rattle.fields.specs.Parts.{part}
use Rattle.fields.proofs.NumberLaws.{number_lt, four_bytes}
use Rattle.fields.proofs.PartLaws.{length_part, part_bytes, part_none, part-whole, part-add, part-cons}
use Rattle.crc.specs.Crc.{feed, run}
use Rattle.crc.specs.Tables.{zeros, Tables}
use Rattle.crc.proofs.XorLaws.{xor_assoc}
use Rattle.crc.proofs.FeedLaws.{feed-lt, feed-xor, zeros-add, zeros-none}
use Rattle.crc.proofs.TopLaws.{feed-looked-up, zeros-low}
use Rattle.crc.proofs.RunLaws.{run-append}
use Rattle.crc.proofs.OwnLaws.{run-four}

-- ---- the last digit of a register, and the others

-- zero bits through a sum
zeros-xor : (k a b : ℕ) → a < 2 ^ 32 → b < 2 ^ 32 → zeros k (bit_xor a b) ≡ bit_xor (zeros k a) (zeros k b)
zeros-xor k a b ha hb = feed-xor k a b 0 0 ha hb

-- the last digit has as many digits behind it as go in beyond eight
last-digit : (base d : ℕ) → d < 16 → zeros (4 * (base + 8)) d ≡ zeros (4 * (base + 1)) (d * 2 ^ 28)
last-digit base d h =
    let e : 4 * (base + 8) ≡ 28 + 4 * (base + 1) = omega arith in
    ap (λ (k : ℕ). zeros k d) e ∙ zeros-add 28 (4 * (base + 1)) d ∙ ap (zeros (4 * (base + 1))) (zeros-low 28 4 d refl h)

-- the others have one more
other-digits : (base y : ℕ) → y < 2 ^ 28 → zeros (4 * (base + 8)) (y * 2 ^ 4) ≡ zeros (4 * (base + 1 + 8)) y
other-digits base y h =
    let e : 4 * (base + 1 + 8) ≡ 4 + 4 * (base + 8) = omega arith in
    ap (zeros (4 * (base + 8))) (sym (zeros-low 4 28 y refl h)) ∙ sym (zeros-add 4 (4 * (base + 8)) y) ∙ ap (λ (k : ℕ). zeros k y) (sym e)

pub digit-off : (base x : ℕ) → x < 2 ^ 32 → zeros (4 * (base + 8)) x ≡ bit_xor (zeros (4 * (base + 1)) (x % 16 * 2 ^ 28)) (zeros (4 * (base + 1 + 8)) (x / 16))
digit-off base x h =
    let parts : bit_xor (x / 16 * 2 ^ 4) (x % 16) ≡ x = xor_shifted (x / 16) 4 (x % 16) (omega arith) ∙ omega arith in
    ap (zeros (4 * (base + 8))) (sym parts)
    ∙ zeros-xor (4 * (base + 8)) (x / 16 * 2 ^ 4) (x % 16) (omega arith) (omega arith)
    ∙ ap₂ bit_xor (other-digits base (x / 16) (omega arith)) (last-digit base (x % 16) (omega arith))
    ∙ xor_comm (zeros (4 * (base + 1 + 8)) (x / 16)) (zeros (4 * (base + 1)) (x % 16 * 2 ^ 28))

pub rest_lt : (k register rest : ℕ) → register < 2 ^ 32 → rest ≡ register / 2 ^ k → rest < 2 ^ 32
rest_lt k register rest h e = rw e (lt_of_le_of_lt (shr_le register k) h)

-- what the sum so far and the digits from j on give, and one turn of a loop over the eight digits, the last one first
abbrev pub with_rest : ℕ → ℕ → ℕ → ℕ → ℕ
with_rest base register sum j = bit_xor sum (zeros (4 * (base + j + 8)) (register / 2 ^ (4 * j)))

module _ (base register : ℕ) (h : register < 2 ^ 32) where
  pub no_digit : with_rest base register 0 0 ≡ zeros (4 * (base + 8)) register
  no_digit = xor_comm 0 _ ∙ xor_zero_r _ ∙ ap₂ (λ (m x : ℕ). zeros (4 * (m + 8)) x) (add-zero base) (div-one register)

  pub digit-turn : (j sum entry : ℕ) → entry ≡ zeros (4 * (base + j + 1)) (register / 2 ^ (4 * j) % 16 * 2 ^ 28)
      → with_rest base register (bit_xor sum entry) (j + 1) ≡ with_rest base register sum j
  digit-turn j sum entry e =
      let rest : ℕ = register / 2 ^ (4 * j) in
      let width : 4 * (base + (j + 1) + 8) ≡ 4 * (base + j + 1 + 8) = omega arith in
      let shifted : 4 * j + 4 ≡ 4 * (j + 1) = omega arith in
      let others : register / 2 ^ (4 * (j + 1)) ≡ rest / 16 =
      sym (shr-shr register (4 * j) 4 ∙ ap (λ (k : ℕ). register / 2 ^ k) shifted) in
      let small : rest < 2 ^ 32 = rest_lt (4 * j) register rest h refl in
      xor_assoc sum entry (zeros (4 * (base + (j + 1) + 8)) (register / 2 ^ (4 * (j + 1))))
      ∙ ap (bit_xor sum) (ap₂ bit_xor e (ap₂ zeros width others) ∙ sym (digit-off (base + j) rest small))

  -- after eight turns no digit is left
  pub all_digits : (j sum : ℕ) → j ≡ 8 → with_rest base register sum j ≡ sum
  all_digits j sum e =
      let none : register / 2 ^ (4 * j) ≡ 0 = ap (λ (k : ℕ). register / 2 ^ (4 * k)) e ∙ div-eq_of_lt h in
      ap (λ (x : ℕ). bit_xor sum (zeros (4 * (base + j + 8)) x)) none
      ∙ ap (bit_xor sum) (zeros-none (4 * (base + j + 8)))
      ∙ xor_zero_r sum

-- ---- a byte by its two digits

-- the sum that is looked up has eight bits
pub place-lt : (r b : ℕ) → r < 2 ^ 32 → b < 256 → bit_xor (r / 2 ^ 24) b < 256
place-lt r b hr hb = xor_lt 8 (r / 2 ^ 24) b (omega arith) hb

pub byte-looked-up : (k : ℕ) → k < 256 → zeros 8 (k * 2 ^ 24) ≡ bit_xor (zeros 8 (k / 16 % 16 * 2 ^ 28)) (zeros 4 (k % 16 * 2 ^ 28))
byte-looked-up k h =
    let z : k / 16 / 16 ≡ 0 = omega arith in
    ap (zeros 8) (sym (zeros-low 24 8 k refl h))
    ∙ sym (zeros-add 24 8 k)
    ∙ digit-off 0 k (omega arith)
    ∙ ap (bit_xor (zeros 4 (k % 16 * 2 ^ 28)))
    (digit-off 1 (k / 16) (omega arith)
    ∙ ap (λ (n : ℕ). bit_xor (zeros 8 (k / 16 % 16 * 2 ^ 28)) (zeros 40 n)) z
    ∙ ap (bit_xor (zeros 8 (k / 16 % 16 * 2 ^ 28))) (zeros-none 40)
    ∙ xor_zero_r (zeros 8 (k / 16 % 16 * 2 ^ 28)))
    ∙ xor_comm (zeros 4 (k % 16 * 2 ^ 28)) (zeros 8 (k / 16 % 16 * 2 ^ 28))

pub feed-byte : (r b k : ℕ) → r < 2 ^ 32 → b < 256 → k ≡ bit_xor (r / 2 ^ 24) b
    → feed 8 r b ≡ bit_xor (bit_xor (zeros 8 (k / 16 % 16 * 2 ^ 28)) (zeros 4 (k % 16 * 2 ^ 28))) (r * 2 ^ 8 % 2 ^ 32)
feed-byte r b k hr hb e =
    feed-looked-up 8 24 r b refl hr hb
    ∙ ap (λ (x : ℕ). bit_xor (zeros 8 (x * 2 ^ 24)) (r * 2 ^ 8 % 2 ^ 32)) (sym e)
    ∙ ap (λ (x : ℕ). bit_xor x (r * 2 ^ 8 % 2 ^ 32)) (byte-looked-up k (rw e (place-lt r b hr hb)))

-- ---- eight bytes by two numbers of four

pub number-four : (i : ℕ) (l : List ℕ) → i + 4 ≤ length l
    → number (part i 4 l) ≡ get_or l i 0 * 16777216 + (get_or l (i + 1) 0 * 65536 + (get_or l (i + 2) 0 * 256 + get_or l (i + 3) 0))
number-four i l h =
    let two : i + 1 + 1 ≡ i + 2 = omega arith in
    let three : i + 2 + 1 ≡ i + 3 = omega arith in
    rw (
      part-cons i 3 l (omega arith),
      part-cons (i + 1) 2 l (omega arith),
      two,
      part-cons (i + 2) 1 l (omega arith),
      three,
      part-cons (i + 3) 0 l (omega arith),
      part_none (i + 3 + 1) l,
    )
    (four_bytes (get_or l i 0) (get_or l (i + 1) 0) (get_or l (i + 2) 0) (get_or l (i + 3) 0))

pub run-eight : (r i : ℕ) (l : List ℕ) → r < 2 ^ 32 → Bytes l → i + 8 ≤ length l
    → run r (part i 8 l) ≡ bit_xor (zeros 64 (bit_xor r (number (part i 4 l)))) (zeros 32 (number (part (i + 4) 4 l)))
run-eight r i l hr bl h =
    let a : List ℕ = part i 4 l in
    let b : List ℕ = part (i + 4) 4 l in
    let la : length (part i 4 l) ≡ 4 = length_part i 4 l (omega arith) in
    let lb : length (part (i + 4) 4 l) ≡ 4 = length_part (i + 4) 4 l (omega arith) in
    let na : number (part i 4 l) < 2 ^ 32 = rw la at (number_lt (part i 4 l) (part_bytes i 4 l bl)) in
    let nb : number (part (i + 4) 4 l) < 2 ^ 32 = rw lb at (number_lt (part (i + 4) 4 l) (part_bytes (i + 4) 4 l bl)) in
    let x : ℕ = bit_xor r (number (part i 4 l)) in
    let hx : bit_xor r (number (part i 4 l)) < 2 ^ 32 = xor_lt 32 r (number (part i 4 l)) hr na in
    ap (run r) (part-add i 4 4 l)
    ∙ run-append r a b
    ∙ ap (λ (y : ℕ). run y b) (run-four r a hr (part_bytes i 4 l bl) la)
    ∙ run-four (zeros 32 x) b (feed-lt 32 x 0 hx) (part_bytes (i + 4) 4 l bl) lb
    ∙ zeros-xor 32 (zeros 32 x) (number (part (i + 4) 4 l)) (feed-lt 32 x 0 hx) nb
    ∙ ap (λ (y : ℕ). bit_xor y (zeros 32 (number (part (i + 4) 4 l)))) (sym (zeros-add 32 32 x))

-- a list of eight, by the numbers of its halves
pub run_of_eight : (r : ℕ) (l : List ℕ) (first second : ℕ) → r < 2 ^ 32 → Bytes l → length l ≡ 8
    → first ≡ number (part 0 4 l) → second ≡ number (part 4 4 l)
    → bit_xor (zeros 64 (bit_xor r first)) (zeros 32 second) ≡ run r l
run_of_eight r l first second hr bl e f g =
    ap₂ (λ (x y : ℕ). bit_xor (zeros 64 (bit_xor r x)) (zeros 32 y)) f g
    ∙ sym (run-eight r 0 l hr bl (omega arith))
    ∙ ap (λ (n : ℕ). run r (part 0 n l)) (sym e)
    ∙ ap (run r) (part-whole l)

-- k lists of eight after each other
run_chunks : (k r : ℕ) (l : List ℕ) → fold run r (first_chunks 8 k l) ≡ run r (take (k * 8) l)
unfolding run
run_chunks zero r l = refl
run_chunks (suc k) r l =
    let e : 8 + k * 8 ≡ suc k * 8 = omega arith in
    run_chunks k (run r (take 8 l)) (drop 8 l)
    ∙ sym (run-append r (take 8 l) (take (k * 8) (drop 8 l)))
    ∙ ap (run r) (sym (take-add 8 (k * 8) l) ∙ ap (λ (n : ℕ). take n l) e)

-- all bytes, so many eights and then the last ones
pub run_eights : (k r : ℕ) (l : List ℕ) → run (fold run r (first_chunks 8 k l)) (drop (k * 8) l) ≡ run r l
run_eights k r l =
    ap (λ (s : ℕ). run s (drop (k * 8) l)) (run_chunks k r l)
    ∙ sym (run-append r (take (k * 8) l) (drop (k * 8) l))
    ∙ ap (run r) (take-append-drop (k * 8) l)

-- ---- a table's rule, by one computed test

-- what f gives at n numbers from i on
abbrev pub values_from : (ℕ → ℕ) → ℕ → ℕ → List ℕ
values_from f i zero = []
values_from f i (suc n) = f i ∷ values_from f (suc i) n

length-values : (f : ℕ → ℕ) (i n : ℕ) → length (values_from f i n) ≡ n
length-values f i zero = refl
length-values f i (suc n) = ap suc (length-values f (suc i) n)

get_or-values : (f : ℕ → ℕ) (i n k : ℕ) → k < n → get_or (values_from f i n) k 0 ≡ f (i + k)
get_or-values f i zero k h = omega arith
get_or-values f i (suc n) zero h = rw (add-zero i)
get_or-values f i (suc n) (suc k) h = rw (add-suc i k, ← suc-add i k) (get_or-values f (suc i) n k (omega arith))

-- what the rule asks for at index i of tables one behind the other
abbrev pub entry_at : ℕ → ℕ
entry_at i = zeros (4 * (i / 16 + 1)) (i % 16 * 2 ^ 28)

-- the test of a whole table is one equation of lists, which `refl` computes
pub tables-rule : (n : ℕ) {t : List ℕ} → t ≡ values_from entry_at 0 (16 * n) → Tables n t
tables-rule n {t} e = record { long = omega (arith, ap length e, length-values entry_at 0 (16 * n)); entry = entry }
  where
    entry : (j k : ℕ) → j < n → k < 16 → get_or t (16 * j + k) 0 ≡ zeros (4 * (j + 1)) (k * 2 ^ 28)
    entry j k hj hk =
        let part : (0 + (16 * j + k)) / 16 ≡ j = omega arith in
        let digit : (0 + (16 * j + k)) % 16 ≡ k = omega arith in
        rw (e, get_or-values entry_at 0 (16 * n) (16 * j + k) (omega arith), part, digit)

-- the first of them are tables too
pub fewer : (m n : ℕ) (t : List ℕ) → m ≤ n → Tables n t → Tables m t
fewer m n t h r = record { long = omega (arith, r.long); entry = λ j k hj hk. r.entry j k (omega arith) hk }
