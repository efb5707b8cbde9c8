-- Numbers and their bytes undo each other, over any count of bytes: the laws of a format at widths of 8.
-- Assumes nothing.
use mathlib.Core.Path.{◌≡◌, refl, sym, ap, ap₂, ◌∙◌}
use mathlib.Core.List.{List, [], ◌∷◌, ◌++◌, append_assoc, append-nil}
use Prim.Native.Nat.{ℕ, zero, suc, ◌+◌, ◌-◌, ◌*◌, ◌/◌, ◌%◌, ◌^◌, ◌≤◌, ◌<◌}
use native.Mathlib.Nat.{zero-add, suc-add, add_assoc, mul_assoc, add-mul, zero-mul, mod-eq_of_lt, lt_of_lt_of_le, not-suc-le-zero, div-one}
use native.Mathlib.Omega.{arith}
use lib.Dec.{lit<}
use lib.ListN.{length, get_or, take, drop, replicate, length-replicate, length-append}
use lib.Bits.{bit_or, or_shifted}
use lib.Pow.{pow-add, pow_mono}
use lib.Seq.{get_or-drop, take_all}
use Rattle.std.specs.Int.{w32, w64, to_be_bytes}
use Rattle.std.specs.List.{fold}
use Rattle.fields.proofs.FormatLaws.{pack-lt, pack-unpack-mod, unpack-pack, length-unpack, unpack-fit}
use Rattle.fields.specs.Formats.{span, pack, unpack, Fit}
use Rattle.fields.specs.Numbers.{Bytes, number, bytes}

-- the bits of k bytes
pub span-bytes : (k : ℕ) → span (replicate k 8) ≡ 8 * k
span-bytes zero = refl
span-bytes (suc k) = ap (λ (n : ℕ). 8 + n) (span-bytes k) ∙ eq k
  where
    eq : (m : ℕ) → 8 + 8 * m ≡ 8 * suc m
    eq m = omega arith

-- ---- bytes are below 256

pub bytes-tail : (b : ℕ) (l : List ℕ) → Bytes (b ∷ l) → Bytes l
bytes-tail b l h i = h (suc i)

fits-bytes : (l : List ℕ) → Bytes l → Fit (replicate (length l) 8) l
fits-bytes [] h = tt
fits-bytes (b ∷ l) h = (h 0, fits-bytes l (bytes-tail b l h))

bytes_fit : (k : ℕ) (l : List ℕ) → Fit (replicate k 8) l → Bytes l
bytes_fit zero [] h i = lit< tt
bytes_fit zero (b ∷ l) h i = absurd h
bytes_fit (suc k) [] h i = absurd h
bytes_fit (suc k) (b ∷ l) h zero = h.0
bytes_fit (suc k) (b ∷ l) h (suc i) = bytes_fit k l h.1 i

pub bytes-are : (k n : ℕ) → Bytes (bytes k n)
unfolding bytes
bytes-are k n = bytes_fit k (unpack (replicate k 8) n) (unpack-fit (replicate k 8) n)

pub bytes-append : (l m : List ℕ) → Bytes l → Bytes m → Bytes (l ++ m)
bytes-append [] m hl hm i = hm i
bytes-append (b ∷ l) m hl hm zero = hl 0
bytes-append (b ∷ l) m hl hm (suc i) = bytes-append l m (bytes-tail b l hl) hm i

pub bytes_drop : (n : ℕ) (l : List ℕ) → Bytes l → Bytes (drop n l)
bytes_drop n l h i = rw (get_or-drop n l i 0) (h (n + i))

pub bytes_take : (n : ℕ) (l : List ℕ) → Bytes l → Bytes (take n l)
bytes_take zero l h i = lit< tt
bytes_take (suc n) [] h i = lit< tt
bytes_take (suc n) (b ∷ l) h zero = h 0
bytes_take (suc n) (b ∷ l) h (suc i) = bytes_take n l (bytes-tail b l h) i

-- ---- the two round trips

pub length-bytes : (k n : ℕ) → length (bytes k n) ≡ k
unfolding bytes
length-bytes k n = length-unpack (replicate k 8) n ∙ length-replicate k 8

pub number_lt : (l : List ℕ) → Bytes l → number l < 2 ^ (8 * length l)
unfolding number
number_lt l h = rw (← span-bytes (length l)) (pack-lt (replicate (length l) 8) l (fits-bytes l h))

pub bytes-number : (l : List ℕ) → Bytes l → bytes (length l) (number l) ≡ l
unfolding number bytes
bytes-number l h = unpack-pack (replicate (length l) 8) l (fits-bytes l h)

pub number-bytes-mod : (k n : ℕ) → number (bytes k n) ≡ n % 2 ^ (8 * k)
unfolding number bytes
number-bytes-mod k n =
    ap (λ (m : ℕ). pack (replicate m 8) (unpack (replicate k 8) n)) (length-bytes k n)
    ∙ pack-unpack-mod (replicate k 8) n
    ∙ ap (λ (m : ℕ). n % 2 ^ m) (span-bytes k)

pub number-bytes : (k n : ℕ) → n < 2 ^ (8 * k) → number (bytes k n) ≡ n
number-bytes k n h = number-bytes-mod k n ∙ mod-eq_of_lt h

-- ---- one byte more, and lists after each other

pub number-nil : number [] ≡ 0
unfolding number pack
number-nil = refl

pub number-cons : (b : ℕ) (l : List ℕ) → number (b ∷ l) ≡ b * 2 ^ (8 * length l) + number l
unfolding number pack
number-cons b l = ap (λ (m : ℕ). b * 2 ^ m + pack (replicate (length l) 8) l) (span-bytes (length l))

pub number_append : (l m : List ℕ) → number (l ++ m) ≡ number l * 2 ^ (8 * length m) + number m
number_append [] m =
    sym (ap (λ (x : ℕ). x * 2 ^ (8 * length m) + number m) number-nil
    ∙ ap (λ (x : ℕ). x + number m) (zero-mul (2 ^ (8 * length m)))
    ∙ zero-add (number m))
number_append (b ∷ l) m =
    let P : ℕ = 2 ^ (8 * length m) in
    number-cons b (l ++ m)
    ∙ ap₂ (λ (x y : ℕ). b * x + y)
    (ap (λ (x : ℕ). 2 ^ (8 * x)) (length-append l m) ∙ ap (λ (x : ℕ). 2 ^ x) (eight (length l) (length m)) ∙ pow-add 2 (8 * length l) (8 * length m))
    (number_append l m)
    ∙ ap (λ (x : ℕ). x + (number l * P + number m)) (sym (mul_assoc b (2 ^ (8 * length l)) P))
    ∙ sym (add_assoc (b * 2 ^ (8 * length l) * P) (number l * P) (number m))
    ∙ ap (λ (x : ℕ). x + number m) (sym (add-mul (b * 2 ^ (8 * length l)) (number l) P))
    ∙ ap (λ (x : ℕ). x * P + number m) (sym (number-cons b l))
  where
    eight : (i j : ℕ) → 8 * (i + j) ≡ 8 * i + 8 * j
    eight i j = omega arith

pub number-snoc : (l : List ℕ) (b : ℕ) → number (l ++ (b ∷ [])) ≡ number l * 256 + b
number-snoc l b = number_append l (b ∷ []) ∙ ap (λ (x : ℕ). number l * 256 + x) (number-cons b [] ∙ ap (λ (x : ℕ). b * 1 + x) number-nil ∙ omega arith)

pub bytes-cons : (k n : ℕ) → bytes (suc k) n ≡ n / 2 ^ (8 * k) % 256 ∷ bytes k n
unfolding bytes unpack
bytes-cons k n = ap (λ (m : ℕ). n / 2 ^ m % 256 ∷ unpack (replicate k 8) n) (span-bytes k)

-- the byte at i of k
pub get_or-bytes : (k n i : ℕ) → i < k → get_or (bytes k n) i 0 ≡ n / 2 ^ (8 * (k - 1 - i)) % 256
get_or-bytes zero n i h = absurd (not-suc-le-zero h)
get_or-bytes (suc k) n zero h =
    ap (λ (l : List ℕ). get_or l 0 0) (bytes-cons k n) ∙ ap (λ (m : ℕ). n / 2 ^ (8 * m) % 256) (first k)
  where
    first : (j : ℕ) → j ≡ suc j - 1 - 0
    first j = omega arith
get_or-bytes (suc k) n (suc i) h =
    ap (λ (l : List ℕ). get_or l (suc i) 0) (bytes-cons k n)
    ∙ get_or-bytes k n i (omega arith)
    ∙ ap (λ (m : ℕ). n / 2 ^ (8 * m) % 256) (next k i)
  where
    next : (j m : ℕ) → j - 1 - m ≡ suc j - 1 - suc m
    next j m = omega arith

-- ---- as code reads and lays them

-- a byte more, as an integer of eight bytes takes it in
abbrev pub taken_in : ℕ → ℕ → ℕ
taken_in v b = bit_or (v * 2 ^ 8 % 2 ^ 64) b

taken-in : (l : List ℕ) (b : ℕ) → Bytes l → b < 256 → length l < 8 → taken_in (number l) b ≡ number (l ++ (b ∷ []))
taken-in l b s h k =
    let room : number l < 2 ^ 56 = lt_of_lt_of_le (number_lt l s) (pow_mono {i = 8 * length l} {j = 56} (omega arith)) in
    ap (λ (v : ℕ). bit_or v b) (mod-eq_of_lt (omega arith)) ∙ or_shifted (number l) 8 b h ∙ sym (number-snoc l b)

-- up to eight bytes, the first ones before the others
fold_number : (l m : List ℕ) → Bytes l → Bytes m → length l + length m ≤ 8
    → fold taken_in (number l) m ≡ number (l ++ m)
fold_number l [] s t h = ap number (sym (append-nil l))
fold_number l (b ∷ m) s t h =
    let e : length (l ++ (b ∷ [])) ≡ length l + 1 = length-append l (b ∷ []) in
    ap (λ (v : ℕ). fold taken_in v m) (taken-in l b s (t 0) (omega arith))
    ∙ fold_number (l ++ (b ∷ [])) m (bytes-append l (b ∷ []) s (one b (t 0))) (bytes-tail b m t) (omega arith)
    ∙ ap number (append_assoc l (b ∷ []) m)
  where
    one : (b : ℕ) → b < 256 → Bytes (b ∷ [])
    one b h zero = h
    one b h (suc i) = lit< tt

pub number_of_fold : (l : List ℕ) → Bytes l → length l ≤ 8 → fold taken_in 0 l ≡ number l
number_of_fold l s h =
    ap (λ (v : ℕ). fold taken_in v l) (sym number-nil) ∙ fold_number [] l (λ i. lit< tt) s (omega arith)

drop-bytes : (j k n : ℕ) → drop j (bytes (j + k) n) ≡ bytes k n
drop-bytes zero k n = ap (λ (m : ℕ). bytes m n) (zero-add k)
drop-bytes (suc j) k n =
    ap (λ (m : ℕ). drop (suc j) (bytes m n)) (suc-add j k)
    ∙ ap (drop (suc j)) (bytes-cons (j + k) n)
    ∙ drop-bytes j k n

-- all bytes of an integer of four, and of one of eight
pub four_be_bytes : (n : ℕ) → to_be_bytes w32 n ≡ bytes 4 n
unfolding bytes unpack
four_be_bytes n = simp div-one

eight_be_bytes : (n : ℕ) → to_be_bytes w64 n ≡ bytes 8 n
unfolding bytes unpack
eight_be_bytes n = simp div-one

-- the last k of eight
pub last_bytes : (k n : ℕ) (l : List ℕ) → l ≡ to_be_bytes w64 n → k ≤ 8 → take (8 - (8 - k)) (drop (8 - k) l) ≡ bytes k n
last_bytes k n l i h =
    let e : 8 ≡ 8 - k + k = omega arith in
    let whole : l ≡ bytes (8 - k + k) n = i ∙ eight_be_bytes n ∙ ap (λ (m : ℕ). bytes m n) e in
    ap (λ (m : List ℕ). take (8 - (8 - k)) (drop (8 - k) m)) whole
    ∙ ap (take (8 - (8 - k))) (drop-bytes (8 - k) k n)
    ∙ take_all (8 - (8 - k)) (bytes k n) (omega (arith, length-bytes k n))

-- four bytes
pub four_bytes : (a b c d : ℕ) → number (a ∷ b ∷ c ∷ d ∷ []) ≡ a * 16777216 + (b * 65536 + (c * 256 + d))
four_bytes a b c d =
    number-cons a (b ∷ c ∷ d ∷ [])
    ∙ ap (λ (x : ℕ). a * 16777216 + x) (number-cons b (c ∷ d ∷ [])
    ∙ ap (λ (x : ℕ). b * 65536 + x) (number-cons c (d ∷ [])
    ∙ ap (λ (x : ℕ). c * 256 + x) (number-cons d [] ∙ ap (λ (x : ℕ). d * 1 + x) number-nil ∙ omega arith)))
