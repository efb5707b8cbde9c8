-- The laws of decimal digits: they are read back as the number, have no leading zero, and how many there are.
-- Assumes nothing.
use mathlib.Core.Path.{◌≡◌, refl, sym, ap, ◌∙◌, subst}
use mathlib.Core.List.{List, [], ◌∷◌, ◌++◌}
use Prim.Native.Nat.{ℕ, zero, suc, ◌+◌, ◌-◌, ◌*◌, ◌/◌, ◌%◌, ◌^◌, ◌≤◌, ◌<◌}
use native.Mathlib.Nat.{div-lt_iff_lt-mul, pow-suc}
use native.Mathlib.Omega.{arith}
use lib.Dec.{eqb}
use lib.ListN.{length, get_or, take, length-append, get_or-append}
use lib.Seq.{length-take-le, take_all, take-suc, get_or-take}
use borrow.Author.Tests.{ne_eqb, eqb-true, eqb-false}
use Rattle.fields.proofs.Cases.{cases}
use lib.IntN.{ℤ, pos, negsuc}
use lib.Signed.{mag}
use Rattle.std.specs.Fmt.{decimal, signed_decimal}
use Rattle.std.proofs.lemmas.Fmt.{decimal_by_steps}
use Rattle.text.specs.Digits.{digit, spell_by, spell, digits, minus, signed, value_from, value, AllDigits, Decimal}

-- ---- how the digits of a number over 0 go on

-- a bound beyond the number changes nothing
by-any : (k m n : ℕ) → n ≤ k → n ≤ m → spell_by k n ≡ spell_by m n
unfolding spell_by
by-any zero zero n hk hm = refl
by-any zero (suc m) zero hk hm = refl
by-any zero (suc m) (suc n) hk hm = absurd (omega arith)
by-any (suc k) zero zero hk hm = refl
by-any (suc k) zero (suc n) hk hm = absurd (omega arith)
by-any (suc k) (suc m) zero hk hm = refl
by-any (suc k) (suc m) (suc n) hk hm =
    ap (λ (l : List ℕ). l ++ (digit (suc n % 10) ∷ [])) (by-any k m (suc n / 10) (omega arith) (omega arith))

pub spell-zero : spell 0 ≡ []
unfolding spell spell_by
spell-zero = refl

pub spell-more : (n : ℕ) → 0 < n → spell n ≡ spell (n / 10) ++ (digit (n % 10) ∷ [])
unfolding spell spell_by
spell-more zero h = absurd (omega arith)
spell-more (suc n) h = ap (λ (l : List ℕ). l ++ (digit (suc n % 10) ∷ [])) (by-any n (suc n / 10) (suc n / 10) (omega arith) (omega arith))

pub digits-zero : digits 0 ≡ digit 0 ∷ []
unfolding digits
digits-zero = refl

pub digits_more : (n : ℕ) → 0 < n → digits n ≡ spell n
unfolding digits
digits_more n h = rw (ne_eqb n 0 (λ z. omega arith))

-- ---- induction over the digits

-- what holds of 0, and of each number over 0 where it holds of a tenth of it, holds of every number
module _ (P : ℕ → Type 0) (nought : P 0) (on : (n : ℕ) → 0 < n → P (n / 10) → P n) where
  up_to : (k n : ℕ) → n ≤ k → P n
  up_to zero zero h = nought
  up_to zero (suc n) h = absurd (omega arith)
  up_to (suc k) zero h = nought
  up_to (suc k) (suc n) h = on (suc n) (omega arith) (up_to k (suc n / 10) (omega arith))

  pub tenths : (n : ℕ) → P n
  tenths n = up_to n n (omega arith)

-- ---- they are read back as the number

value-append : (a : ℕ) (l m : List ℕ) → value_from a (l ++ m) ≡ value_from (value_from a l) m
unfolding value_from
value-append a [] m = refl
value-append a (d ∷ l) m = value-append (a * 10 + (d - 48)) l m

value-last : (l : List ℕ) (n : ℕ) → value l ≡ n / 10 → value (l ++ (digit (n % 10) ∷ [])) ≡ n
unfolding value value_from
value-last l n h = value-append 0 l (digit (n % 10) ∷ []) ∙ rw h (omega arith)

pub value-spell : (n : ℕ) → value (spell n) ≡ n
value-spell = tenths (λ n. value (spell n) ≡ n) (rw spell-zero (unfold value in unfold value_from in refl)) (λ n h r. rw (spell-more n h) (value-last (spell (n / 10)) n r))

-- A theorem: what is written reads as the number
pub value-digits : (n : ℕ) → value (digits n) ≡ n
value-digits zero = unfold digits in unfold value in unfold value_from in refl
value-digits (suc n) = rw (digits_more (suc n) (omega arith)) (value-spell (suc n))

-- ---- how many there are

length_more : (n : ℕ) → 0 < n → length (spell n) ≡ length (spell (n / 10)) + 1
length_more n h = ap length (spell-more n h) ∙ length-append (spell (n / 10)) (digit (n % 10) ∷ [])

spell-few : (k n : ℕ) → n < 10 ^ k → length (spell n) ≤ k
spell-few zero zero h = rw spell-zero (omega arith)
spell-few zero (suc n) h = absurd (omega arith)
spell-few (suc k) zero h = rw spell-zero (omega arith)
spell-few (suc k) (suc n) h =
    let t : suc n / 10 < 10 ^ k = (div-lt_iff_lt-mul {k = 10} {x = suc n} {y = 10 ^ k} (omega arith)).1 (rw (pow-suc 10 k) at h) in
    omega (arith, length_more (suc n) (omega arith), spell-few k (suc n / 10) t)

-- a number below ten to the k has at most k digits
pub digits-few : (k n : ℕ) → n < 10 ^ k → 0 < k → length (digits n) ≤ k
digits-few k zero h p = rw digits-zero (omega arith)
digits-few k (suc n) h p = rw (digits_more (suc n) (omega arith)) (spell-few k (suc n) h)

-- ---- they are digits, and the first is no zero

digits_last : (l : List ℕ) (d : ℕ) → AllDigits l → 48 ≤ d → d ≤ 57 → AllDigits (l ++ (d ∷ []))
digits_last [] d a h k = (h, k, tt)
digits_last (e ∷ l) d a h k = (a.0, a.1, digits_last l d a.2 h k)

spell-all : (n : ℕ) → AllDigits (spell n)
spell-all =
    tenths (λ n. AllDigits (spell n)) (rw spell-zero tt)
    (λ n h r. rw (spell-more n h) (digits_last (spell (n / 10)) (digit (n % 10)) r (omega arith) (omega arith)))

spell-lead : (n : ℕ) → 0 < n → 48 < get_or (spell n) 0 0
spell-lead =
    tenths (λ n. 0 < n → 48 < get_or (spell n) 0 0) (λ h. absurd (omega arith))
    (λ n h r p. rw (spell-more n h) (cases (eqb (n / 10) 0)
    (λ t. let z : n / 10 ≡ 0 = eqb-true (n / 10) 0 t in rw (z, spell-zero) (omega arith))
    (λ t. let q : 0 < n / 10 = omega (arith, eqb-false (n / 10) 0 t) in
    rw (get_or-append (spell (n / 10)) (digit (n % 10) ∷ []) 0 0 (omega (arith, length_more (n / 10) q))) (r q))))

-- A theorem: digits alone, and no leading zero
pub digits_decimal : (n : ℕ) → Decimal (digits n)
digits_decimal zero = rw digits-zero (record { some = omega arith; each = (omega arith, omega arith, tt); lead = λ h. absurd (omega arith) })
digits_decimal (suc n) =
    rw (digits_more (suc n) (omega arith))
    (record { some = omega (arith, length_more (suc n) (omega arith)); each = spell-all (suc n); lead = λ h. spell-lead (suc n) (omega arith) })

-- ---- no other decimal text is read as the number

all_split : (l m : List ℕ) → AllDigits (l ++ m) → AllDigits l × AllDigits m
all_split [] m a = (tt, a)
all_split (d ∷ l) m a = let r = all_split l m a.2 in ((a.0, a.1, r.0), r.1)

value-end : (l : List ℕ) (d : ℕ) → value (l ++ (d ∷ [])) ≡ value l * 10 + (d - 48)
unfolding value value_from
value-end l d = value-append 0 l (d ∷ [])

-- a text that ends with d, where what stands before it is spelt
spelt-end : (l : List ℕ) (d : ℕ) → 48 ≤ d → d ≤ 57 → l ≡ spell (value l) → 0 < value (l ++ (d ∷ [])) → l ++ (d ∷ []) ≡ spell (value (l ++ (d ∷ [])))
spelt-end l d h k e p =
    let v : ℕ = value (l ++ (d ∷ [])) in
    let q : v / 10 ≡ value l = omega (arith, value-end l d) in
    let r : digit (v % 10) ≡ d = omega (arith, value-end l d) in
    sym (spell-more v p ∙ ap (λ (n : ℕ). spell n ++ (digit (v % 10) ∷ [])) q ∙ ap (λ (n : ℕ). spell (value l) ++ (n ∷ [])) r ∙ ap (λ (m : List ℕ). m ++ (d ∷ [])) (sym e))

-- the first of so many digits is no zero
spelt-by : (n : ℕ) (l : List ℕ) → length l ≡ n → AllDigits l → (0 < n → 48 < get_or l 0 0) → (l ≡ spell (value l)) × (0 < n → 0 < value l)
spelt-by zero [] e a h = (unfold value in unfold value_from in sym spell-zero, λ p. absurd (omega arith))
spelt-by zero (d ∷ l) e a h = absurd (omega arith)
spelt-by (suc n) l e a h =
    let m : List ℕ = take n l in
    let d : ℕ = get_or l n 0 in
    let two : l ≡ m ++ (d ∷ []) = sym (take_all (suc n) l (omega arith)) ∙ take-suc l n 0 (omega arith) in
    let parts : AllDigits m × AllDigits (d ∷ []) = all_split m (d ∷ []) (subst AllDigits two a) in
    let long : length m ≡ n = length-take-le n l (omega arith) in
    let r = spelt-by n m long parts.0 (λ p. rw (get_or-take n l 0 0 p) (h (omega arith))) in
    let v : 0 < value (m ++ (d ∷ [])) = first-counts n m d r.1 (λ z. subst (λ k. 48 < get_or l k 0) (sym z) (h (omega arith))) in
    subst (λ (k : List ℕ). (k ≡ spell (value k)) × (0 < suc n → 0 < value k)) (sym two) (spelt-end m d parts.1.0 parts.1.1 r.0 v, λ p. v)
  where
    first-counts : (n : ℕ) (m : List ℕ) (d : ℕ) → (0 < n → 0 < value m) → (n ≡ 0 → 48 < d) → 0 < value (m ++ (d ∷ []))
    first-counts zero m d f g = omega (arith, value-end m d, g refl)
    first-counts (suc n) m d f g = omega (arith, value-end m d, f (omega arith))

-- A theorem: decimal text is the digits of the number that it is read as
pub digits-only : (l : List ℕ) → Decimal l → l ≡ digits (value l)
digits-only [] c = absurd (omega (arith, c.some))
digits-only (d ∷ []) c = one-digit d c.each.0 c.each.1
  where
    one-digit : (d : ℕ) → 48 ≤ d → d ≤ 57 → d ∷ [] ≡ digits (value (d ∷ []))
    one-digit d h k =
        cases (eqb d 48)
        (λ t. let z : d ≡ 48 = eqb-true d 48 t in rw z (unfold value in unfold value_from in unfold digits in refl))
        (λ t. let p : 0 < value (d ∷ []) = omega (arith, value-end [] d, eqb-false d 48 t) in
        rw (digits_more (value (d ∷ [])) p) (spelt-end [] d h k (unfold value in unfold value_from in sym spell-zero) p))
digits-only (d ∷ e ∷ l) c =
    let r = spelt-by (length (d ∷ e ∷ l)) (d ∷ e ∷ l) refl c.each (λ p. c.lead (omega arith)) in
    rw (digits_more (value (d ∷ e ∷ l)) (r.1 (omega arith))) r.0

-- ---- std's text of a number is the same

digits_one : (n : ℕ) → n < 10 → digit n ∷ [] ≡ digits n
digits_one zero h = sym digits-zero
digits_one (suc n) h =
    let d : suc n / 10 ≡ 0 = omega arith in
    let r : suc n % 10 ≡ suc n = omega arith in
    rw (digits_more (suc n) (omega arith), spell-more (suc n) (omega arith), d, r, spell-zero) refl

digits_step : (n : ℕ) (ds : List ℕ) → 10 ≤ n → ds ≡ digits (n / 10) → ds ++ (digit (n % 10) ∷ []) ≡ digits n
digits_step n ds h e = rw (e, digits_more (n / 10) (omega arith), digits_more n (omega arith), spell-more n (omega arith)) refl

-- A theorem: what `{}` prints of a number of 64 bits are its digits
pub decimal_is_digits : (n : ℕ) → n < 2 ^ 64 → decimal n ≡ digits n
decimal_is_digits = decimal_by_steps (λ n ds. ds ≡ digits n) digits_one digits_step

-- and of a signed one of 64 bits
pub signed_decimal_is_signed : (z : ℤ) → mag z < 2 ^ 63 → signed_decimal z ≡ signed z
unfolding signed
signed_decimal_is_signed (pos n) h = decimal_is_digits n (omega arith)
signed_decimal_is_signed (negsuc k) h = ap (λ (l : List ℕ). minus ∷ l) (decimal_is_digits (suc k) (omega arith))
