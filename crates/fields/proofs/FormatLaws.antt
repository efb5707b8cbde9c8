-- A format's two round trips, over any list of widths: packing and unpacking undo each other. A format in two halves is the
-- two formats.
-- Assumes nothing.
use mathlib.Core.Path.{◌≡◌, refl, sym, ap, ap₂, ◌∙◌}
use mathlib.Core.Bool.{true, false}
use mathlib.Core.List.{List, [], ◌∷◌, ◌++◌}
use Prim.Native.Nat.{ℕ, suc, ◌+◌, ◌-◌, ◌*◌, ◌/◌, ◌%◌, ◌^◌, ◌<◌}
use native.Mathlib.Nat.{zero-add, add_assoc, add-mul, mul_assoc, zero-mul, mod-lt, mod-mod, mod-one, mod-eq_of_lt, add_comm}
use lib.Arith.{digits_lt}
use lib.Dec.{ltb, lit<}
use lib.ListN.{length}
use lib.Pow.{pow_pos, pow-add, shr-shr, high, low, field, mod-mod-pow, mod-pow-add, ones_lt, le_ones}
use native.Mathlib.Omega.{arith}
use borrow.Author.Tests.{ltb-true, ltb-false, lt-ltb, le-ltb}
use Rattle.fields.proofs.Cases.{cases, true≢false}
use Rattle.fields.specs.Formats.{span, pack, unpack, Fit, too_wide}

-- ---- what is packed fits, and what is unpacked fits

pub pack-lt : (ws fs : List ℕ) → Fit ws fs → pack ws fs < 2 ^ span ws
unfolding pack
pack-lt [] [] h = lit< tt
pack-lt [] (f ∷ fs) h = absurd h
pack-lt (w ∷ ws) [] h = absurd h
pack-lt (w ∷ ws) (f ∷ fs) h =
    rw (pow-add 2 w (span ws)) (digits_lt h.0 (pack-lt ws fs h.1))

pub unpack-fit : (ws : List ℕ) (n : ℕ) → Fit ws (unpack ws n)
unfolding unpack
unpack-fit [] n = tt
unpack-fit (w ∷ ws) n = (mod-lt (n / 2 ^ span ws) (pow_pos w), unpack-fit ws n)

pub length-unpack : (ws : List ℕ) (n : ℕ) → length (unpack ws n) ≡ length ws
unfolding unpack
length-unpack [] n = refl
length-unpack (w ∷ ws) n = ap suc (length-unpack ws n)

-- ---- pack of unpack: the number, as far as the format reaches

pub pack-unpack-mod : (ws : List ℕ) (n : ℕ) → pack ws (unpack ws n) ≡ n % 2 ^ span ws
unfolding pack unpack
pack-unpack-mod [] n = sym (mod-one n)
pack-unpack-mod (w ∷ ws) n =
    ap (λ (m : ℕ). n / 2 ^ span ws % 2 ^ w * 2 ^ span ws + m) (pack-unpack-mod ws n)
    ∙ sym (mod-pow-add n w (span ws))

pub pack-unpack : (ws : List ℕ) (n : ℕ) → n < 2 ^ span ws → pack ws (unpack ws n) ≡ n
pack-unpack ws n h = pack-unpack-mod ws n ∙ mod-eq_of_lt h

-- ---- unpack of pack: the fields

-- bits above the format are not looked at
pub unpack-mod : (ws : List ℕ) (n : ℕ) → unpack ws (n % 2 ^ span ws) ≡ unpack ws n
unfolding unpack
unpack-mod [] n = refl
unpack-mod (w ∷ ws) n =
    ap₂ ◌∷◌
    (ap (λ (m : ℕ). m % 2 ^ w) (field n w (span ws)) ∙ mod-mod (n / 2 ^ span ws) (2 ^ w))
    (sym (unpack-mod ws (n % 2 ^ (w + span ws)))
    ∙ ap (unpack ws) (mod-mod-pow n w (span ws))
    ∙ unpack-mod ws n)

pub unpack-pack : (ws fs : List ℕ) → Fit ws fs → unpack ws (pack ws fs) ≡ fs
unfolding pack unpack
unpack-pack [] [] h = refl
unpack-pack [] (f ∷ fs) h = absurd h
unpack-pack (w ∷ ws) [] h = absurd h
unpack-pack (w ∷ ws) (f ∷ fs) h =
    let rest : pack ws fs < 2 ^ span ws = pack-lt ws fs h.1 in
    ap₂ ◌∷◌
    (ap (λ (m : ℕ). m % 2 ^ w) (high f (span ws) rest) ∙ mod-eq_of_lt h.0)
    (sym (unpack-mod ws (f * 2 ^ span ws + pack ws fs))
    ∙ ap (unpack ws) (low f (span ws) rest)
    ∙ unpack-pack ws fs h.1)

-- ---- the test for values that are too wide

pub not-too-wide : (ws fs : List ℕ) → length ws ≡ length fs → too_wide ws fs ≡ false → Fit ws fs
unfolding too_wide
not-too-wide [] [] e h = tt
not-too-wide [] (f ∷ fs) e h = omega arith
not-too-wide (w ∷ ws) [] e h = omega arith
not-too-wide (w ∷ ws) (f ∷ fs) e h =
    cases (ltb f (2 ^ w))
    (λ t. (ltb-true f (2 ^ w) t, not-too-wide ws fs (omega arith) (rw t at h)))
    (λ t. let z : true ≡ false = rw t at h in absurd (true≢false z))

pub fit-not-wide : (ws fs : List ℕ) → Fit ws fs → too_wide ws fs ≡ false
unfolding too_wide
fit-not-wide [] fs h = refl
fit-not-wide (w ∷ ws) [] h = refl
fit-not-wide (w ∷ ws) (f ∷ fs) h = rw (lt-ltb f (2 ^ w) h.0) (fit-not-wide ws fs h.1)

-- the test as code makes it of a format's last field: against the largest value that fits
pub wide-last : (w f : ℕ) → ltb (2 ^ w - 1) f ≡ too_wide (w ∷ []) (f ∷ [])
unfolding too_wide
wide-last w f =
    cases (ltb f (2 ^ w))
    (λ t. rw (t, le-ltb (2 ^ w - 1) f (le_ones w (ltb-true f (2 ^ w) t))))
    (λ t. rw (t, lt-ltb (2 ^ w - 1) f (omega (arith, ones_lt w, ltb-false f (2 ^ w) t))))

-- ---- a format in two halves is the two formats, one after the other

pub span-append : (vs ws : List ℕ) → span (vs ++ ws) ≡ span vs + span ws
span-append [] ws = sym (zero-add (span ws))
span-append (v ∷ vs) ws = ap (λ (n : ℕ). v + n) (span-append vs ws) ∙ sym (add_assoc v (span vs) (span ws))

pub unpack-append : (vs ws : List ℕ) (n : ℕ) → unpack (vs ++ ws) n ≡ unpack vs (n / 2 ^ span ws) ++ unpack ws n
unfolding unpack
unpack-append [] ws n = refl
unpack-append (v ∷ vs) ws n =
    ap₂ ◌∷◌
    (ap (λ (x : ℕ). x % 2 ^ v)
    (ap (λ (k : ℕ). n / 2 ^ k) (span-append vs ws ∙ add_comm (span vs) (span ws)) ∙ sym (shr-shr n (span ws) (span vs))))
    (unpack-append vs ws n)

-- the fields of two numbers that stand side by side in one
pub unpack-halves : (vs ws : List ℕ) (a b : ℕ) → b < 2 ^ span ws → unpack (vs ++ ws) (a * 2 ^ span ws + b) ≡ unpack vs a ++ unpack ws b
unpack-halves vs ws a b h =
    unpack-append vs ws (a * 2 ^ span ws + b)
    ∙ ap₂ ◌++◌
    (ap (unpack vs) (high a (span ws) h))
    (sym (unpack-mod ws (a * 2 ^ span ws + b)) ∙ ap (unpack ws) (low a (span ws) h))

pub pack-append : (vs ws fs gs : List ℕ) → length vs ≡ length fs → pack (vs ++ ws) (fs ++ gs) ≡ pack vs fs * 2 ^ span ws + pack ws gs
unfolding pack
pack-append [] ws [] gs e = rw (zero-mul (2 ^ span ws), zero-add (pack ws gs))
pack-append [] ws (f ∷ fs) gs e = omega arith
pack-append (v ∷ vs) ws [] gs e = omega arith
pack-append (v ∷ vs) ws (f ∷ fs) gs e =
    rw (span-append vs ws, pow-add 2 (span vs) (span ws), pack-append vs ws fs gs (omega arith), add-mul (f * 2 ^ span vs) (pack vs fs) (2 ^ span ws), mul_assoc f (2 ^ span vs) (2 ^ span ws), add_assoc (f * (2 ^ span vs * 2 ^ span ws)) (pack vs fs * 2 ^ span ws) (pack ws gs))
