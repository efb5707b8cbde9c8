-- The laws of the units and of the three kinds of stamp.
-- Assumes nothing.
use mathlib.Core.Path.{◌≡◌}
use mathlib.Core.Bool.{true, false}
use Prim.Native.Nat.{ℕ, ◌≤◌, ◌<◌}
use native.Mathlib.Omega.{arith}
use lib.Dec.{eqb, ltb, leb}
use lib.ListN.{get_or-eq_default}
use borrow.Author.Tests.{ltb-true, ltb-false, leb-true, eqb-true, eqb-false, eq-eqb, ne_eqb}
use Rattle.fields.proofs.Cases.{cases}
use Rattle.fields.proofs.Stretches.{all_are, over-stretch}
use Rattle.stamp.specs.Layout.{unit_table, units_of, is_null, kind_of, Means}
use Rattle.stamp.specs.declared.Stamp.{Stamp}
use Rattle.stamp.specs.declared.Kind.{Kind}
use Rattle.stamp.specs.declared.Kind.TheVariants.{Null, Relative, Absolute}

-- ---- the units

pub units-reserved : (bw : ℕ) → 5 < bw → units_of bw ≡ 0
units-reserved bw h = get_or-eq_default unit_table 0 h

-- a second's units fit 27 bits at every code, with null's above them
pub units-most : (bw : ℕ) → units_of bw ≤ 131
unfolding all_are
units-most bw =
    cases (ltb 5 bw)
    (λ t. rw (units-reserved bw (ltb-true 5 bw t)) (omega arith))
    (λ t. leb-true (units_of bw) 131
    (over-stretch (λ n. leb (units_of n) 131) true 0 6 tt bw (omega arith) (omega (arith, ltb-false 5 bw t))))

-- ---- the kinds

-- a null stamp has all ones in its seconds
null-later : (s : Stamp) → s.seconds ≡ 0 → is_null s ≡ false
unfolding is_null
null-later s h = rw h

-- the kind of a stamp is what it is, and no other kind is
pub kind-means : (s : Stamp) → Means (kind_of s) s
unfolding kind_of
kind-means s =
    cases (is_null s)
    (λ t. rw t t)
    (λ t. cases (eqb s.seconds 0)
    (λ z. rw (t, z) (eqb-true s.seconds 0 z))
    (λ z. rw (t, z) (t, eqb-false s.seconds 0 z)))

pub kind-only : (k : Kind) (s : Stamp) → Means k s → kind_of s ≡ k
unfolding kind_of
kind-only Null s h = rw h
kind-only Relative s h = rw (null-later s h, eq-eqb s.seconds 0 h)
kind-only Absolute s h = rw (h.0, ne_eqb s.seconds 0 h.1)
