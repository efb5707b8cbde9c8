-- The null stamp is read at every bandwidth code, although its subseconds reach a second.
-- Assumes nothing.
use mathlib.Core.Path.{◌≡◌, refl, sym, ap, ◌∙◌}
use mathlib.Core.Bool.{false}
use Prim.Native.Nat.{ℕ, ◌+◌, ◌*◌, ◌/◌, ◌%◌, ◌^◌, ◌≤◌}
use native.Mathlib.Omega.{arith}
use lib.Dec.{lit<}
use lib.ListN.{replicate}
use borrow.Author.Tests.{le-leb, le-ltb}
use Rattle.fields.specs.Formats.{pack, unpack, Fit}
use Rattle.fields.specs.Numbers.{bytes}
use Rattle.fields.proofs.FormatLaws.{unpack-halves}
use Rattle.stamp.proofs.LayoutLaws.{units-most}
use Rattle.stamp.proofs.RoundTrips.{reads}
use Rattle.stamp.specs.Layout.{format, second_of, ones, null_stamp, null_bytes, is_null, kind_of, second_reached}
use Rattle.stamp.specs.Read.{read_of}
use Rattle.stamp.specs.Write.{fields_of, stamp_bytes}
use Rattle.stamp.specs.declared.Kind.TheVariants.{Null}

pub record NullRead (bw : ℕ) : Type 0 where
  pub reaches : second_of bw ≤ (null_stamp bw).subseconds.0
  pub reads : read_of (null_bytes bw) ≡ record { refusal = 0; stamp = null_stamp bw }
  pub kind : kind_of (null_stamp bw) ≡ Null

module _ (bw : ℕ) (h : bw ≤ 5) where
  fit : Fit format (fields_of (null_stamp bw))
  fit = (lit< tt, (omega arith, (lit< tt, (lit< tt, (lit< tt, tt)))))

  bytes-null : stamp_bytes (null_stamp bw) ≡ null_bytes bw
  unfolding stamp_bytes pack bytes unpack
  bytes-null =
      let n : pack format (fields_of (null_stamp bw)) ≡ bw * 2 ^ 80 + ones 80 = omega arith in
      let b : bw / 1 % 256 ≡ bw = omega arith in
      ap (bytes 11) n ∙ unpack-halves (replicate 1 8) (replicate 10 8) bw (ones 80) (lit< tt) ∙ rw b

  over : second_of bw ≤ ones 27
  over = omega (arith, units-most bw)

  excepted : second_reached (null_stamp bw) ≡ false
  unfolding second_reached is_null
  excepted = rw (le-leb (second_of bw) (ones 27) over)

  pub null-read : NullRead bw
  unfolding kind_of is_null
  null-read =
      record {
        reaches = over;
        reads = ap read_of (sym bytes-null) ∙ reads (null_stamp bw) fit (le-ltb 5 bw h) excepted;
        kind = refl;
      }
