-- Timestamp payloads (01, "Timestamp and addressing payloads").
use Rattle.std.specs.Prelude.{ℕ, ◌≤◌, ◌≡◌, List, length}
use Rattle.fields.specs.Numbers.{Bytes}
use Rattle.refusals.specs.Checks.{first}
use Rattle.stamp.specs.Layout.{units_of, Means, null_stamp, null_bytes}
use Rattle.stamp.specs.Read.{read_checks, stamp_of}
use Rattle.stamp.specs.Write.{write_checks, stamp_bytes}
use Rattle.stamp.specs.declared.Stamp.{Stamp}
use Rattle.demands.specs.Library.{Library}
use Rattle.demands.specs.Demand2.Writing.{laid, written_by}

pub record Stamps (lib : Library) : Type 0 where
  -- where no check of 01's list holds: each field from its place, and each field to its place
  pub reads : (payload : List ℕ) → first (read_checks payload) ≡ 0 → lib.stamp_read payload ≡ record { refusal = 0; stamp = stamp_of payload }
  pub writes : (s : Stamp) (out : List ℕ) → first (write_checks s (length out)) ≡ 0 → lib.stamp_write s out ≡ laid (stamp_bytes s) out
  -- what was written is read as the same stamp
  pub back : (s : Stamp) (out : List ℕ) → (lib.stamp_write s out).answer.refusal ≡ 0
      → lib.stamp_read (written_by (lib.stamp_write s out)) ≡ record { refusal = 0; stamp = s }
  -- what is read is written as the same bytes
  pub forth : (payload out : List ℕ) → Bytes payload → (lib.stamp_read payload).refusal ≡ 0 → length payload ≤ length out
      → lib.stamp_write (lib.stamp_read payload).stamp out ≡ laid payload out
  -- the null stamp is read at each bandwidth code, though its subseconds reach a second
  pub null : (bw : ℕ) → bw ≤ 5 → lib.stamp_read (null_bytes bw) ≡ record { refusal = 0; stamp = null_stamp bw }
  -- null where the three fields are all ones, relative where the seconds are 0, and else absolute
  pub kinds : (s : Stamp) → Means (lib.stamp_kind s) s
  -- the subsecond units in a microsecond: 131, 40, 48, 56, 64, 80 for bw 0 to 5, and none for the others
  pub units : (bw : ℕ) → lib.units bw ≡ units_of bw
