-- The fields of a header: how large they are, and what a test of its number says of them.
-- Assumes nothing.
use mathlib.Core.Path.{◌≡◌}
use mathlib.Core.Bool.{true, false, cond}
use mathlib.Core.List.{List}
use Prim.Native.Nat.{ℕ, ◌/◌, ◌%◌, ◌+◌, ◌≤◌, ◌<◌}
use native.Mathlib.Omega.{arith}
use lib.Dec.{eqb, leb}
use lib.ListN.{get_or}
use borrow.Author.Tests.{eq-eqb, ne_eqb, eqb-false, lt-ltb, le-ltb}
use Rattle.fields.specs.Formats.{unpack}
use Rattle.fields.proofs.Cases.{cases}
use Rattle.transport.specs.Header.{head_of, header_field, control_of, count_of, starts, payload_at, pointer_of}
use Rattle.transport.specs.Tests.{no_payload, field_long, pointer_beyond}

module _ (t : List ℕ) where
  pub count-few : count_of t < 16
  unfolding header_field unpack
  count-few = omega arith

  -- adaptation control 00 or 10 is an even one
  pub even-control : head_of t / 16 % 2 ≡ 0 → no_payload t ≡ true
  unfolding header_field unpack
  even-control e =
      cases (eqb (head_of t / 16 % 4) 0)
      (λ z. rw z)
      (λ z. let n : head_of t / 16 % 4 ≡ 0 → ⊥ = eqb-false _ _ z in rw (z, eq-eqb (head_of t / 16 % 4) 2 (omega arith)))

  pub odd-control : (head_of t / 16 % 2 ≡ 0 → ⊥) → no_payload t ≡ false
  unfolding header_field unpack
  odd-control h = rw (ne_eqb (head_of t / 16 % 4) 0 (λ z. h (omega arith)), ne_eqb (head_of t / 16 % 4) 2 (λ z. h (omega arith)))

  -- a field of over 182 bytes leaves no payload within 188 bytes
  pub payload-out : 187 < payload_at t → field_long t ≡ true
  unfolding payload_at field_long
  payload-out h =
      cases (eqb (control_of t) 3)
      (λ e. let k : 187 < 5 + get_or t 4 0 = rw e at h in rw e (lt-ltb 182 (get_or t 4 0) (omega arith)))
      (λ e. let k : 187 < 4 = rw e at h in absurd (omega arith))

  pub payload-within : payload_at t ≤ 187 → field_long t ≡ false
  unfolding payload_at field_long
  payload-within h =
      cases (eqb (control_of t) 3)
      (λ e. let k : 5 + get_or t 4 0 ≤ 187 = rw e at h in rw e (le-ltb 182 (get_or t 4 0) (omega arith)))
      (λ e. rw e)

  -- the pointer counts only where there is a start
  pub aims-nowhere : starts t ≡ false → pointer_beyond t ≡ false
  unfolding pointer_beyond
  aims-nowhere b = rw b

  pub aims-by : starts t ≡ true → (n p : ℕ) → n ≡ payload_at t → p ≡ cond (starts t) (pointer_of t) 0 → pointer_beyond t ≡ leb 188 (n + 1 + p)
  unfolding pointer_beyond
  aims-by b n p e f = rw (e, f, b)
