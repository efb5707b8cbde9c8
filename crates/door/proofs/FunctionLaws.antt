-- sfn_function_write: the list of checks over C's fields has the number that is shown, kind by kind.
-- Assumes nothing.
use mathlib.Core.Path.{◌≡◌, refl, sym}
use mathlib.Core.Bool.{true, false}
use mathlib.Core.List.{List, [], ◌∷◌}
use Prim.Native.Nat.{ℕ, zero, suc, ◌<◌, ◌≤◌}
use native.Mathlib.Omega.{arith}
use lib.Dec.{eqb, ltb}
use lib.IntN.{ℤ, pos, negsuc}
use lib.ListN.{length}
use borrow.Author.Tests.{ltb-true, ltb-false, lt-ltb, le-ltb, ne_eqb}
use Rattle.fields.specs.Formats.{unpack, too_wide}
use Rattle.fields.specs.Numbers.{bytes}
use Rattle.fields.specs.Signed.{beyond_signed}
use Rattle.fields.proofs.Cases.{cases}
use Rattle.refusals.specs.Checks.{Check, ◌when◌, first}
use Rattle.functions.specs.Tags.{body_long}
use Rattle.functions.specs.Function.{body_of}
use Rattle.functions.specs.Write.{unfit, reserved, write_checks, write_of}
use Rattle.functions.specs.declared.Function.{Function}
use Rattle.functions.specs.declared.Function.TheVariants.{TimeOffset, FrequencyOffset, Power, Private, Cell, Enable, Bandwidth, Passed}
use Rattle.demands.specs.Demand1.{wrote_nothing, Writes}
use Rattle.demands.proofs.MeetsOne.{meets-one}
use Rattle.sfn.specs.Making.{made_of, function_written}
use Rattle.door.specs.Demand1.{function_checks}
use Rattle.door.proofs.Flat.{same_writes, refuses}

wide : (v : ℕ) → ltb 65535 v ≡ true → ltb v 65536 ≡ false
wide v h = le-ltb v 65536 (omega (arith, ltb-true 65535 v h))

fits : (v : ℕ) → ltb 65535 v ≡ false → ltb v 65536 ≡ true
fits v h = lt-ltb v 65536 (omega (arith, ltb-false 65535 v h))

module _ (tag : ℕ) (wait rest : ℕ) (carried out : List ℕ) where
  abbrev Right : ℕ → ℤ → Type 0
  Right kind value =
      Writes (function_checks kind tag value wait rest (length carried) (length out)) out
      (function_written (made_of kind tag value wait rest (length carried)) carried out)

  -- nothing is made: 38
  nothing : (checks : List Check) → first checks ≡ 38 → Writes checks out (wrote_nothing out 38)
  nothing checks e = same_writes (38 when true ∷ []) checks out _ (sym e) (refuses 38 out)

  made : (f : Function) (checks : List Check) → first checks ≡ first (write_checks f carried (length out)) → Writes checks out (write_of f carried out)
  made f checks e = same_writes (write_checks f carried (length out)) checks out _ (sym e) (meets-one.function_write f carried out)

  -- ---- kinds that carry a body

  passed : (value : ℤ) → Right 7 value
  unfolding function_checks made_of write_checks unfit reserved body_of
  passed value = made (Passed tag) _ refl

  private : (value : ℤ) → Right 3 value
  unfolding function_checks made_of write_checks unfit reserved body_of
  private value = cases (eqb tag 3) (λ t. rw t (made Private _ refl)) (λ t. rw t (nothing _ refl))

  enable : (value : ℤ) → Right 5 value
  unfolding function_checks made_of write_checks unfit reserved body_of
  enable value = cases (eqb tag 5) (λ t. rw t (made Enable _ refl)) (λ t. rw t (nothing _ refl))

  -- ---- kinds with fields

  time : (value : ℤ) → Right 0 value
  unfolding function_checks made_of write_checks unfit reserved body_of body_long bytes unpack
  time value =
      cases (eqb tag 0)
      (λ t. cases (ltb 0 (length carried))
      (λ n. rw (t, n) (nothing _ refl))
      (λ n. cases (beyond_signed 16 value)
      (λ v. rw (t, n, v) (nothing _ refl))
      (λ v. rw (t, n, v) (made (TimeOffset value) _ (rw v)))))
      (λ t. rw t (nothing _ refl))

  frequency : (value : ℤ) → Right 1 value
  unfolding function_checks made_of write_checks unfit reserved body_of body_long bytes unpack
  frequency value =
      cases (eqb tag 1)
      (λ t. cases (ltb 0 (length carried))
      (λ n. rw (t, n) (nothing _ refl))
      (λ n. rw (t, n) (made (FrequencyOffset value) _ refl)))
      (λ t. rw t (nothing _ refl))

  power : (value : ℤ) → Right 2 value
  unfolding function_checks made_of too_wide write_checks unfit reserved body_of body_long bytes unpack
  power (pos v) =
      cases (eqb tag 2)
      (λ t. cases (ltb 0 (length carried))
      (λ n. rw (t, n) (nothing _ refl))
      (λ n. cases (ltb 65535 v)
      (λ w. rw (t, n, w) (nothing _ (rw (wide v w))))
      (λ w. rw (t, n, w) (made (Power v) _ refl))))
      (λ t. rw t (nothing _ refl))
  power (negsuc k) =
      cases (eqb tag 2)
      (λ t. cases (ltb 0 (length carried)) (λ n. rw (t, n) (nothing _ refl)) (λ n. rw (t, n) (nothing _ refl)))
      (λ t. rw t (nothing _ refl))

  cell : (value : ℤ) → Right 4 value
  unfolding function_checks made_of too_wide write_checks unfit reserved body_of body_long bytes unpack
  cell (pos v) =
      cases (eqb tag 4)
      (λ t. cases (ltb 0 (length carried))
      (λ n. rw (t, n) (nothing _ refl))
      (λ n. cases (ltb 65535 v)
      (λ v₁. cases (ltb 1 wait)
      (λ w. rw (t, n, v₁, w) (nothing _ (rw (wide v v₁))))
      (λ w. rw (t, n, v₁, w) (nothing _ (rw (wide v v₁)))))
      (λ v₁. cases (ltb 1 wait)
      (λ w. rw (t, n, v₁, w) (nothing _ (rw (fits v v₁))))
      (λ w. cases (eqb wait 1)
      (λ b. rw (t, n, v₁, w, b) (made (Cell v true rest) _ (rw (fits v v₁))))
      (λ b. rw (t, n, v₁, w, b) (made (Cell v false rest) _ (rw (fits v v₁))))))))
      (λ t. rw t (nothing _ refl))
  cell (negsuc k) =
      cases (eqb tag 4)
      (λ t. cases (ltb 0 (length carried))
      (λ n. rw (t, n) (nothing _ refl))
      (λ n. cases (ltb 1 wait) (λ w. rw (t, n, w) (nothing _ refl)) (λ w. rw (t, n, w) (nothing _ refl))))
      (λ t. rw t (nothing _ refl))

  bandwidth : (value : ℤ) → Right 6 value
  unfolding function_checks made_of too_wide write_checks unfit reserved body_of body_long bytes unpack
  bandwidth (pos v) =
      cases (eqb tag 6)
      (λ t. cases (ltb 0 (length carried))
      (λ n. rw (t, n) (nothing _ refl))
      (λ n. cases (ltb 1 wait)
      (λ w. cases (ltb v 128) (λ u. rw (t, n, w) (nothing _ (rw u))) (λ u. rw (t, n, w) (nothing _ (rw u))))
      (λ w. cases (ltb 255 v)
      (λ v₁. rw (t, n, w, v₁) (nothing _ (rw (le-ltb v 128 (omega (arith, ltb-true 255 v v₁))))))
      (λ v₁. cases (eqb wait 1)
      (λ b. rw (t, n, w, v₁, b) (made (Bandwidth v true) _ refl))
      (λ b. rw (t, n, w, v₁, b) (made (Bandwidth v false) _ refl))))))
      (λ t. rw t (nothing _ refl))
  bandwidth (negsuc k) =
      cases (eqb tag 6)
      (λ t. cases (ltb 0 (length carried))
      (λ n. rw (t, n) (nothing _ refl))
      (λ n. cases (ltb 1 wait) (λ w. rw (t, n, w) (nothing _ refl)) (λ w. rw (t, n, w) (nothing _ refl))))
      (λ t. rw t (nothing _ refl))

  -- ---- no such kind

  over : (kind : ℕ) (value : ℤ) → 7 < kind → Right kind value
  unfolding function_checks made_of
  over kind value h =
      let no : (k : ℕ) → k ≤ 7 → eqb kind k ≡ false = λ k l. ne_eqb kind k (λ e. absurd (omega arith)) in
      rw (lt-ltb 7 kind h, no 7 (omega arith), no 3 (omega arith), no 5 (omega arith), no 0 (omega arith), no 1 (omega arith), no 2 (omega arith), no 4 (omega arith), no 6 (omega arith))
      (cases (eqb tag kind)
      (λ t. cases (ltb 0 (length carried))
      (λ n. rw (t, n) (nothing _ refl))
      (λ n. cases (ltb 1 wait) (λ w. rw (t, n, w) (nothing _ refl)) (λ w. rw (t, n, w) (nothing _ refl))))
      (λ t. rw t (nothing _ refl)))

  pub function-writes : (kind : ℕ) (value : ℤ) → Right kind value
  function-writes zero value = time value
  function-writes (suc zero) value = frequency value
  function-writes (suc (suc zero)) value = power value
  function-writes (suc (suc (suc zero))) value = private value
  function-writes (suc (suc (suc (suc zero)))) value = cell value
  function-writes (suc (suc (suc (suc (suc zero))))) value = enable value
  function-writes (suc (suc (suc (suc (suc (suc zero)))))) value = bandwidth value
  function-writes (suc (suc (suc (suc (suc (suc (suc zero))))))) value = passed value
  function-writes (suc (suc (suc (suc (suc (suc (suc (suc k)))))))) value = over (suc (suc (suc (suc (suc (suc (suc (suc k)))))))) value (omega arith)
