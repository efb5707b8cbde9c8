-- The laws of site timing: what the two operations show, and that every time they give is below a second.
-- Assumes nothing.
use mathlib.Core.Path.{◌≡◌, refl, sym, ap, ◌∙◌}
use mathlib.Core.Bool.{true, false, cond}
use mathlib.Core.List.{List, [], ◌∷◌}
use Prim.Native.Nat.{ℕ, ◌+◌, ◌<◌}
use native.Mathlib.Omega.{arith}
use lib.Dec.{eqb, lit<}
use lib.IntN.{ℤ, pos, neg_ℤ, ◌+ℤ◌, ◌-ℤ◌}
use borrow.Author.Tests.{eqb-true, eqb-false}
use Rattle.fields.proofs.Cases.{cases}
use Rattle.refusals.specs.Checks.{Check, ◌when◌, first}
use Rattle.refusals.proofs.CheckLaws.{none-holds, first-front, first-behind}
use Rattle.refusals.proofs.AnswerLaws.{answer-accepted, answer-refused, answer-shows}
use Rattle.mip.proofs.ModuloLaws.{modulo_lt, modulo-modulo}
use Rattle.mip.specs.Layout.{second}
use Rattle.mip.specs.Timing.{modulo, steps, over, emitted, held, emission_checks, extra_checks, time, timed, emission_of, extra_of, Time}
use Rattle.mip.specs.declared.Steps.{Steps}

-- ---- an operation that gives a time

module _ (checks : List Check) (t : Steps) where
  timed-shows : (timed checks t).refusal ≡ first checks
  timed-shows = answer-shows checks _ _ (λ (x : Time). x.refusal) (λ n. refl) refl

  timed-accepted : first checks ≡ 0 → timed checks t ≡ time 0 t
  timed-accepted z = answer-accepted checks _ _ z

  timed-refused : (first checks ≡ 0 → ⊥) → timed checks t ≡ time (first checks) (steps 0)
  timed-refused z = answer-refused checks _ _ z

  timed-below : t.0 < second → (timed checks t).steps.0 < second
  timed-below h =
      cases (eqb (first checks) 0)
      (λ e. rw (timed-accepted (eqb-true _ _ e)) h)
      (λ e. rw (timed-refused (eqb-false _ _ e)) (lit< tt))

-- ---- emission

module _ (stamp delay : Steps) (offset : ℤ) where
  pub emission-shows : (emission_of stamp delay offset).refusal ≡ first (emission_checks stamp delay offset)
  unfolding emission_of
  emission-shows = timed-shows (emission_checks stamp delay offset) _

  pub emission-accepted : first (emission_checks stamp delay offset) ≡ 0 → emission_of stamp delay offset ≡ time 0 (emitted stamp delay offset)
  unfolding emission_of
  emission-accepted z = timed-accepted (emission_checks stamp delay offset) _ z

  -- a refusal gives no time
  pub emission-refused : (first (emission_checks stamp delay offset) ≡ 0 → ⊥) → emission_of stamp delay offset ≡ time (first (emission_checks stamp delay offset)) (steps 0)
  unfolding emission_of
  emission-refused z = timed-refused (emission_checks stamp delay offset) _ z

  pub emission-below : (emission_of stamp delay offset).steps.0 < second
  unfolding emission_of
  emission-below = timed-below (emission_checks stamp delay offset) _ (modulo_lt _ second (lit< tt))

-- ---- extra delay

module _ (stamp delay : Steps) (offset : ℤ) (reception : Steps) where
  pub extra-shows : (extra_of stamp delay offset reception).refusal ≡ first (extra_checks stamp delay offset reception)
  unfolding extra_of
  extra-shows = timed-shows (extra_checks stamp delay offset reception) _

  pub extra-accepted : first (extra_checks stamp delay offset reception) ≡ 0 → extra_of stamp delay offset reception ≡ time 0 (held stamp delay offset reception)
  unfolding extra_of
  extra-accepted z = timed-accepted (extra_checks stamp delay offset reception) _ z

  pub extra-refused : (first (extra_checks stamp delay offset reception) ≡ 0 → ⊥) → extra_of stamp delay offset reception ≡ time (first (extra_checks stamp delay offset reception)) (steps 0)
  unfolding extra_of
  extra-refused z = timed-refused (extra_checks stamp delay offset reception) _ z

  pub extra-below : (extra_of stamp delay offset reception).steps.0 < second
  unfolding extra_of
  extra-below = timed-below (extra_checks stamp delay offset reception) _ (modulo_lt _ second (lit< tt))

  -- the reception time is judged last
  early : (first (emission_checks stamp delay offset) ≡ 0 → ⊥) → first (extra_checks stamp delay offset reception) ≡ first (emission_checks stamp delay offset)
  unfolding emission_checks extra_checks
  early z = first-front (emission_checks stamp delay offset) (37 when over reception ∷ []) z

  late : first (emission_checks stamp delay offset) ≡ 0 → first (extra_checks stamp delay offset reception) ≡ cond (over reception) 37 0
  unfolding emission_checks extra_checks
  late z = first-behind (emission_checks stamp delay offset) (37 when over reception ∷ []) (none-holds (emission_checks stamp delay offset) tt z)

  pub extra-early : (first (emission_checks stamp delay offset) ≡ 0 → ⊥) → extra_of stamp delay offset reception ≡ emission_of stamp delay offset
  extra-early z =
      extra-refused (λ e. z (sym (early z) ∙ e)) ∙ ap (λ (n : ℕ). time n (steps 0)) (early z) ∙ sym (emission-refused stamp delay offset z)

  pub extra-late : first (emission_checks stamp delay offset) ≡ 0 → over reception ≡ true → extra_of stamp delay offset reception ≡ time 37 (steps 0)
  extra-late z t =
      let e : first (extra_checks stamp delay offset reception) ≡ 37 = late z ∙ rw t in
      extra-refused (λ n. let k : ◌≡◌ {A = ℕ} 37 0 = sym e ∙ n in omega arith) ∙ ap (λ (n : ℕ). time n (steps 0)) e

  pub extra-passed : first (emission_checks stamp delay offset) ≡ 0 → over reception ≡ false → extra_of stamp delay offset reception ≡ time 0 (held stamp delay offset reception)
  extra-passed z t = extra-accepted (late z ∙ rw t)

  -- as annex B has it: one sum, and one remainder
  pub held-once : held stamp delay offset reception ≡ steps (modulo (pos (stamp.0 + delay.0) +ℤ offset -ℤ pos reception.0) second)
  held-once = ap steps (modulo-modulo (pos (stamp.0 + delay.0) +ℤ offset) (neg_ℤ (pos reception.0)) second (lit< tt))
