-- The laws of gathering's refusals: which check answers, and what is known where none does.
-- Assumes nothing.
use mathlib.Core.Path.{◌≡◌, refl, sym, ◌∙◌}
use mathlib.Core.Bool.{Bool, true, false, cond, ◌||◌}
use mathlib.Core.List.{List, [], ◌∷◌, ◌++◌}
use Prim.Native.Nat.{ℕ, ◌+◌, ◌≤◌, ◌<◌}
use native.Mathlib.Omega.{arith}
use lib.Dec.{eqb, ltb}
use lib.ListN.{length, get_or}
use borrow.Author.Tests.{eq-eqb, ne_eqb, eqb-true, eqb-false, le-ltb, ltb-false, leb-false, not-false}
use Rattle.std.specs.Prelude.{Option, None, Some}
use Rattle.std.specs.Option.{option_eq}
use Rattle.fields.proofs.Cases.{cases}
use Rattle.refusals.specs.Checks.{◌when◌, first}
use Rattle.refusals.proofs.CheckLaws.{none-holds, none-front, first-zero, first-front, first-behind}
use Rattle.transport.specs.Header.{control_of, count_of, starts, payload_at, pointer_of}
use Rattle.transport.specs.Tests.{pid_outside, field_long, pointer_beyond, transport_checks}
use Rattle.gather.specs.State.{count_over, waits_out_of_step, unfit, repeats, gather_checks}
use Rattle.gather.specs.declared.Reader.{Reader}

-- ---- past 38, 1, 2 and 3

module _ (s : Reader) (t : List ℕ) (room space : ℕ) (fit : unfit s ≡ false) (whole : length t ≡ 188) (roomy : 8202 ≤ room) (spacious : 8385 ≤ space) where
  four-passed : first (gather_checks s t room space) ≡ first (transport_checks s.pid t ++ (12 when repeats s.last (count_of t) ∷ []))
  unfolding gather_checks
  four-passed = rw (fit, eq-eqb (length t) 188 whole, le-ltb room 8202 roomy, le-ltb space 8385 spacious)

  pub carriage-refused : (n : ℕ) → n ≡ first (transport_checks s.pid t) → (n ≡ 0 → ⊥) → n ≡ first (gather_checks s t room space)
  carriage-refused n e h = e ∙ sym (four-passed ∙ first-front (transport_checks s.pid t) _ (λ z. h (e ∙ z)))

  pub carriage-taken : (b : Bool) → 0 ≡ first (transport_checks s.pid t) → repeats s.last (count_of t) ≡ b → cond b 12 0 ≡ first (gather_checks s t room space)
  carriage-taken b e r =
      sym (four-passed ∙ first-behind (transport_checks s.pid t) _ (none-holds (transport_checks s.pid t) (unfold transport_checks in tt) (sym e)) ∙ rw r)

-- ---- the last count

-- `==` on options asks whether the count is repeated
pub repeats-is : (last : Option ℕ) (count : ℕ) → option_eq eqb last (Some count) ≡ repeats last count
repeats-is None count = refl
repeats-is (Some n) count =
    cases (eqb n count)
    (λ t. rw (t, eq-eqb count n (sym (eqb-true n count t))))
    (λ t. rw (t, ne_eqb count n (λ e. eqb-false n count t (sym e))))

-- ---- what is known once nothing was refused

pub record Passed (s : Reader) (t : List ℕ) (room space : ℕ) : Type 0 where
  pub fit : unfit s ≡ false
  pub whole : length t ≡ 188
  pub roomy : 8202 ≤ room
  pub spacious : 8385 ≤ space
  pub carriage : first (transport_checks s.pid t) ≡ 0
  pub field : field_long t ≡ false
  pub aims : pointer_beyond t ≡ false
  pub new : repeats s.last (count_of t) ≡ false

pub passed : (s : Reader) (t : List ℕ) (room space : ℕ) → first (gather_checks s t room space) ≡ 0 → Passed s t room space
unfolding gather_checks transport_checks
passed s t room space h =
    let n = none-holds (gather_checks s t room space) tt h in
    record {
      fit = n.0;
      whole = eqb-true _ _ (not-false _ n.1.0);
      roomy = ltb-false _ _ n.1.1.0;
      spacious = ltb-false _ _ n.1.1.1.0;
      carriage = first-zero (transport_checks s.pid t) (none-front (transport_checks s.pid t) (12 when repeats s.last (count_of t) ∷ []) n.1.1.1.1);
      field = n.1.1.1.1.1.1.1.1.1.0;
      aims = n.1.1.1.1.1.1.1.1.1.1.0;
      new = n.1.1.1.1.1.1.1.1.1.1.1.0;
    }

-- ---- where the payload lies

pub payload-from : (t : List ℕ) → 4 ≤ payload_at t
unfolding payload_at
payload-from t = cases (eqb (control_of t) 3) (λ e. rw e (omega arith)) (λ e. rw e (omega arith))

pub payload-in : (t : List ℕ) → field_long t ≡ false → payload_at t < 188
unfolding field_long payload_at
payload-in t h =
    cases (eqb (control_of t) 3)
    (λ e. rw e (omega (arith, ltb-false 182 (get_or t 4 0) (rw e at h))))
    (λ e. rw e (omega arith))

-- with a start, the byte pointed at lies in the packet
pub start-in : (t : List ℕ) → starts t ≡ true → pointer_beyond t ≡ false → payload_at t + 1 + pointer_of t < 188
unfolding pointer_beyond
start-in t b h = leb-false 188 (payload_at t + 1 + pointer_of t) (rw b at h)

-- ---- a state that is fit

pub record Fit (s : Reader) : Type 0 where
  pub inside : pid_outside s.pid ≡ false
  pub counted : count_over s.last ≡ false
  pub few : s.waiting ≤ 8201
  pub idle : waits_out_of_step s.in_step s.waiting ≡ false

none_of : (a b c d : Bool) → (a || (b || (c || d))) ≡ false → (a ≡ false) × (b ≡ false) × (c ≡ false) × (d ≡ false)
none_of true b c d h = (h, cc, cc, cc)
none_of false true c d h = (refl, h, cc, cc)
none_of false false true d h = (refl, refl, h, cc)
none_of false false false d h = (refl, refl, refl, h)

pub fit_parts : (s : Reader) → unfit s ≡ false → Fit s
unfolding unfit
fit_parts s h =
    let n = none_of (pid_outside s.pid) (count_over s.last) (ltb 8201 s.waiting) (waits_out_of_step s.in_step s.waiting) h in
    record { inside = n.0; counted = n.1; few = ltb-false _ _ n.2; idle = n.3 }

pub fit-whole : (s : Reader) → Fit s → unfit s ≡ false
unfolding unfit
fit-whole s f = rw (f.inside, f.counted, le-ltb 8201 s.waiting f.few) f.idle
