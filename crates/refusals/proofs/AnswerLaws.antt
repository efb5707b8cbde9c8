-- The laws of answers: what an operation gives where it accepts, and where it refuses.
-- Assumes nothing.
use mathlib.Core.Path.{◌≡◌, refl, sym, ap, ◌∙◌}
use mathlib.Core.List.{List}
use Prim.Native.Nat.{ℕ}
use lib.Dec.{eqb}
use lib.ListN.{length}
use borrow.Author.Tests.{eq-eqb, ne_eqb, eqb-true, eqb-false}
use Rattle.std.specs.Prelude.{Result, IsErrAnd}
use Rattle.std.proofs.lemmas.Result.{err_from_is_err_and}
use Rattle.fields.proofs.Cases.{cases}
use Rattle.fields.specs.Parts.{overlay}
use Rattle.refusals.specs.Checks.{Check, first}
use Rattle.refusals.specs.Refusals.{number_of}
use Rattle.refusals.specs.Answers.{answer, told, code, bytes_of, Wrote, written}
use Rattle.refusals.specs.declared.Refusal.{Refusal}
use Rattle.refusals.proofs.NumberLaws.{number-not-0}

module _ {A : Type 0} (checks : List Check) (refused : ℕ → A) (accepted : A) where
  pub answer-accepted : first checks ≡ 0 → answer checks refused accepted ≡ accepted
  unfolding answer
  answer-accepted h = rw (eq-eqb (first checks) 0 h)

  pub answer-refused : (first checks ≡ 0 → ⊥) → answer checks refused accepted ≡ refused (first checks)
  unfolding answer
  answer-refused h = rw (ne_eqb (first checks) 0 h)

  -- a function that has the number in hand
  pub answer-number : (n : ℕ) → n ≡ first checks → (n ≡ 0 → ⊥) → refused n ≡ answer checks refused accepted
  answer-number n e h = ap refused e ∙ sym (answer-refused (λ z. h (e ∙ z)))

  -- a function that has the refusal in hand
  pub answer-told : (e : Refusal) → number_of e ≡ first checks → refused (number_of e) ≡ answer checks refused accepted
  answer-told e h = answer-number (number_of e) h (number-not-0 e)

  -- the exit of a `?`: the refusal goes on as it is
  pub answer-exit : {T : Type 0} (f : T → A) (r : Result T Refusal) (e : Refusal) → IsErrAnd r (λ y. y ≡ e) → number_of e ≡ first checks
      → told refused f r ≡ answer checks refused accepted
  answer-exit f r e p h = let q = err_from_is_err_and r p in rw (q.1, q.2) (answer-told e h)

  -- the refusal that an answer shows is the first that holds
  pub answer-shows : (shown : A → ℕ) → ((n : ℕ) → shown (refused n) ≡ n) → shown accepted ≡ 0 → shown (answer checks refused accepted) ≡ first checks
  answer-shows shown r a =
      cases (eqb (first checks) 0)
      (λ t. ap shown (answer-accepted (eqb-true _ _ t)) ∙ a ∙ sym (eqb-true _ _ t))
      (λ t. ap shown (answer-refused (eqb-false _ _ t)) ∙ r (first checks))

module _ (checks : List Check) (result out : List ℕ) where
  pub written-shows : (written checks result out).answer.refusal ≡ first checks
  unfolding written
  written-shows = answer-shows checks _ _ (λ (w : Wrote). w.answer.refusal) (λ n. refl) refl

  pub written-accepted : first checks ≡ 0 → written checks result out ≡ record { answer = record { refusal = 0; bytes = length result }; out = overlay 0 result out }
  unfolding written
  written-accepted h = answer-accepted checks _ _ h

  pub written-number : (n : ℕ) → n ≡ first checks → (n ≡ 0 → ⊥) → record { answer = record { refusal = n; bytes = 0 }; out = out } ≡ written checks result out
  unfolding written
  written-number n e h = answer-number checks _ _ n e h

  pub written-told : (e : Refusal) → number_of e ≡ first checks → record { answer = record { refusal = number_of e; bytes = 0 }; out = out } ≡ written checks result out
  written-told e h = written-number (number_of e) h (number-not-0 e)

  pub written-exit : (r : Result ℕ Refusal) (e : Refusal) → IsErrAnd r (λ y. y ≡ e) → number_of e ≡ first checks
      → record { answer = bytes_of r; out = out } ≡ written checks result out
  written-exit r e p h = let q = err_from_is_err_and r p in rw (q.1, q.2) (written-told e h)

  -- a refusal writes nothing
  pub written-refused : (first checks ≡ 0 → ⊥) → written checks result out ≡ record { answer = record { refusal = first checks; bytes = 0 }; out = out }
  written-refused h = sym (written-number (first checks) refl h)

-- the exit of a `?`: what another operation found is what is told
pub code-exit : {T : Type 0} (r : Result T Refusal) (e : Refusal) → IsErrAnd r (λ y. y ≡ e) → code r ≡ number_of e
code-exit r e p = let q = err_from_is_err_and r p in rw (q.1, q.2)
