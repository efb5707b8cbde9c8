-- From one answer to another: laid out flat, or of lists with the same first number.
-- Assumes nothing.
use mathlib.Core.Path.{◌≡◌, refl, sym, ap, ◌∙◌}
use mathlib.Core.Bool.{true}
use mathlib.Core.List.{List, [], ◌∷◌}
use Prim.Native.Nat.{ℕ}
use Rattle.refusals.specs.Checks.{Check, ◌when◌, first}
use Rattle.refusals.specs.Answers.{Wrote}
use Rattle.demands.specs.Demand1.{Answers, wrote_nothing, Writes}

module _ {A B : Type 0} (checks : List Check) (number : A → ℕ) (refused : ℕ → A) (number_c : B → ℕ) (refused_c : ℕ → B) where
  pub flat : (f : A → B) → ((a : A) → number_c (f a) ≡ number a) → ((n : ℕ) → (n ≡ 0 → ⊥) → f (refused n) ≡ refused_c n)
      → (a : A) → Answers checks number refused a → Answers checks number_c refused_c (f a)
  flat f e z a h = record { numbered = e a ∙ h.numbered; refusal = λ r. ap f (h.refusal r) ∙ z (first checks) r }

pub same_writes : (a b : List Check) (out : List ℕ) (w : Wrote) → first a ≡ first b → Writes a out w → Writes b out w
same_writes a b out w e h =
    record {
      answers = record {
        numbered = h.answers.numbered ∙ e;
        refusal = λ r. h.answers.refusal (λ z. r (sym e ∙ z)) ∙ ap (wrote_nothing out) e;
      };
      kept = h.kept;
    }

-- a refusal that is in hand
pub refuses : (n : ℕ) (out : List ℕ) → Writes (n when true ∷ []) out (wrote_nothing out n)
refuses n out =
    record { answers = record { numbered = refl; refusal = λ r. refl }; kept = record { long = refl; beyond = refl } }
