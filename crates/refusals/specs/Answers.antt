-- What an operation answers, made of its checks and of what it gives where none of them holds.
use Rattle.std.specs.Prelude.{◌≡◌, ℕ, cond, List, eqb, length, Result, Ok, Err}
use Rattle.fields.specs.Parts.{overlay}
use Rattle.refusals.specs.Checks.{Check, first}
use Rattle.refusals.specs.Refusals.{number_of}
use Rattle.refusals.specs.declared.Refusal.{Refusal}
use Rattle.refusals.specs.declared.Written.{Written}

-- `accepted` where no check holds, and else what is answered with the number of the first that does
unfoldable pub answer : {A : Type 0} → List Check → (ℕ → A) → A → A
answer checks refused accepted = cond (eqb (first checks) 0) accepted (refused (first checks))

-- the answer that a function's result stands for: with a refusal what is answered with its number
abbrev pub told : {A B : Type 0} → (ℕ → B) → (A → B) → Result A Refusal → B
told refused accepted (Ok a) = accepted a
told refused accepted (Err e) = refused (number_of e)

-- the number of the refusal, and 0 without one
abbrev pub code : {A : Type 0} → Result A Refusal → ℕ
code r = told (λ n. n) (λ a. 0) r

-- an answer, and what the lent output holds after it
pub record Wrote : Type 0 where
  pub answer : Written
  pub out : List ℕ

-- so many bytes, or a refusal and 0
abbrev pub bytes_of : Result ℕ Refusal → Written
bytes_of r = told (λ n. record { refusal = n; bytes = 0 }) (λ b. record { refusal = 0; bytes = b }) r

abbrev pub Shows : Result ℕ Refusal → Written → Type 0
Shows r w = w ≡ bytes_of r

-- an operation that writes: `result` lies over the front of the output, and all beyond it is as it was; with a refusal
-- the number, 0 bytes, and the output as it was
unfoldable pub written : List Check → List ℕ → List ℕ → Wrote
written checks result out =
    answer checks
    (λ n. record { answer = record { refusal = n; bytes = 0 }; out = out })
    (record { answer = record { refusal = 0; bytes = length result }; out = overlay 0 result out })
