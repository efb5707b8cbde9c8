-- Reading a function's body: tag and body to fields (01: 38, 28, 29 in this order).
use Rattle.std.specs.Prelude.{ℕ, List, [], ◌∷◌, pos, length, get_or, Result}
use Rattle.refusals.specs.Checks.{Check, ◌when◌}
use Rattle.refusals.specs.Answers.{answer, told}
use Rattle.refusals.specs.declared.Refusal.{Refusal}
use Rattle.functions.specs.Tags.{body_long, body_wrong, bandwidth_reserved}
use Rattle.functions.specs.Function.{function_of}
use Rattle.functions.specs.declared.Function.{Function}
use Rattle.functions.specs.declared.Function.TheVariants.{TimeOffset}

unfoldable pub read_checks : ℕ → List ℕ → List Check
read_checks tag body =
    38 when body_long (length body)
    ∷ 28 when body_wrong tag (length body)
    ∷ 29 when bandwidth_reserved tag (get_or body 0 0)
    ∷ []

-- a function; with a refusal its number, and a function of zeros
pub record FunctionRead : Type 0 where
  pub refusal : ℕ
  pub function : Function

-- the value of zeros that a refusal comes with: of kind 0, and the offset 0
abbrev pub no_function : Function
no_function = TimeOffset (pos 0)

-- the answer that a result of `function_read` stands for
abbrev pub function_told : Result Function Refusal → FunctionRead
function_told r = told (λ n. record { refusal = n; function = no_function }) (λ f. record { refusal = 0; function = f }) r

unfoldable pub function_read : ℕ → List ℕ → FunctionRead
function_read tag body =
    answer (read_checks tag body)
    (λ n. record { refusal = n; function = no_function })
    (record { refusal = 0; function = function_of tag body })
