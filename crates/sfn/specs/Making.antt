-- The function that the arguments of sfn_function_write make. A kind over 7, a wait over 1, a tag unlike the kind, bytes
-- with a kind that carries none, and a value too wide for the type that holds it make none, for which 38 is answered; what
-- is too wide for its bits in the body is judged where the body is written.
use Rattle.std.specs.Prelude.{ℕ, cond, not, List, eqb, ltb, ℤ, pos, negsuc, Option, None, Some}
use Rattle.fields.specs.Signed.{beyond_signed}
use Rattle.refusals.specs.Answers.{Wrote}
use Rattle.functions.specs.Write.{write_of}
use Rattle.functions.specs.declared.Function.{Function}
use Rattle.functions.specs.declared.Function.TheVariants.{TimeOffset, FrequencyOffset, Power, Private, Cell, Enable, Bandwidth, Passed}

-- a negative number is more than any field holds
abbrev pub natural_of : ℤ → ℕ
natural_of (pos n) = n
natural_of (negsuc k) = 0xffffffff

abbrev pub offset_made : ℤ → Option Function
offset_made z = cond (beyond_signed 16 z) None (Some (TimeOffset z))

abbrev pub power_made : ℕ → Option Function
power_made v = cond (ltb 65535 v) None (Some (Power v))

abbrev pub waiting_made : ℕ → ℕ → ℕ → ℕ → Option Function
waiting_made kind v wait reserved =
    cond (ltb 1 wait) None
    (cond (eqb kind 4) (cond (ltb 65535 v) None (Some (Cell v (eqb wait 1) reserved)))
    (cond (not (eqb kind 6)) None (cond (ltb 255 v) None (Some (Bandwidth v (eqb wait 1))))))

unfoldable pub made_of : ℕ → ℕ → ℤ → ℕ → ℕ → ℕ → Option Function
made_of kind tag value wait reserved n =
    cond (eqb kind 7) (Some (Passed tag))
    (cond (not (eqb tag kind)) None
    (cond (eqb kind 3) (Some Private)
    (cond (eqb kind 5) (Some Enable)
    (cond (ltb 0 n) None
    (cond (eqb kind 0) (offset_made value)
    (cond (eqb kind 1) (Some (FrequencyOffset value))
    (cond (eqb kind 2) (power_made (natural_of value))
    (waiting_made kind (natural_of value) wait reserved))))))))

-- the answer, and what the output then holds
abbrev pub function_written : Option Function → List ℕ → List ℕ → Wrote
function_written None bytes out = record { answer = record { refusal = 38; bytes = 0 }; out = out }
function_written (Some f) bytes out = write_of f bytes out
