-- Site timing (01, "MIP and site timing"): when a mega-frame is emitted, and how long a site holds it back.
use Rattle.std.specs.Prelude.{ℕ, suc, ◌+◌, ◌-◌, ◌%◌, Bool, List, [], ◌∷◌, leb, ℤ, pos, negsuc, ◌+ℤ◌, ◌-ℤ◌, Result}
use Rattle.fields.specs.Signed.{beyond_signed}
use Rattle.refusals.specs.Checks.{Check, ◌when◌}
use Rattle.refusals.specs.Answers.{answer, told}
use Rattle.refusals.specs.declared.Refusal.{Refusal}
use Rattle.mip.specs.Layout.{second}
use Rattle.mip.specs.declared.Steps.{Steps}

-- the remainder of a sum that may be negative: it never is (`negsuc k` is one less than the negative of k)
unfoldable pub modulo : ℤ → ℕ → ℕ
modulo (pos n) m = n % m
modulo (negsuc k) m = m - suc (k % m)

-- times within a second are steps of 100 ns, a type of their own
abbrev pub steps : ℕ → Steps
steps n = record { 0 = n }

abbrev pub over : Steps → Bool
over t = leb second t.0

-- (stamp + maximum delay + time offset) modulo 10,000,000
abbrev pub emitted : Steps → Steps → ℤ → Steps
emitted stamp delay offset = steps (modulo (pos (stamp.0 + delay.0) +ℤ offset) second)

-- that less the reception time, modulo 10,000,000
abbrev pub held : Steps → Steps → ℤ → Steps → Steps
held stamp delay offset reception = steps (modulo (pos (emitted stamp delay offset).0 -ℤ pos reception.0) second)

-- a time stamp or a maximum delay of a second or more
abbrev pub time_checks : Steps → Steps → List Check
time_checks stamp delay = 33 when over stamp ∷ 34 when over delay ∷ []

unfoldable pub emission_checks : Steps → Steps → ℤ → List Check
emission_checks stamp delay offset =
    38 when beyond_signed 16 offset
    ∷ 33 when over stamp
    ∷ 34 when over delay
    ∷ []

unfoldable pub extra_checks : Steps → Steps → ℤ → Steps → List Check
extra_checks stamp delay offset reception =
    38 when beyond_signed 16 offset
    ∷ 33 when over stamp
    ∷ 34 when over delay
    ∷ 37 when over reception
    ∷ []

-- an answer: no refusal and a time, or a refusal and no steps
pub record Time : Type 0 where
  pub refusal : ℕ
  pub steps : Steps

abbrev pub time : ℕ → Steps → Time
time refusal t = record { refusal = refusal; steps = t }

abbrev pub timed : List Check → Steps → Time
timed checks t = answer checks (λ n. time n (steps 0)) (time 0 t)

-- what a result of an operation that gives a time stands for
abbrev pub time_told : Result Steps Refusal → Time
time_told r = told (λ n. time n (steps 0)) (λ t. time 0 t) r

unfoldable pub emission_of : Steps → Steps → ℤ → Time
emission_of stamp delay offset = timed (emission_checks stamp delay offset) (emitted stamp delay offset)

unfoldable pub extra_of : Steps → Steps → ℤ → Steps → Time
extra_of stamp delay offset reception = timed (extra_checks stamp delay offset reception) (held stamp delay offset reception)
