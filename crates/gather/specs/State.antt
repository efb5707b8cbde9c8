-- A reader's state: how it starts, which states are refused, and what gathering refuses (01: 38, 1, 2, 3, 5 to 12 in this
-- order).
use Rattle.std.specs.Prelude.{ℕ, Bool, false, cond, ◌||◌, List, [], ◌∷◌, ◌++◌, eqb, ltb, Option, None, Some, Result}
use Rattle.refusals.specs.Checks.{Check, ◌when◌}
use Rattle.refusals.specs.Answers.{answer, told}
use Rattle.refusals.specs.declared.Refusal.{Refusal}
use Rattle.transport.specs.Header.{count_of}
use Rattle.transport.specs.Tests.{not188, pid_outside, transport_checks}
use Rattle.gather.specs.declared.Reader.{Reader}

-- ---- the start

-- a reader; with a refusal its number, and a reader of zeros
pub record Started : Type 0 where
  pub refusal : ℕ
  pub reader : Reader

-- a fresh reader is out of step with no count
abbrev pub fresh : ℕ → Reader
fresh pid = record { pid = pid; last = None; in_step = false; waiting = 0 }

-- the reader of zeros that comes with a refused start
abbrev pub no_reader : Reader
no_reader = record { pid = 0; last = Some 0; in_step = false; waiting = 0 }

unfoldable pub start_of : ℕ → Started
start_of pid =
    answer (4 when pid_outside pid ∷ [])
    (λ n. record { refusal = n; reader = no_reader })
    (record { refusal = 0; reader = fresh pid })

-- the answer that a result of `start` stands for
abbrev pub started_told : Result Reader Refusal → Started
started_told r = told (λ n. record { refusal = n; reader = no_reader }) (λ s. record { refusal = 0; reader = s }) r

-- ---- 38: an unfit state, which no accepted call gives

abbrev pub count_over : Option ℕ → Bool
count_over None = false
count_over (Some n) = ltb 15 n

abbrev pub waits_out_of_step : Bool → ℕ → Bool
waits_out_of_step step waiting = cond step false (ltb 0 waiting)

-- a PID as in 4, a count over 15, over 8,201 bytes waiting, or any waiting out of step
unfoldable pub unfit : Reader → Bool
unfit s =
    pid_outside s.pid
    || (count_over s.last || (ltb 8201 s.waiting || waits_out_of_step s.in_step s.waiting))

-- ---- the refusals of gathering

-- 12: same continuity count as the last packet taken
abbrev pub repeats : Option ℕ → ℕ → Bool
repeats None count = false
repeats (Some n) count = eqb count n

-- `room` is how many bytes the gathering buffer has, and `space` how many the output
unfoldable pub gather_checks : Reader → List ℕ → ℕ → ℕ → List Check
gather_checks s t room space =
    38 when unfit s
    ∷ 1 when not188 t
    ∷ 2 when ltb room 8202
    ∷ 3 when ltb space 8385
    ∷ (transport_checks s.pid t ++ (12 when repeats s.last (count_of t) ∷ []))
