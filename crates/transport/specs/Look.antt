-- What is found in a transport packet, read once.
use Rattle.std.specs.Prelude.{ℕ, Bool, false, cond, List, Result, is_some, unwrap_or}
use Rattle.refusals.specs.Answers.{answer, told}
use Rattle.refusals.specs.declared.Refusal.{Refusal}
use Rattle.transport.specs.Header.{count_of, starts, payload_at, pointer_of}
use Rattle.transport.specs.Tests.{look_checks}
use Rattle.transport.specs.declared.Looked as given

-- what a look answers, laid out in numbers
pub record Looked : Type 0 where
  pub refusal : ℕ
  pub count : ℕ
  pub begins : Bool
  pub payload : ℕ
  pub pointer : ℕ

-- the count, whether a T2-MI packet begins here, where the payload begins, and the pointer, which is 0 where none begins
abbrev pub stands_in : List ℕ → Looked
stands_in t =
    record {
      refusal = 0;
      count = count_of t;
      begins = starts t;
      payload = payload_at t;
      pointer = cond (starts t) (pointer_of t) 0;
      -- a flag of the adaptation field, where one is asked for
    }

-- a refusal: its number and zeros
abbrev pub nothing_in : ℕ → Looked
nothing_in n =
    record {
      refusal = n;
      count = 0;
      begins = false;
      payload = 0;
      pointer = 0;
    }

unfoldable pub look_of : ℕ → List ℕ → Looked
look_of pid t = answer (look_checks pid t) nothing_in (stands_in t)

-- the answer that a result of `look` stands for: a T2-MI packet begins where there is a pointer
abbrev pub seen_told : given.Looked → Looked
seen_told s =
    record {
      refusal = 0;
      count = s.count;
      begins = is_some s.pointer;
      payload = s.payload;
      pointer = unwrap_or s.pointer 0;
    }

abbrev pub look_told : Result given.Looked Refusal → Looked
look_told r = told nothing_in seen_told r
