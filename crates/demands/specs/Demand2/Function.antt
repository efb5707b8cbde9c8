-- The bodies of functions (01, the table of tags).
use Rattle.std.specs.Prelude.{ℕ, ◌≤◌, ◌≡◌, true, List, length}
use Rattle.fields.specs.Numbers.{Bytes}
use Rattle.refusals.specs.Checks.{first}
use Rattle.functions.specs.Function.{tag_of, function_of, carries, body_of}
use Rattle.functions.specs.Read.{read_checks}
use Rattle.functions.specs.Write.{write_checks}
use Rattle.functions.specs.declared.Function.{Function}
use Rattle.demands.specs.Library.{Library}
use Rattle.demands.specs.Demand2.Writing.{laid, written_by}

pub record Functions (lib : Library) : Type 0 where
  -- where no check of 01's list holds: what the body says under its tag, and the body of a function
  pub reads : (tag : ℕ) (body : List ℕ) → first (read_checks tag body) ≡ 0
      → lib.function_read tag body ≡ record { refusal = 0; function = function_of tag body }
  pub writes : (f : Function) (carried out : List ℕ) → first (write_checks f carried (length out)) ≡ 0
      → lib.function_write f carried out ≡ laid (body_of f carried) out
  -- what was written is read, under the function's tag, as the same function; a function that carries bytes has them as its body
  pub back : (f : Function) (carried out : List ℕ) → (lib.function_write f carried out).answer.refusal ≡ 0
      → (lib.function_read (tag_of f) (written_by (lib.function_write f carried out)) ≡ record { refusal = 0; function = f })
      × (carries f ≡ true → written_by (lib.function_write f carried out) ≡ carried)
  -- what is read has the tag, and is written as the same body
  pub forth : (tag : ℕ) (body out : List ℕ) → Bytes body → (lib.function_read tag body).refusal ≡ 0 → length body ≤ length out
      → (tag_of (lib.function_read tag body).function ≡ tag)
      × (lib.function_write (lib.function_read tag body).function body out ≡ laid body out)
