-- What is known of a body that is read and of a function that is written, once the checks are passed.
-- Assumes nothing.
use mathlib.Core.Path.{◌≡◌, refl}
use mathlib.Core.Bool.{false}
use mathlib.Core.List.{List}
use Prim.Native.Nat.{ℕ, ◌+◌, ◌≤◌}
use native.Mathlib.Omega.{arith}
use lib.ListN.{length, get_or}
use borrow.Author.Tests.{ltb-false}
use Rattle.fields.specs.Parts.{overlay}
use Rattle.refusals.specs.Checks.{first}
use Rattle.refusals.proofs.CheckLaws.{none-holds}
use Rattle.refusals.proofs.AnswerLaws.{answer-accepted, answer-refused, answer-shows, written-accepted, written-refused, written-shows}
use Rattle.functions.specs.Tags.{body_long, body_wrong, bandwidth_reserved}
use Rattle.functions.specs.Function.{function_of, body_of}
use Rattle.functions.specs.Read.{read_checks, no_function, function_read}
use Rattle.functions.specs.Write.{write_checks, Writable, write_of}
use Rattle.functions.specs.declared.Function.{Function}
use Rattle.functions.specs.Read.{FunctionRead}

pub record Readable (tag : ℕ) (body : List ℕ) : Type 0 where
  pub short : body_long (length body) ≡ false
  pub size : body_wrong tag (length body) ≡ false
  pub free : bandwidth_reserved tag (get_or body 0 0) ≡ false

pub readable : (tag : ℕ) (body : List ℕ) → first (read_checks tag body) ≡ 0 → Readable tag body
unfolding read_checks
readable tag body h =
    let n = none-holds (read_checks tag body) tt h in
    record { short = n.0; size = n.1.0; free = n.1.1.0 }

pub writable : (f : Function) (carried out : List ℕ) → first (write_checks f carried (length out)) ≡ 0 → Writable f carried out
unfolding write_checks
writable f carried out h =
    let n = none-holds (write_checks f carried (length out)) tt h in
    record { fit = n.0; short = n.1.0; free = n.1.1.0; room = ltb-false _ _ n.1.1.1.0 }

-- a body has at most 253 bytes
pub at_most : (n : ℕ) → body_long n ≡ false → n ≤ 253
unfolding body_long
at_most n h = omega (arith, ltb-false 255 (n + 2) h)

-- ---- what the two operations show

pub read-shows : (tag : ℕ) (body : List ℕ) → (function_read tag body).refusal ≡ first (read_checks tag body)
unfolding function_read
read-shows tag body = answer-shows (read_checks tag body) _ _ (λ (r : FunctionRead). r.refusal) (λ n. refl) refl

pub read-accepted : (tag : ℕ) (body : List ℕ) → first (read_checks tag body) ≡ 0 → function_read tag body ≡ record { refusal = 0; function = function_of tag body }
unfolding function_read
read-accepted tag body h = answer-accepted (read_checks tag body) _ _ h

pub write-shows : (f : Function) (carried out : List ℕ) → (write_of f carried out).answer.refusal ≡ first (write_checks f carried (length out))
unfolding write_of
write-shows f carried out = written-shows (write_checks f carried (length out)) (body_of f carried) out

pub write-accepted : (f : Function) (carried out : List ℕ) → first (write_checks f carried (length out)) ≡ 0
    → write_of f carried out ≡ record { answer = record { refusal = 0; bytes = length (body_of f carried) }; out = overlay 0 (body_of f carried) out }
unfolding write_of
write-accepted f carried out h = written-accepted (write_checks f carried (length out)) (body_of f carried) out h

-- a refusal gives zeros, and leaves the output as it was
pub read-refused : (tag : ℕ) (body : List ℕ) → (first (read_checks tag body) ≡ 0 → ⊥) → function_read tag body ≡ record { refusal = first (read_checks tag body); function = no_function }
unfolding function_read
read-refused tag body h = answer-refused (read_checks tag body) _ _ h

pub write-refused : (f : Function) (carried out : List ℕ) → (first (write_checks f carried (length out)) ≡ 0 → ⊥)
    → write_of f carried out ≡ record { answer = record { refusal = first (write_checks f carried (length out)); bytes = 0 }; out = out }
unfolding write_of
write-refused f carried out h = written-refused (write_checks f carried (length out)) (body_of f carried) out h
